use mathlib.Core.Path.{◌≡◌}
use Prim.Native.Nat.{◌≤◌}
use lib.ListN.{length, take}
use Rattle.grammar.specs.Text.{decimal_text}
use Rattle.responder.proofs.Putting.{PutFrom}
use Rattle.responder.proofs.texts.put_decimal.Given as goal

abbrev pub invariant-loop-rest : goal.invariant-loop-rest
invariant-loop-rest l = (l.rest ≤ l.n) × (l.i ≡ length (decimal_text l.rest)) × (decimal_text l.rest ≡ take l.i (decimal_text l.n)) × PutFrom l.i l.initial.out l.at (decimal_text l.n) l.out

abbrev pub decreases-loop-rest : goal.decreases-loop-rest
decreases-loop-rest l = l.rest
