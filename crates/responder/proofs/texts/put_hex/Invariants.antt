use mathlib.Core.Path.{◌≡◌}
use Prim.Native.Nat.{◌-◌}
use lib.ListN.{take}
use Rattle.grammar.specs.Text.{hex_text}
use Rattle.responder.proofs.Putting.{PutFrom}
use Rattle.responder.proofs.texts.put_hex.Given as goal

abbrev pub invariant-loop-i : goal.invariant-loop-i
invariant-loop-i l =
    (hex_text (l.width - l.i) l.rest ≡ take (l.width - l.i) (hex_text l.width l.n)) × PutFrom (l.width - l.i) l.initial.out l.at (hex_text l.width l.n) l.out
