use Prim.Native.Nat.{◌*◌}
use lib.ListN.{take}
use Rattle.answers.specs.Replies.{set_lines}
use Rattle.responder.specs.Texts.{Put}
use Rattle.responder.proofs.set_lines.put_sets.Given as goal

abbrev pub invariant-loop-i : goal.invariant-loop-i
invariant-loop-i l = Put l.initial.out l.at (set_lines (take (2 * l.i) l.list)) l.out l.next
