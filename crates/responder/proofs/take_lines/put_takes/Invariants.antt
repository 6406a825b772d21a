use mathlib.Core.List.{flat_map}
use lib.ListN.{take, drop}
use Rattle.planner.specs.Selections.{planned}
use Rattle.queue_rows.specs.Rows.{queue_in}
use Rattle.answers.specs.Replies.{take_lines}
use Rattle.responder.specs.Texts.{Put}
use Rattle.responder.proofs.take_lines.put_takes.Given as goal

abbrev pub invariant-loop-i : goal.invariant-loop-i
invariant-loop-i l = Put l.initial.out l.at (flat_map take_lines (planned l.code (take l.i (drop l.front (queue_in l.ids l.rows))))) l.out l.next
