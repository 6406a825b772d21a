use Rattle.lent_planner.proofs.MovingSteps.{Moving}
use Rattle.lent_planner.proofs.Change.apply.Given as goal

abbrev pub invariant-loop-i : goal.invariant-loop-i
invariant-loop-i l = Moving l.self l.fn.rows l.i l.k l.stop l.rows
