use Rattle.lent_planner.proofs.SelectSteps.{Far}
use Rattle.lent_planner.proofs.choose.select.Given as goal

abbrev pub invariant-loop-i : goal.invariant-loop-i
invariant-loop-i l = Far l.fn.setup l.rows l.i l.t
