use mathlib.Core.List.{◌++◌}
use lib.ListN.{drop}
use Rattle.planner.proofs.TakingTurns.{Written}
use Rattle.planner.proofs.turns.take_turns.Given as goal

abbrev pub invariant-loop-end : goal.invariant-loop-end
invariant-loop-end l = Written l.initial.next l.n l.initial.out l.fn.ends l.next l.at l.end-index l.out (l.end-items ++ drop l.n l.fn.ends)
