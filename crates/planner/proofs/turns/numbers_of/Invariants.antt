use Rattle.planner.proofs.TakingTurns.{Counted}
use Rattle.planner.proofs.turns.numbers_of.Given as goal

abbrev pub invariant-loop : goal.invariant-loop
invariant-loop l = Counted l.initial.next l.n l.next l.numbers l.counter
