use Rattle.std.proofs.Common.{◌≡◌, ◌+◌, ◌≤◌, drop}
use Rattle.lent_planner.specs.Changes.{past_all_lem}
use Rattle.lent_planner.proofs.Change.ahead.Given as goal

abbrev pub invariant-loop-at : goal.invariant-loop-at
invariant-loop-at l = record {
  near : l.k ≤ l.initial.k + l.at-index;
  same : past_all_lem (drop l.at-index l.self.at) l.k ≡ past_all_lem l.self.at l.initial.k;
}
