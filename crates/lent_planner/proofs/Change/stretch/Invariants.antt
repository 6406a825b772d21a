use Rattle.std.proofs.Common.{◌≡◌, ◌+◌, ◌≤◌, drop}
use Rattle.lent_planner.specs.Changes.{clear_all}
use Rattle.lent_planner.proofs.Change.stretch.Given as goal

abbrev pub invariant-loop-at : goal.invariant-loop-at
invariant-loop-at l = record {
  near : l.k ≤ l.initial.k + l.at-index;
  few : l.room ≤ 65536;
  same : clear_all (drop l.at-index l.self.at) l.k l.room ≡ clear_all l.self.at l.initial.k 65536;
}
