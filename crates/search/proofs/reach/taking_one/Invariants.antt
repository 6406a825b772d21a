use mathlib.Core.Path.{◌≡◌}
use Rattle.plans.specs.Reach.{taking_one}
use Rattle.search.proofs.reach.taking_one.Given as goal

abbrev pub invariant-loop-k : goal.invariant-loop-k
invariant-loop-k l = l.left ≡ taking_one l.k l.allowed l.sets
