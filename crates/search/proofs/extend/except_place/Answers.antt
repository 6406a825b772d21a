use mathlib.Core.List.{[], ◌∷◌}
use Rattle.plans.specs.Places.{counted_of, counters_of}
use Rattle.search.proofs.FreeBeside.{without_both}
use Rattle.search.proofs.extend.except_place.Goals as goal

pub returns-in-Pair : goal.returns-in-Pair
unfolding counters_of counted_of
returns-in-Pair c = rw c.in-Pair.is (without_both (_ ∷ []) (_ ∷ []) c.except.ensures c.except-in-Pair.ensures)
