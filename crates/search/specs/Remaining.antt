-- The plan of the requests that remain on n counters, which the search answers at each step.
use Rattle.std.specs.Prelude.{List, ℕ, ◌-◌, Option, None, Some}
use Rattle.requests.specs.declared.CounterSet.{CounterSet}
use Rattle.plans.specs.declared.Place.{Place}
use Rattle.plans.specs.declared.Place.TheVariants.{Counter}
use Rattle.plans.specs.declared.Room.{Room}
use Rattle.plans.specs.Search.{take_counter, first_from, then_rest, plan_in}
use Rattle.search.specs.Rows.{rows_from}

-- the first plan of the requests from row `at` to row `count`, in the room
abbrev pub plan_from : ℕ → List ℕ → ℕ → ℕ → Room → Option (List Place)
plan_from n rows at count room = plan_in n (rows_from rows at (count - at)) room

-- the same in the room that is left
abbrev pub plan_after : ℕ → List ℕ → ℕ → ℕ → Option Room → Option (List Place)
plan_after n rows at count (Some room) = plan_from n rows at count room
plan_after n rows at count None = None

-- the plan that begins with counter k, taken from the room
unfoldable pub counter_first : ℕ → List ℕ → ℕ → ℕ → CounterSet → Room → ℕ → Option (List Place)
counter_first n rows next count allowed room k = then_rest (plan_in n (rows_from rows next (count - next))) (Counter k) (take_counter allowed k room)

-- the first plan that begins with a counter
abbrev pub plan_counter : ℕ → List ℕ → ℕ → ℕ → CounterSet → Room → Option (List Place)
plan_counter n rows next count allowed room = first_from (counter_first n rows next count allowed room) 0 n
