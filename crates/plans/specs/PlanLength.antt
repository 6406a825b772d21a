-- How many places and counters a plan has: so a turn searches no further once as many requests are taken as counters are usable, and a plan fits an array.
use Rattle.std.specs.Prelude.{◌≡◌, List, [], ◌∷◌, ◌++◌, ◌≤◌, length, Some}
use Rattle.requests.specs.declared.Device.{Device}
use Rattle.requests.specs.declared.Setup.{Setup}
use Rattle.requests.specs.declared.Request.{Request}
use Rattle.requests.specs.Devices.{capacity, counter_count}
use Rattle.plans.specs.Legal.{Legal, HasPlan, counters}
use Rattle.plans.specs.Search.{first_plan}
use Rattle.plans.specs.Parts.{usable_count}
use Rattle.plans.specs.declared.Place.{Place}

pub record PlanLength : Type 0 where
  -- a plan has one place for each request
  pub places : (s : Setup) (rs : List Request) (ps : List Place) → Legal s rs ps → length ps ≡ length rs
  -- it has at most as many counters as are usable
  pub counters_at_most : (s : Setup) (rs : List Request) (ps : List Place) → Legal s rs ps → length (counters ps) ≤ usable_count s
  -- these are counters of the device, and arrays have room for all of those
  pub usable_at_most : (s : Setup) → usable_count s ≤ counter_count s.device
  pub device_at_most : (d : Device) → counter_count d ≤ capacity
  -- where as many requests are taken as counters are usable, no further request fits
  pub full : (s : Setup) (rs : List Request) (r : Request) → usable_count s ≤ length rs → ¬ HasPlan s (rs ++ r ∷ [])
  -- the first plan has one place for each request, and arrays have room for it
  pub found_places : (s : Setup) (rs : List Request) (ps : List Place) → first_plan s rs ≡ Some ps → length ps ≡ length rs
  pub found_at_most : (s : Setup) (rs : List Request) (ps : List Place) → first_plan s rs ≡ Some ps → length rs ≤ capacity
