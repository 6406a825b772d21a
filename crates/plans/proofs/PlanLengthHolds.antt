-- How many places and counters a plan has: each request has a counter of its own, and by `differ-at-most` these are at most the usable ones. Assumes nothing.
use Rattle.std.specs.Prelude.{Some}
use mathlib.Core.Path.{◌≡◌, refl}
use mathlib.Core.List.{List, [], ◌∷◌, ◌++◌, flat_map}
use Prim.Native.Nat.{◌<◌, ◌≤◌}
use native.Mathlib.Omega.{arith}
use lib.ListN.{length, length-append}
use Rattle.requests.specs.declared.Device.{Device}
use Rattle.requests.specs.declared.Setup.{Setup}
use Rattle.requests.specs.declared.Request.{Request}
use Rattle.requests.specs.Devices.{capacity, counter_count}
use Rattle.requests.proofs.DeviceNumbers.{numbers}
use Rattle.plans.specs.declared.Place.{Place}
use Rattle.plans.specs.declared.Place.TheVariants.{Counter, WithRsp, Pair}
use Rattle.plans.specs.Lists.{Each, none, and}
use Rattle.plans.specs.Places.{counted_of, counters_of}
use Rattle.plans.specs.Legal.{counters, Legal, HasPlan}
use Rattle.plans.specs.Search.{first_plan}
use Rattle.plans.specs.Parts.{usable_count}
use Rattle.plans.specs.PlanLength.{PlanLength}
use Rattle.plans.proofs.Members.{size_at_most, differ_at_most}
use Rattle.plans.proofs.FirstFound.{first_plan_lem}

each_length : {A B : Type 0} {R : A → B → Type 0} {l : List A} {m : List B} → Each R l m → length m ≡ length l
each_length none = refl
each_length (and r rest) = omega (arith, each_length rest)

-- a place has a counter
has_counter : (p : Place) → 0 < length (counters_of p)
unfolding counters_of counted_of
has_counter (Counter k) = omega arith
has_counter (WithRsp k i) = omega arith
has_counter (Pair j k) = omega arith

-- so a plan has at least as many counters as places
places_at_most : (ps : List Place) → length ps ≤ length (counters ps)
unfolding counters flat_map
places_at_most [] = omega arith
places_at_most (p ∷ ps) = omega (arith, places_at_most ps, has_counter p, length-append (counters_of p) (counters ps))

device_at_most : (d : Device) → counter_count d ≤ capacity
unfolding capacity
device_at_most d = omega (arith, (numbers d).counters_few)

module _ (s : Setup) where
  counters_at_most : (rs : List Request) (ps : List Place) → Legal s rs ps → length (counters ps) ≤ usable_count s
  counters_at_most rs ps l = differ_at_most (counter_count s.device) s.usable (counters ps) l.differ l.usable_only

  usable_at_most : usable_count s ≤ counter_count s.device
  usable_at_most = size_at_most (counter_count s.device) s.usable

  pub at_most : (rs : List Request) → HasPlan s rs → length rs ≤ usable_count s
  at_most rs h = omega (arith, each_length h.1.allowed, places_at_most h.0, counters_at_most rs h.0 h.1)

  full : (rs : List Request) (r : Request) → usable_count s ≤ length rs → ¬ HasPlan s (rs ++ r ∷ [])
  full rs r b h = omega (arith, b, at_most (rs ++ r ∷ []) h, length-append rs (r ∷ []))

  found_legal : (rs : List Request) (ps : List Place) → first_plan s rs ≡ Some ps → Legal s rs ps
  found_legal rs ps e = (first_plan_lem.sound s rs ps e).legal

  found_at_most : (rs : List Request) (ps : List Place) → first_plan s rs ≡ Some ps → length rs ≤ capacity
  found_at_most rs ps e = omega (arith, at_most rs (ps, found_legal rs ps e), usable_at_most, device_at_most s.device)

pub plan_length : PlanLength
plan_length = record {
  places = λ s rs ps l. each_length l.allowed;
  counters_at_most = counters_at_most;
  usable_at_most = usable_at_most;
  device_at_most = device_at_most;
  full = full;
  found_places = λ s rs ps e. each_length (found_legal s rs ps e).allowed;
  found_at_most = found_at_most;
}
