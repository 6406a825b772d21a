-- What the reader tells of a counter, in document 01's values; and what a plan has at each counter, written off its requests and places.
use Rattle.std.specs.Prelude.{List, [], ◌∷◌, map, Bool, true, false, ℕ, eqb, Option, None, Some}
use Rattle.requests.specs.declared.Setup.{Setup}
use Rattle.requests.specs.declared.Request.{Request}
use Rattle.requests.specs.declared.Request.TheVariants.{Event, Packet, Offcore, Latency}
use Rattle.requests.specs.Choice.{pick}
use Rattle.requests.specs.Bits.{latency_word}
use Rattle.requests.specs.Devices.{has, capacity}
use Rattle.plans.specs.declared.Place.{Place}
use Rattle.plans.specs.Places.{first, second}
use Rattle.plans.specs.Legal.{of_all}
use Rattle.layouts.specs.Layout.{tabulate, offcore_code, rsp_mask}
use Rattle.layouts.specs.declared.FilterRead.TheVariants.{NoFilter, Rsp, MatchMask}
use Rattle.layouts.specs.declared.CounterState.{CounterState}
use Rattle.layouts.specs.declared.CounterState.TheVariants.{NotOurs, Off, Counts}
use Rattle.layouts.specs.Read.{Reading, states_of}

-- whether the counter is ours; its event (code, unit mask) unless it is off; its RSP register; the words of its filter
pub record Told : Type 0 where
  pub ours : Bool
  pub event : Option (ℕ × ℕ)
  pub register : Option ℕ
  pub words : List ℕ

-- "not ours"
abbrev pub not_ours : Told
not_ours = record { ours = false; event = None; register = None; words = [] }

-- "off"
abbrev pub off : Told
off = record { ours = true; event = None; register = None; words = [] }

-- "event with its filter register and words"
abbrev pub counting : ℕ → ℕ → Option ℕ → List ℕ → Told
counting c m i ws = record { ours = true; event = Some (c, m); register = i; words = ws }

-- the values of each case
unfoldable pub told : CounterState → Told
told NotOurs = not_ours
told Off = off
told (Counts c m NoFilter) = counting c m None []
told (Counts c m (Rsp i w)) = counting c m (Some i) (w ∷ [])
told (Counts c m (MatchMask x y)) = counting c m None (x ∷ y ∷ [])

-- what a reading tells, counter by counter
unfoldable pub told_by : Reading → List Told
told_by reading = map told (states_of reading)

-- the counters of a placed request, with what is to be told of them
unfoldable pub told_of : Request → Place → List (ℕ × Told)
told_of (Event c m a) p = (first p, counting c m None []) ∷ []
told_of (Packet x y a) p = (first p, counting 0 0 None (x ∷ y ∷ [])) ∷ []
told_of (Offcore w a) p = (first p, counting offcore_code (rsp_mask (second p)) (Some (second p)) (w ∷ [])) ∷ []
told_of (Latency t a b) p =
    (first p, counting offcore_code (rsp_mask 0) (Some 0) (latency_word 0 t ∷ [])) ∷ (second p, counting offcore_code (rsp_mask 1) (Some 1) (latency_word 1 t ∷ [])) ∷ []

-- counter k's, off where no request has it
unfoldable pub told_at : List (ℕ × Told) → ℕ → Told
told_at [] k = off
told_at (x ∷ xs) k = pick (eqb x.0 k) x.1 (told_at xs k)

-- a plan, counter by counter; "An unusable counter is told as not ours"
unfoldable pub told_plan : Setup → List Request → List Place → List Told
told_plan s rs ps = tabulate capacity (λ k. pick (has s.usable k) (told_at (of_all told_of rs ps) k) not_ours)
