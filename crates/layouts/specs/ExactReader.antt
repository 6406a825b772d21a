-- The reader "accepts exactly when some list of well-formed requests (none of 7 to 11 applies) has a legal plan whose writes leave those values".
use Rattle.std.specs.Prelude.{◌≡◌, List, ℕ, ◌<◌, get_or, replicate, None, Some}
use Rattle.requests.specs.declared.Device.{Device}
use Rattle.requests.specs.declared.Device.TheVariants.{G, S, C, B}
use Rattle.requests.specs.declared.Opening.{Opening}
use Rattle.requests.specs.declared.Setup.{Setup}
use Rattle.requests.specs.declared.Request.{Request}
use Rattle.requests.specs.Refusals.{answer_number}
use Rattle.requests.specs.Devices.{counter_count, capacity, setup_of}
use Rattle.requests.specs.Checks.{Formed}
use Rattle.plans.specs.declared.Place.{Place}
use Rattle.plans.specs.Lists.{All}
use Rattle.plans.specs.Legal.{Legal}
use Rattle.layouts.specs.Layout.{layout_of, control_at, rsp0_at, rsp1_at, mm_cfg_at, match_at, mask_at, ubox_at, pebs_at}
use Rattle.layouts.specs.Writes.{writes, apply}
use Rattle.layouts.specs.Read.{Reading, answer_of, read_of}
use Rattle.layouts.specs.Told.{told_by, not_ours, told_plan}
use Rattle.layouts.specs.declared.FilterValues.{FilterValues}
use Rattle.layouts.specs.declared.RegisterValues.{RegisterValues}

-- the filter values are those of the device's registers
abbrev pub FiltersShow : Device → FilterValues → (ℕ → ℕ) → Type 0
FiltersShow G v r = (v.rsp0 ≡ r rsp0_at) × (v.rsp1 ≡ r rsp1_at)
FiltersShow S v r = (v.mm_cfg ≡ r mm_cfg_at) × (v.match_word ≡ r match_at) × (v.mask_word ≡ r mask_at)
FiltersShow (C b) v r = Unit {0}
FiltersShow B v r = Unit {0}

-- the values are those of the device's registers
pub record Shows (d : Device) (v : RegisterValues) (r : ℕ → ℕ) : Type 0 where
  pub control : (k : ℕ) → k < counter_count d → get_or v.control k 0 ≡ r (control_at d k)
  pub filters : FiltersShow d v.filters r
  pub global : v.global ≡ r (layout_of d).global
  pub ubox : v.ubox ≡ r ubox_at
  pub pebs : v.pebs ≡ r pebs_at

-- a legal plan of well-formed requests whose writes leave the values, from some registers
pub record LeavesValues (s : Setup) (v : RegisterValues) : Type 0 where
  pub requests : List Request
  pub places : List Place
  pub before : ℕ → ℕ
  pub formed : All (Formed s) requests
  pub legal : Legal s requests places
  pub shown : Shows s.device v (apply (writes s requests places) before)

-- refused with the number, and nothing is told of any counter
abbrev pub RefusedWith : ℕ → Reading → Type 0
RefusedWith n reading = (answer_number (answer_of reading) ≡ Some n) × (told_by reading ≡ replicate capacity not_ours)

pub record ExactReader : Type 0 where
  -- "the reader gives only 3 and 15, 3 first": 3 where open would refuse, with 3, 7 or 10
  pub opening : (o : Opening) (v : RegisterValues) → setup_of o ≡ None → RefusedWith 3 (read_of o v)
  -- values that some plan leaves are accepted, and told as that plan
  pub accepted : (o : Opening) (s : Setup) (v : RegisterValues) → setup_of o ≡ Some s → (plan : LeavesValues s v)
      → (answer_number (answer_of (read_of o v)) ≡ None) × (told_by (read_of o v) ≡ told_plan s plan.requests plan.places)
  -- no others are accepted ..
  pub only : (o : Opening) (s : Setup) (v : RegisterValues) → setup_of o ≡ Some s → answer_number (answer_of (read_of o v)) ≡ None → LeavesValues s v
  -- .. but refused with 15
  pub refused : (o : Opening) (s : Setup) (v : RegisterValues) → setup_of o ≡ Some s → ¬ LeavesValues s v → RefusedWith 15 (read_of o v)
