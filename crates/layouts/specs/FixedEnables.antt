-- Order 2: "every write to 038F carries it", and the reader "accepts only that value".
use Rattle.std.specs.Prelude.{◌≡◌, ℕ, ◌+◌, ◌*◌, ◌^◌, ◌≤◌, None, Some}
use mathlib.Core.List.{List, Memᴰ}
use Rattle.requests.specs.declared.Opening.{Opening}
use Rattle.requests.specs.declared.Setup.{Setup}
use Rattle.requests.specs.declared.Request.{Request}
use Rattle.requests.specs.Devices.{all_counters, setup_of}
use Rattle.requests.specs.Refusals.{answer_number}
use Rattle.plans.specs.declared.Place.{Place}
use Rattle.plans.specs.Legal.{Legal}
use Rattle.layouts.specs.Layout.{layout_of}
use Rattle.layouts.specs.Writes.{writes}
use Rattle.layouts.specs.Read.{answer_of, read_of}
use Rattle.layouts.specs.declared.RegisterValues.{RegisterValues}

-- the value is the number in bits 34:32, with at most these bits below
pub record Carries (fixed most v : ℕ) : Type 0 where
  pub low : ℕ
  pub value : v ≡ fixed * 2 ^ 32 + low
  pub at_most : low ≤ most

pub record FixedEnables : Type 0 where
  -- each value that a plan's list writes to the global control register carries the number that open was given, also where the plan is empty
  pub written : (o : Opening) (s : Setup) → setup_of o ≡ Some s
      → (rs : List Request) (ps : List Place) → Legal s rs ps
      → (v : ℕ) → Memᴰ ((layout_of s.device).global, v) (writes s rs ps) → Carries o.fixed (all_counters s.device) v
  -- so does the value of each reading that is accepted, with the number that the reader was given
  pub read : (o : Opening) (s : Setup) (v : RegisterValues) → setup_of o ≡ Some s
      → answer_number (answer_of (read_of o v)) ≡ None → Carries o.fixed (all_counters s.device) v.global
