-- The global register carries the number that open was given: `FixedEnables`, by the two values that are written there, and for the reader by
-- the plan that left an accepted value.
use Rattle.std.specs.Prelude.{None, Some}
use mathlib.Core.Path.{◌≡◌, sym, subst, ◌∙◌}
use mathlib.Core.List.{List, Memᴰ}
use Prim.Native.Nat.{ℕ, ◌≤◌}
use Rattle.requests.specs.declared.Opening.{Opening}
use Rattle.requests.specs.declared.Setup.{Setup}
use Rattle.requests.specs.declared.Request.{Request}
use Rattle.requests.specs.Devices.{all_counters, all_fixed, setup_of}
use Rattle.requests.specs.Refusals.{answer_number}
use Rattle.requests.proofs.DeviceNumbers.{numbers}
use Rattle.requests.proofs.OpeningsTaken.{openings}
use Rattle.plans.specs.declared.Place.{Place}
use Rattle.plans.specs.Legal.{Legal}
use Rattle.layouts.specs.Layout.{layout_of}
use Rattle.layouts.specs.Settings.{settings_of}
use Rattle.layouts.specs.Writes.{writes}
use Rattle.layouts.specs.Read.{read_of, answer_of}
use Rattle.layouts.specs.FixedEnables.{Carries, FixedEnables}
use Rattle.layouts.specs.declared.RegisterValues.{RegisterValues}
use Rattle.layouts.proofs.GlobalValues.{first_carries, last_carries}
use Rattle.layouts.proofs.OthersUntouched.{global_all}
use Rattle.layouts.proofs.PlanWords.{global_left}
use Rattle.layouts.proofs.ExactReader.{exact_reader}

-- the number of an opening that is taken: the setup's, and one of the device's
module _ (o : Opening) (s : Setup) (opened : setup_of o ≡ Some s) where
  number : o.fixed ≡ s.fixed
  number = (openings.only o s opened).fixed

  few : s.fixed ≤ all_fixed s.device
  few = rw (← number, (numbers s.device).fixed_most) (openings.only o s opened).given.fixed_at_most

  written : (rs : List Request) (ps : List Place) → Legal s rs ps
      → (v : ℕ) → Memᴰ ((layout_of s.device).global, v) (writes s rs ps) → Carries o.fixed (all_counters s.device) v
  written rs ps legal v m =
      rw number (global_all s rs ps (Carries s.fixed (all_counters s.device)) (first_carries s few) (last_carries s rs ps legal few) v m)

  read : (v : RegisterValues) → answer_number (answer_of (read_of o v)) ≡ None → Carries o.fixed (all_counters s.device) v.global
  unfolding settings_of
  read v accepted =
      let plan = exact_reader.only o s v opened accepted in
      let left = plan.shown.global ∙ global_left s plan.requests plan.places plan.before in
      rw number (subst (Carries s.fixed (all_counters s.device)) (sym left) (last_carries s plan.requests plan.places plan.legal few))

pub fixed_enables_lem : FixedEnables
fixed_enables_lem = record { written = λ o s opened. written o s opened; read = λ o s v opened. read o s opened v }
