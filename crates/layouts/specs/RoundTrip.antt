-- "Writes of a turn, applied to any registers and read, give that turn's plan counter by counter."
use Rattle.std.specs.Prelude.{◌≡◌, List, ℕ, ltb, Some, Ok}
use Rattle.requests.specs.declared.Device.{Device}
use Rattle.requests.specs.declared.Setup.{Setup}
use Rattle.requests.specs.declared.Request.{Request}
use Rattle.requests.specs.Choice.{pick}
use Rattle.requests.specs.Devices.{counter_count, capacity, setup_of, opening_of}
use Rattle.requests.specs.Checks.{Formed}
use Rattle.plans.specs.declared.Place.{Place}
use Rattle.plans.specs.Lists.{All}
use Rattle.plans.specs.Legal.{Legal}
use Rattle.layouts.specs.Layout.{tabulate, layout_of, control_at, rsp0_at, rsp1_at, mm_cfg_at, match_at, mask_at, ubox_at, pebs_at}
use Rattle.layouts.specs.Writes.{Write, writes, apply}
use Rattle.layouts.specs.Read.{answer_of, read_of}
use Rattle.layouts.specs.Told.{told_by, told_plan}
use Rattle.layouts.specs.declared.RegisterValues.{RegisterValues}

-- the values that registers have for the reader
unfoldable pub values_in : Device → (ℕ → ℕ) → RegisterValues
values_in d r =
    record {
      control = tabulate capacity (λ k. pick (ltb k (counter_count d)) (r (control_at d k)) 0);
      filters = record { rsp0 = r rsp0_at; rsp1 = r rsp1_at; mm_cfg = r mm_cfg_at; match_word = r match_at; mask_word = r mask_at };
      global = r (layout_of d).global;
      ubox = r ubox_at;
      pebs = r pebs_at;
    }

-- from any registers, the writes are read as the plan
pub record ReadBack (s : Setup) (rs : List Request) (ps : List Place) (ws : List Write) (registers : ℕ → ℕ) : Type 0 where
  pub accepted : answer_of (read_of (opening_of s) (values_in s.device (apply ws registers))) ≡ Ok tt
  pub plan : told_by (read_of (opening_of s) (values_in s.device (apply ws registers))) ≡ told_plan s rs ps

-- the writes of every legal plan of well-formed requests, under every setup that open takes
abbrev pub RoundTrip : Type 0
RoundTrip =
    (s : Setup) (rs : List Request) (ps : List Place)
    → setup_of (opening_of s) ≡ Some s
    → All (Formed s) rs
    → Legal s rs ps
    → (registers : ℕ → ℕ)
    → ReadBack s rs ps (writes s rs ps) registers
