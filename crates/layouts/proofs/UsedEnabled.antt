-- What a plan's writes leave in the global control register: `UsedEnabled`, by the last value.
use mathlib.Core.Path.{ap, ◌∙◌}
use Prim.Native.Nat.{◌≤◌}
use native.Mathlib.Decide.{dec_lt}
use native.Mathlib.Omega.{arith}
use borrow.Author.Tests.{lt-ltb, le-ltb}
use Rattle.requests.specs.Choice.{both}
use Rattle.requests.specs.Bits.{bit}
use Rattle.requests.specs.Devices.{counter_count}
use Rattle.layouts.specs.Settings.{settings_of}
use Rattle.layouts.specs.UsedEnabled.{UsedEnabled}
use Rattle.layouts.proofs.GlobalValues.{last_bit, last_none}
use Rattle.layouts.proofs.PlanWords.{global_left}

pub used_enabled : UsedEnabled
unfolding both settings_of
used_enabled s rs ps legal registers k low =
    ap (bit k) (global_left s rs ps registers)
    ∙ elim (dec_lt k (counter_count s.device)) [
      | yes l ↦ rw (lt-ltb k (counter_count s.device) l) (last_bit s rs ps legal k l)
      | no o ↦
          let past : counter_count s.device ≤ k = let y = o in omega arith in
          rw (le-ltb k (counter_count s.device) past) (last_none s rs ps legal k past low)
    ]
