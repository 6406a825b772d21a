-- "038F with unusable and used bits": what a plan's writes leave in the global control register, below the fixed enables.
use Rattle.std.specs.Prelude.{◌≡◌, List, not, ℕ, ◌<◌, ltb}
use Rattle.requests.specs.Choice.{both, either}
use Rattle.requests.specs.declared.Setup.{Setup}
use Rattle.requests.specs.declared.Request.{Request}
use Rattle.requests.specs.Bits.{bit, in_list}
use Rattle.requests.specs.Devices.{has, counter_count}
use Rattle.plans.specs.declared.Place.{Place}
use Rattle.plans.specs.Legal.{Legal, counters}
use Rattle.layouts.specs.Layout.{layout_of}
use Rattle.layouts.specs.Writes.{writes, apply}

-- below bit 32 it enables each of the device's counters that is unusable or that the plan gives to a request, and no others
abbrev pub UsedEnabled : Type 0
UsedEnabled = (s : Setup) (rs : List Request) (ps : List Place) → Legal s rs ps
    → (registers : ℕ → ℕ) (k : ℕ) → k < 32
    → bit k (apply (writes s rs ps) registers (layout_of s.device).global)
    ≡ both (ltb k (counter_count s.device)) (either (not (has s.usable k)) (in_list (counters ps) k))
