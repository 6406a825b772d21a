-- "IA32_PMCk (00C1+k) = 0 for used k", on S and C "CTRk = 0 for used k": what a plan's writes leave in the counts, from any registers.
use Rattle.std.specs.Prelude.{◌≡◌, ℕ, ◌<◌}
use mathlib.Core.List.{List, Memᴰ}
use Rattle.requests.specs.declared.Setup.{Setup}
use Rattle.requests.specs.declared.Request.{Request}
use Rattle.requests.specs.Devices.{counter_count}
use Rattle.plans.specs.declared.Place.{Place}
use Rattle.plans.specs.Legal.{counters}
use Rattle.layouts.specs.Layout.{counter_at_lem}
use Rattle.layouts.specs.Writes.{writes, apply}

pub record UsedCounts : Type 0 where
  -- that of a counter of the plan is 0
  pub zeroed : (s : Setup) (rs : List Request) (ps : List Place) (registers : ℕ → ℕ) (k : ℕ) → k < counter_count s.device → Memᴰ k (counters ps)
      → apply (writes s rs ps) registers (counter_at_lem s.device k) ≡ 0
  -- every other stays, so that what it counted can still be read
  pub kept : (s : Setup) (rs : List Request) (ps : List Place) (registers : ℕ → ℕ) (k : ℕ) → k < counter_count s.device → ¬ Memᴰ k (counters ps)
      → apply (writes s rs ps) registers (counter_at_lem s.device k) ≡ registers (counter_at_lem s.device k)
