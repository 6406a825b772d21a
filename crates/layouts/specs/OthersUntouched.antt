-- "Every other counter belongs to somebody else. The filter registers belong wholly to the session." And order 2: "every write to 038F
-- carries" the enables of the fixed counters.
use Rattle.std.specs.Prelude.{◌≡◌, true, false, ℕ, ◌+◌, ◌<◌, ltb}
use mathlib.Core.List.{List, [], ◌∷◌, Memᴰ}
use Rattle.requests.specs.Choice.{both}
use Rattle.requests.specs.declared.Device.{Device}
use Rattle.requests.specs.declared.Device.TheVariants.{G, S, C, B}
use Rattle.requests.specs.declared.Setup.{Setup}
use Rattle.requests.specs.declared.Request.{Request}
use Rattle.requests.specs.Bits.{bit}
use Rattle.requests.specs.Askings.{asked}
use Rattle.requests.specs.Devices.{has, counter_count, fixed_count}
use Rattle.plans.specs.declared.Place.{Place}
use Rattle.plans.specs.Legal.{Legal, Usable}
use Rattle.layouts.specs.Layout.{layout_of, control_at, counter_at_lem, filters_at, ubox_at, pebs_at}
use Rattle.layouts.specs.Writes.{writes, apply}

-- the registers that the session may write
pub data Ours (s : Setup) : ℕ → Type 0 where
  global : Ours s (layout_of s.device).global
  filter : {a : ℕ} → Memᴰ a (filters_at s.device) → Ours s a
  control : {k : ℕ} → Usable s k → Ours s (control_at s.device k)
  counter : {k : ℕ} → Usable s k → Ours s (counter_at_lem s.device k)
  -- "only there the U-Box's enable stays with the host": where nothing is asked
  ubox : asked s ≡ true → Ours s ubox_at
  -- order 12: "That register belongs wholly to the session"
  pebs : s.device ≡ B → Ours s pebs_at

-- the addresses of the filter registers: MSR_OFFCORE_RSP0 and RSP1; S_MSR_MM_CFG, MATCH and MASK; none
abbrev pub filter_addresses : Device → List ℕ
filter_addresses G = 0x01A6 ∷ 0x01A7 ∷ []
filter_addresses S = 0x0E48 ∷ 0x0E49 ∷ 0x0E4A ∷ []
filter_addresses (C b) = []
filter_addresses B = []

pub record OthersUntouched : Type 0 where
  -- these are the filter registers that are ours, and no others
  pub filters : (d : Device) → filters_at d ≡ filter_addresses d
  -- every other register keeps its value
  pub kept : (s : Setup) (rs : List Request) (ps : List Place) → Legal s rs ps
      → (registers : ℕ → ℕ) (a : ℕ) → ¬ Ours s a → apply (writes s rs ps) registers a ≡ registers a
  -- "with the bits of unusable counters": every value for the global control register has them
  pub enabled : (s : Setup) (rs : List Request) (ps : List Place) → Legal s rs ps
      → (v k : ℕ) → Memᴰ ((layout_of s.device).global, v) (writes s rs ps) → k < counter_count s.device → has s.usable k ≡ false → bit k v ≡ true
  -- from bit 32 on, every such value has the fixed enables of the session, and no others
  pub fixed : (s : Setup) (rs : List Request) (ps : List Place) → Legal s rs ps
      → (v k : ℕ) → Memᴰ ((layout_of s.device).global, v) (writes s rs ps) → bit (32 + k) v ≡ both (ltb k (fixed_count s.device)) (bit k s.fixed)
