-- "An empty queue gives an empty plan and a write list that turns the usable counters off."
use Rattle.std.specs.Prelude.{◌≡◌, List, [], not, ℕ, ◌+◌, ◌<◌, ltb, Some, Ok}
use Rattle.requests.specs.declared.Setup.{Setup}
use Rattle.requests.specs.Choice.{both, pick}
use Rattle.requests.specs.Bits.{bit}
use Rattle.requests.specs.Devices.{has, counter_count, fixed_count, capacity, setup_of, opening_of}
use Rattle.plans.specs.Legal.{Usable}
use Rattle.layouts.specs.Layout.{tabulate, layout_of, control_at}
use Rattle.layouts.specs.Writes.{writes, apply}
use Rattle.layouts.specs.Read.{answer_of, read_of}
use Rattle.layouts.specs.Told.{Told, off, not_ours, told_by}
use Rattle.layouts.specs.RoundTrip.{values_in}

-- every usable counter is told off, and every other one not ours
unfoldable pub all_off : Setup → List Told
all_off s = tabulate capacity (λ k. pick (has s.usable k) off not_ours)

-- registers after the writes of the empty plan
abbrev pub turned_off : Setup → (ℕ → ℕ) → ℕ → ℕ
turned_off s registers = apply (writes s [] []) registers

pub record EmptyPlan : Type 0 where
  -- the control value of every usable counter is 0
  pub controls : (s : Setup) (registers : ℕ → ℕ) (k : ℕ) → Usable s k → turned_off s registers (control_at s.device k) ≡ 0
  -- below bit 32 the global value has the bits of the device's unusable counters, and no others
  pub global : (s : Setup) (registers : ℕ → ℕ) (k : ℕ) → k < 32
      → bit k (turned_off s registers (layout_of s.device).global) ≡ both (ltb k (counter_count s.device)) (not (has s.usable k))
  -- from there on it has the fixed enables, and no others
  pub fixed : (s : Setup) (registers : ℕ → ℕ) (k : ℕ)
      → bit (32 + k) (turned_off s registers (layout_of s.device).global) ≡ both (ltb k (fixed_count s.device)) (bit k s.fixed)
  -- the reader accepts what is left, and tells every usable counter off
  pub accepted : (s : Setup) (registers : ℕ → ℕ) → setup_of (opening_of s) ≡ Some s
      → answer_of (read_of (opening_of s) (values_in s.device (turned_off s registers))) ≡ Ok tt
  pub told_off : (s : Setup) (registers : ℕ → ℕ) → setup_of (opening_of s) ≡ Some s
      → told_by (read_of (opening_of s) (values_in s.device (turned_off s registers))) ≡ all_off s
