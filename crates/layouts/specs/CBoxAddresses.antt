-- The addresses of the eight C-Boxes, which are not linear in the box: what the table says in other words, and that no two boxes meet.
use Rattle.std.specs.Prelude.{◌≡◌, ℕ, ◌+◌, ◌*◌, ◌/◌, ◌%◌, ◌<◌}
use mathlib.Core.List.{List, [], ◌∷◌, ◌++◌, Memᴰ}
use Rattle.requests.specs.declared.Device.TheVariants.{C}
use Rattle.requests.specs.Devices.{counter_count}
use Rattle.layouts.specs.Layout.{tabulate, layout_of, control_at, counter_at_lem}

-- all registers of a box: global control, the control and the count of each counter
unfoldable pub cbox_registers : ℕ → List ℕ
cbox_registers b = (layout_of (C b)).global ∷ tabulate (counter_count (C b)) (control_at (C b)) ++ tabulate (counter_count (C b)) (counter_at_lem (C b))

pub record CBoxAddresses : Type 0 where
  -- box 0: document 004 has 0D00 and 0D10, the kernel driver the rest
  pub first : cbox_registers 0 ≡ 0x0D00 ∷ 0x0D10 ∷ 0x0D12 ∷ 0x0D14 ∷ 0x0D16 ∷ 0x0D18 ∷ 0x0D1A ∷ 0x0D11 ∷ 0x0D13 ∷ 0x0D15 ∷ 0x0D17 ∷ 0x0D19 ∷ 0x0D1B ∷ []
  -- box 7 (kernel driver)
  pub last : cbox_registers 7 ≡ 0x0DE0 ∷ 0x0DF0 ∷ 0x0DF2 ∷ 0x0DF4 ∷ 0x0DF6 ∷ 0x0DF8 ∷ 0x0DFA ∷ 0x0DF1 ∷ 0x0DF3 ∷ 0x0DF5 ∷ 0x0DF7 ∷ 0x0DF9 ∷ 0x0DFB ∷ []
  -- a box stands behind box 0 by 20 times the three bits of its number in reverse
  pub reversed : (b : ℕ) → b < 8 → (layout_of (C b)).global ≡ 0x0D00 + 0x20 * (4 * (b % 2) + 2 * (b / 2 % 2) + b / 4)
  -- and in every box each counter has a pair of registers, its control before its count: with the offsets, the whole table
  pub controls : (b k : ℕ) → control_at (C b) k ≡ (layout_of (C b)).global + 0x10 + 2 * k
  pub counts : (b k : ℕ) → counter_at_lem (C b) k ≡ (layout_of (C b)).global + 0x11 + 2 * k
  -- no two boxes have a register in common
  pub apart : (b c : ℕ) → b < 8 → c < 8 → ¬ (b ≡ c) → (a : ℕ) → Memᴰ a (cbox_registers b) → ¬ Memᴰ a (cbox_registers c)
