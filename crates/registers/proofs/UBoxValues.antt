-- The values of the U-Box, as the code computes them.
use Rattle.std.specs.Prelude.{Option, None, Some}
use mathlib.Core.Path.{◌≡◌, refl}
use mathlib.Core.Bool.{Bool, true, false}
use Prim.Native.Nat.{ℕ, ◌+◌, ◌^◌, ◌≤◌, ◌<◌}
use native.Mathlib.Omega.{arith}
use lib.Dec.{ltb}
use lib.Pow.{pow_mono}
use borrow.Author.Tests.{lt-ltb, le-ltb, ltb-true}
use Rattle.requests.specs.Choice.{pick}
use Rattle.requests.specs.Askings.{core_count}
use Rattle.layouts.specs.Layout.{frz_all, core_sel}
use Rattle.layouts.specs.Writes.{core_bit}

-- the bit of a freeze, and that of a core
pub freeze_small : (off : Bool) → pick off 0 (2 ^ frz_all) ≤ 2 ^ 31
unfolding frz_all
freeze_small true = omega arith
freeze_small false = omega arith

pub core_small : (x : Option ℕ) → core_bit x ≤ 2 ^ 8
unfolding core_bit core_count core_sel
core_small None = omega arith
core_small (Some n) = go (ltb n 8) (λ h. ltb-true n 8 h)
  where
    go : (b : Bool) → (b ≡ true → n < 8) → pick b (2 ^ (1 + n)) 0 ≤ 2 ^ 8
    go true l = let m = l refl in let k : 1 + n ≤ 8 = omega arith in pow_mono k
    go false l = omega arith

-- a core that fits the field, and one that does not
pub core_fits_lem : (x : Option ℕ) (n : ℕ) → x ≡ Some n → n < 8 → 2 ^ (1 + n) ≡ core_bit x
unfolding core_bit core_count core_sel
core_fits_lem x n e l = rw (e, lt-ltb n 8 l)

pub core_wide : (x : Option ℕ) (n : ℕ) → x ≡ Some n → 8 ≤ n → 0 ≡ core_bit x
unfolding core_bit core_count core_sel
core_wide x n e l = rw (e, le-ltb n 8 l)
