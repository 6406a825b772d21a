-- A number read digit by digit: at a place of the field, and how large it gets. Assumes nothing.
use Rattle.std.specs.Prelude.{None, Some}
use Prim.Native.Nat.{ℕ, ◌+◌, ◌*◌, ◌^◌, ◌<◌, ◌≤◌}
use mathlib.Core.Path.{◌≡◌}
use mathlib.Core.List.{List}
use native.Mathlib.Numerals.{add-one}
use native.Mathlib.Nat.{le_antisymm, mul-le-mul_left, mul-le-mul_right, suc-mul, pow-le-pow_right, pow-suc}
use native.Mathlib.Omega.{arith}
use lib.ListN.{length, get_or, drop}
use lib.Seq.{drop-cons, drop-length}
use borrow.Author.Tests.{le-ltb, lt-ltb}
use Rattle.grammar.specs.Numbers.{digit_of, number_from}

-- the digit at place i
module _ (base n : ℕ) (f : List ℕ) (i d : ℕ) (h : i < length f) (e : d ≡ digit_of (get_or f i 0)) where
  pub digit_bad : base ≤ d → number_from base n (drop i f) ≡ None
  unfolding number_from
  digit_bad b = rw (drop-cons f i 0 h, ← e, le-ltb d base b)

  pub digit_next : d < base → number_from base n (drop i f) ≡ number_from base (n * base + d) (drop (i + 1) f)
  unfolding number_from
  digit_next b = rw (drop-cons f i 0 h, ← e, lt-ltb d base b, add-one)

-- no digit is left
pub digits_end : (base n : ℕ) (f : List ℕ) (i : ℕ) → i ≤ length f → length f ≤ i → number_from base n (drop i f) ≡ Some n
unfolding number_from
digits_end base n f i h k = rw (le_antisymm h k, drop-length)

-- a number of i digits, below 16 of them, times the base, and one digit more, fits 64 bits
pub product_fits : (v base i : ℕ) → v < 16 ^ i → i < 16 → base ≤ 16 → v * base + 16 ≤ 2 ^ 64
product_fits v base i hv hi hb =
    let p : 16 ^ i ≤ 16 ^ 15 = pow-le-pow_right {n = 16} (omega arith) {i = i} {j = 15} (omega arith) in
    omega (arith, mul-le-mul_left v hb)

-- one digit more
pub digit_more : (bound v base d i : ℕ) → v < bound ^ i → base ≤ bound → d < base → v * base + d < bound ^ (i + 1)
digit_more bound v base d i hv hb hd =
    rw (add-one, pow-suc) (omega (arith, mul-le-mul_left v hb, mul-le-mul_right bound hv, suc-mul v bound))
