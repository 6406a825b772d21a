-- Laws of a word's bits: the bits of `&`, a word as its lowest bits, and a word with one bit more. Assumes nothing.
use mathlib.Core.Path.{◌≡◌, refl, ap, sym, ◌∙◌}
use mathlib.Core.Bool.{Bool, true, false, not}
use Prim.Native.Nat.{ℕ, zero, suc, ◌+◌, ◌*◌, ◌/◌, ◌%◌, ◌^◌, ◌<◌, ◌≤◌, min}
use native.Mathlib.Nat.{div-div-eq-div-mul, pow-succ', div-eq_of_lt, div-one, zero-div, lt_of_lt_of_le, lt_of_le_of_lt, zero-min, min-le_left, mod-lt}
use native.Mathlib.Omega.{arith}
use lib.Arith.{digits_mod}
use lib.Bits.{bit_and, and_step, and_shr}
use lib.Dec.{eqb, eqb-suc-suc}
use lib.Pow.{pow_mono, pow_pos, mod-pow-add}
use borrow.Author.Tests.{eq-eqb, ne_eqb, eqb-true, eqb-false}
use Rattle.requests.specs.Choice.{both, either}
use Rattle.requests.specs.Bits.{bit}
use Rattle.requests.proofs.Tests.{either_false, either_true, both_false, both_true}

-- a word of 64 bits has none from 64 on
pub bit_past : (k w : ℕ) → w < 2 ^ 64 → 64 ≤ k → bit k w ≡ false
unfolding bit
bit_past k w fits l = rw (div-eq_of_lt (lt_of_lt_of_le fits (pow_mono l)))

-- without its lowest bit, a word has its others one place lower
pub half_div : (k w : ℕ) → w / 2 ^ suc k ≡ w / 2 / 2 ^ k
half_div k w = rw pow-succ' (sym (div-div-eq-div-mul w 2 (2 ^ k)))

-- the digit of a bit
pub digit_true : (k w : ℕ) → bit k w ≡ true → w / 2 ^ k % 2 ≡ 1
unfolding bit
digit_true k w h = eqb-true _ _ h

pub digit_false : (k w : ℕ) → bit k w ≡ false → w / 2 ^ k % 2 ≡ 0
unfolding bit
digit_false k w h =
    let other : (w / 2 ^ k % 2 ≡ 1 → ⊥) = eqb-false _ _ h in
    omega arith

-- one bit more
low_more : (k w : ℕ) → w % 2 ^ suc k ≡ w / 2 ^ k % 2 * 2 ^ k + w % 2 ^ k
low_more k w =
    let e : 1 + k ≡ suc k = omega arith in
    rw e at (mod-pow-add w 1 k)

pub low_true : (k w : ℕ) → bit k w ≡ true → w % 2 ^ suc k ≡ 2 ^ k + w % 2 ^ k
low_true k w h = rw (low_more k w, digit_true k w h) (omega arith)

pub low_false : (k w : ℕ) → bit k w ≡ false → w % 2 ^ suc k ≡ w % 2 ^ k
low_false k w h = rw (low_more k w, digit_false k w h) (omega arith)

-- two digits
min_tests : (x y : ℕ) → x < 2 → y < 2 → eqb (min x y) 1 ≡ both (eqb x 1) (eqb y 1)
unfolding both
min_tests zero y p q = rw zero-min
min_tests (suc zero) zero p q = refl
min_tests (suc zero) (suc zero) p q = refl
min_tests (suc zero) (suc (suc y)) p q = absurd (omega arith)
min_tests (suc (suc x)) y p q = absurd (omega arith)

-- the lowest digit of `&`
and_digit : (a b : ℕ) → bit_and a b % 2 ≡ min (a % 2) (b % 2)
and_digit a b =
    let low : min (a % 2) (b % 2) < 2 = lt_of_le_of_lt (min-le_left (a % 2) (b % 2)) (omega arith) in
    ap (λ (x : ℕ). x % 2) (and_step a b) ∙ digits_mod (bit_and (a / 2) (b / 2)) low

-- a bit of `&`
pub bit_and_lem : (k a b : ℕ) → bit k (bit_and a b) ≡ both (bit k a) (bit k b)
unfolding bit
bit_and_lem k a b =
    ap (λ (x : ℕ). eqb (x % 2) 1) (and_shr a b k)
    ∙ ap (λ (x : ℕ). eqb x 1) (and_digit (a / 2 ^ k) (b / 2 ^ k))
    ∙ min_tests (a / 2 ^ k % 2) (b / 2 ^ k % 2) (omega arith) (omega arith)

-- two tests agree
abbrev pub same : Bool → Bool → Bool
same true b = b
same false b = not b

-- sums with one summand in common
eqb_add : (n a b : ℕ) → eqb (n + a) (n + b) ≡ eqb a b
eqb_add n a b = go (eqb a b) refl
  where
    go : (t : Bool) → eqb a b ≡ t → eqb (n + a) (n + b) ≡ t
    go true h = eq-eqb _ _ (ap (λ (x : ℕ). n + x) (eqb-true a b h))
    go false h =
        let other : (a ≡ b → ⊥) = eqb-false a b h in
        ne_eqb (n + a) (n + b) (λ e. other (omega (arith, e)))

-- whether the lowest bits are all 0, by the highest of them
pub some_more : (k w : ℕ) → not (eqb (w % 2 ^ suc k) 0) ≡ either (not (eqb (w % 2 ^ k) 0)) (bit k w)
some_more k w = go (bit k w) refl
  where
    go : (b : Bool) → bit k w ≡ b → not (eqb (w % 2 ^ suc k) 0) ≡ either (not (eqb (w % 2 ^ k) 0)) b
    go true h = rw (low_true k w h, ne_eqb (2 ^ k + w % 2 ^ k) 0 (λ e. omega (arith, e, pow_pos k))) (sym (either_true _))
    go false h = rw (low_false k w h) (sym (either_false _))

-- whether two words' lowest bits agree, by the highest of them
pub same_more : (k a b : ℕ) → eqb (a % 2 ^ suc k) (b % 2 ^ suc k) ≡ both (eqb (a % 2 ^ k) (b % 2 ^ k)) (same (bit k a) (bit k b))
same_more k a b = go (bit k a) (bit k b) refl refl
  where
    below : (x : ℕ) → x % 2 ^ k < 2 ^ k
    below x = mod-lt x (pow_pos k)

    go : (p q : Bool) → bit k a ≡ p → bit k b ≡ q → eqb (a % 2 ^ suc k) (b % 2 ^ suc k) ≡ both (eqb (a % 2 ^ k) (b % 2 ^ k)) (same p q)
    go true true g h = rw (low_true k a g, low_true k b h, eqb_add (2 ^ k) (a % 2 ^ k) (b % 2 ^ k)) (sym (both_true _))
    go false false g h = rw (low_false k a g, low_false k b h) (sym (both_true _))
    go true false g h = rw (low_true k a g, low_false k b h, ne_eqb (2 ^ k + a % 2 ^ k) (b % 2 ^ k) (λ e. omega (arith, e, below b))) (sym (both_false _))
    go false true g h = rw (low_false k a g, low_true k b h, ne_eqb (a % 2 ^ k) (2 ^ k + b % 2 ^ k) (λ e. omega (arith, e, below a))) (sym (both_false _))

-- a word with one bit more, above its others
pub bit_more : (j k w : ℕ) → w < 2 ^ j → bit k (w + 2 ^ j) ≡ either (bit k w) (eqb j k)
unfolding bit either
bit_more zero zero w l = let e : w ≡ 0 = omega arith in rw e
bit_more (suc j) zero w l =
    let e : (w + 2 ^ suc j) / 1 % 2 ≡ w / 1 % 2 = rw (div-one (w + 2 ^ suc j), div-one w) (omega (arith, pow-succ' 2 j)) in
    rw (e, ne_eqb (suc j) 0 (λ q. omega arith)) (sym (either_false (eqb (w / 1 % 2) 1)))
bit_more zero (suc k) w l =
    let e : w ≡ 0 = omega arith in
    let p : 1 < 2 ^ suc k = omega (arith, pow-succ' 2 k, pow_pos k) in
    rw (e, div-eq_of_lt p, zero-div (2 ^ suc k), ne_eqb 0 (suc k) (λ q. omega arith))
bit_more (suc j) (suc k) w l =
    let e : (w + 2 ^ suc j) / 2 ≡ w / 2 + 2 ^ j = omega (arith, pow-succ' 2 j) in
    rw (half_div k (w + 2 ^ suc j), half_div k w, e, eqb-suc-suc j k) (bit_more j k (w / 2) (omega (arith, pow-succ' 2 j)))
