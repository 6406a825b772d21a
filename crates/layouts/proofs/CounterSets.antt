-- Laws of the sets that `setFrom` makes: their counters, their sums, and what a set leaves of all counters. Assumes nothing.
use mathlib.Core.Path.{◌≡◌, refl, ap, sym, ◌∙◌}
use mathlib.Core.Bool.{Bool, true, false, not, true≢false}
use Prim.Native.Nat.{ℕ, zero, suc, ◌+◌, ◌*◌, ◌-◌, ◌/◌, ◌%◌, ◌^◌, ◌<◌}
use native.Mathlib.Nat.{pow-succ', div-one, add-zero}
use native.Mathlib.Numerals.{add-one}
use native.Mathlib.Omega.{arith}
use lib.Dec.{eqb}
use lib.Arith.{mod-mul}
use lib.Pow.{pow_pos, shr-shr}
use borrow.Author.Tests.{eq-eqb, ne_eqb}
use Rattle.requests.specs.Choice.{either, pick}
use Rattle.requests.specs.Bits.{bit}
use Rattle.requests.proofs.Words.{half_div}
use Rattle.layouts.specs.Settings.{set_from}

next : (j k : ℕ) → j + suc k ≡ suc j + k
next j k = omega arith

flag_bit : (b : Bool) (y : ℕ) → eqb ((pick b 1 0 + 2 * y) % 2) 1 ≡ b
flag_bit true y = eq-eqb ((1 + 2 * y) % 2) 1 (omega arith)
flag_bit false y = ne_eqb ((0 + 2 * y) % 2) 1 (λ e. omega arith)

flag_rest : (b : Bool) (y : ℕ) → (pick b 1 0 + 2 * y) / 2 ≡ y
flag_rest true y = omega arith
flag_rest false y = omega arith

-- the set has the counters that pass the test
pub bit_set : (n j k : ℕ) (on : ℕ → Bool) → k < n → bit k (set_from n j on) ≡ on (j + k)
unfolding bit set_from
bit_set zero j k on l = absurd (omega arith)
bit_set (suc n) j zero on l = rw (div-one (pick (on j) 1 0 + 2 * set_from n (suc j) on), add-zero j) (flag_bit (on j) (set_from n (suc j) on))
bit_set (suc n) j (suc k) on l =
    rw (half_div k (pick (on j) 1 0 + 2 * set_from n (suc j) on), flag_rest (on j) (set_from n (suc j) on))
    (bit_set n (suc j) k on (omega arith) ∙ ap on (sym (next j k)))

pub set_below : (n j : ℕ) (on : ℕ → Bool) → set_from n j on < 2 ^ n
unfolding set_from
set_below zero j on = omega arith
set_below (suc n) j on = go (on j) (set_below n (suc j) on)
  where
    go : (b : Bool) → set_from n (suc j) on < 2 ^ n → pick b 1 0 + 2 * set_from n (suc j) on < 2 ^ suc n
    go true l = omega (arith, pow-succ' 2 n)
    go false l = omega (arith, pow-succ' 2 n)

pub set_same : (n j : ℕ) (f g : ℕ → Bool) → ((k : ℕ) → k < n → f (j + k) ≡ g (j + k)) → set_from n j f ≡ set_from n j g
unfolding set_from
set_same zero j f g h = refl
set_same (suc n) j f g h =
    let here : f j ≡ g j = rw (add-zero j) at (h 0 (omega arith)) in
    rw (here, set_same n (suc j) f g (λ k l. rw (next j k) at (h (suc k) (omega arith))))

-- sets without a common counter, together
pub set_sum : (n j : ℕ) (f g : ℕ → Bool) → ((k : ℕ) → k < n → f (j + k) ≡ true → g (j + k) ≡ false) → set_from n j f + set_from n j g ≡ set_from n j (λ k. either (f k) (g k))
unfolding set_from either
set_sum zero j f g h = refl
set_sum (suc n) j f g h =
    let apart : f j ≡ true → g j ≡ false = rw (add-zero j) at (h 0 (omega arith)) in
    go (f j) (g j) apart (set_sum n (suc j) f g (λ k l. rw (next j k) at (h (suc k) (omega arith))))
  where
    go : (a b : Bool) → (a ≡ true → b ≡ false)
        → set_from n (suc j) f + set_from n (suc j) g ≡ set_from n (suc j) (λ k. either (f k) (g k))
        → (pick a 1 0 + 2 * set_from n (suc j) f) + (pick b 1 0 + 2 * set_from n (suc j) g) ≡ pick (either a b) 1 0 + 2 * set_from n (suc j) (λ k. either (f k) (g k))
    go true true d e = absurd (true≢false (d refl))
    go true false d e = omega arith
    go false true d e = omega arith
    go false false d e = omega arith

-- a set and the counters that it has not, together
set_all : (n j : ℕ) (f : ℕ → Bool) → suc (set_from n j f + set_from n j (λ k. not (f k))) ≡ 2 ^ n
unfolding set_from
set_all zero j f = refl
set_all (suc n) j f = go (f j) (set_all n (suc j) f)
  where
    go : (b : Bool) → suc (set_from n (suc j) f + set_from n (suc j) (λ k. not (f k))) ≡ 2 ^ n
        → suc ((pick b 1 0 + 2 * set_from n (suc j) f) + (pick (not b) 1 0 + 2 * set_from n (suc j) (λ k. not (f k)))) ≡ 2 ^ suc n
    go true e = omega (arith, pow-succ' 2 n)
    go false e = omega (arith, pow-succ' 2 n)

-- a word is the set of its bits
set_bits : (n j w : ℕ) → w / 2 ^ j % 2 ^ n ≡ set_from n j (λ k. bit k w)
unfolding set_from bit
set_bits zero j w = omega arith
set_bits (suc n) j w =
    let e = set_bits n (suc j) w in
    let d : w / 2 ^ suc j ≡ w / 2 ^ j / 2 = half_last j w in
    let m : w / 2 ^ j % (2 ^ n * 2) ≡ w / 2 ^ j / 2 % 2 ^ n * 2 + w / 2 ^ j % 2 = mod-mul (w / 2 ^ j) (pow_pos n) (omega arith) in
    let p : 2 ^ suc n ≡ 2 ^ n * 2 = omega (arith, pow-succ' 2 n) in
    rw (p, m, ← d, e) (go (w / 2 ^ j % 2) (omega arith) (set_from n (suc j) (λ k. eqb (w / 2 ^ k % 2) 1)))
  where
    half_last : (i v : ℕ) → v / 2 ^ suc i ≡ v / 2 ^ i / 2
    half_last i v = rw (← add-one i) (sym (shr-shr v i 1))

    go : (x : ℕ) → x < 2 → (y : ℕ) → y * 2 + x ≡ pick (eqb x 1) 1 0 + 2 * y
    go zero l y = omega arith
    go (suc zero) l y = omega arith
    go (suc (suc x)) l y = absurd (omega arith)

-- what a set leaves of n counters
pub set_left : (n w : ℕ) → 2 ^ n - 1 - w % 2 ^ n ≡ set_from n 0 (λ k. not (bit k w))
set_left n w =
    let e : w % 2 ^ n ≡ set_from n 0 (λ k. bit k w) = rw (div-one w) at (set_bits n 0 w) in
    omega (arith, set_all n 0 (λ k. bit k w))
