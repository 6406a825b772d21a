-- Counters taken from a set, one after another: they are in the set and differ. Assumes nothing.
use mathlib.Core.Path.{◌≡◌, refl, ap, sym, ◌∙◌}
use mathlib.Core.Logic.{◌≢◌}
use mathlib.Core.Bool.{true}
use mathlib.Core.List.{List, [], ◌∷◌, ◌++◌}
use Prim.Native.Nat.{ℕ, zero, suc, ◌-◌, ◌/◌, ◌%◌, ◌^◌, ◌≤◌}
use native.Mathlib.Nat.{pow-succ', le-div_iff_mul-le, one-mul, div-eq_of_lt}
use native.Mathlib.Omega.{arith}
use lib.Dec.{eqb}
use lib.Pow.{shl-shr, pow_pos}
use borrow.Author.Tests.{eqb-true}
use Rattle.requests.specs.declared.CounterSet.{CounterSet}
use Rattle.requests.specs.Bits.{bit}
use Rattle.requests.specs.Devices.{has}
use Rattle.requests.proofs.Words.{half_div}
use Rattle.plans.specs.Lists.{All, nil, cons, Pairwise, empty, add}

-- 0 has no bit, and 2^k has bit k
pub no_bit : (k : ℕ) → bit k 0 ≡ true → ⊥
unfolding bit
no_bit k h = let one : 0 / 2 ^ k % 2 ≡ 1 = eqb-true _ _ h in let none : 0 / 2 ^ k ≡ 0 = div-eq_of_lt (pow_pos k) in omega arith

pub own_bit : (k : ℕ) → bit k (2 ^ k) ≡ true
unfolding bit
own_bit k = let e : 2 ^ k / 2 ^ k ≡ 1 = rw one-mul at (shl-shr 1 k) in rw e

-- a counter that is in the set is one of its bits
pub has_le : (s : CounterSet) (k : ℕ) → has s k ≡ true → 2 ^ k ≤ s.0
unfolding has bit
has_le s k h =
    let odd : s.0 / 2 ^ k % 2 ≡ 1 = eqb-true _ _ h in
    let pos : 1 ≤ s.0 / 2 ^ k = omega arith in
    rw one-mul at ((le-div_iff_mul-le (pow_pos k)).0 pos)

half_less : (k s : ℕ) → 2 ^ suc k ≤ s → (s - 2 ^ suc k) / 2 ≡ s / 2 - 2 ^ k
half_less k s b = omega (arith, pow-succ' 2 k)

bit_other : (k j s : ℕ) → (k ≡ j → ⊥) → s / 2 ^ k % 2 ≡ 1 → 2 ^ k ≤ s → (s - 2 ^ k) / 2 ^ j % 2 ≡ s / 2 ^ j % 2
bit_other zero zero s d h b = absurd (d refl)
bit_other zero (suc j) s d h b =
    let e : (s - 1) / 2 ≡ s / 2 = omega arith in
    rw (half_div j (s - 1), half_div j s, e)
bit_other (suc k) zero s d h b = omega (arith, pow-succ' 2 k)
bit_other (suc k) (suc j) s d h b =
    rw (half_div j (s - 2 ^ suc k), half_div j s, half_less k s b)
    (bit_other k j (s / 2) (λ e. d (ap suc e)) (rw (← half_div k s) h) (omega (arith, pow-succ' 2 k)))

bit_self : (k s : ℕ) → s / 2 ^ k % 2 ≡ 1 → 2 ^ k ≤ s → (s - 2 ^ k) / 2 ^ k % 2 ≡ 0
bit_self zero s h b = omega arith
bit_self (suc k) s h b =
    rw (half_div k (s - 2 ^ suc k), half_less k s b)
    (bit_self k (s / 2) (rw (← half_div k s) h) (omega (arith, pow-succ' 2 k)))

-- the set without counter k
abbrev pub less : CounterSet → ℕ → CounterSet
less s k = record { 0 = s.0 - 2 ^ k }

pub has_other : (s : CounterSet) (k j : ℕ) → has s k ≡ true → (k ≡ j → ⊥) → has (less s k) j ≡ has s j
unfolding has bit
has_other s k j h d = ap (λ (x : ℕ). eqb x 1) (bit_other k j s.0 d (eqb-true _ _ h) (has_le s k h))

pub has_self : (s : CounterSet) (k j : ℕ) → has s k ≡ true → has (less s k) j ≡ true → k ≡ j → ⊥
unfolding has bit
has_self s k j h g e =
    let one : (s.0 - 2 ^ k) / 2 ^ j % 2 ≡ 1 = eqb-true _ _ g in
    let none : (s.0 - 2 ^ k) / 2 ^ k % 2 ≡ 0 = bit_self k s.0 (eqb-true _ _ h) (has_le s k h) in
    omega (arith, rw (← e) at one)

module _ {A : Type 0} {P : A → Type 0} where
  pub all_append : {s t : List A} → All P s → All P t → All P (s ++ t)
  all_append nil h = h
  all_append (cons g gs) h = cons g (all_append gs h)

module _ {A : Type 0} {P Q : A → Type 0} where
  pub all_imp : {l : List A} → ((a : A) → P a → Q a) → All P l → All Q l
  all_imp f nil = nil
  all_imp f (cons {a = a} h hs) = cons (f a h) (all_imp f hs)

module _ {A : Type 0} {P Q U : A → Type 0} where
  pub all_join : {l : List A} → ((a : A) → P a → Q a → U a) → All P l → All Q l → All U l
  all_join f nil nil = nil
  all_join f (cons {a = a} g gs) (cons h hs) = cons (f a g h) (all_join f gs hs)

-- counters that are taken one after another
abbrev pub Takes : CounterSet → List ℕ → Type 0
Takes f [] = Unit {0}
Takes f (k ∷ ks) = (has f k ≡ true) × Takes (less f k) ks

pub takes_all : (f : CounterSet) (ks : List ℕ) → Takes f ks → All (λ (k : ℕ). has f k ≡ true) ks × Pairwise ◌≢◌ ks
takes_all f [] h = (nil, empty)
takes_all f (k ∷ ks) h =
    let r = takes_all (less f k) ks h.1 in (
      cons h.0 (all_imp (λ j g. sym (has_other f k j h.0 (has_self f k j h.0 g)) ∙ g) r.0),
      add (all_imp (λ j g. has_self f k j h.0 g) r.0) r.1,
    )

pub all_takes : (f : CounterSet) (ks : List ℕ) → All (λ (k : ℕ). has f k ≡ true) ks → Pairwise ◌≢◌ ks → Takes f ks
all_takes f [] h d = tt
all_takes f (k ∷ ks) (cons h hs) (add d ds) = (h, all_takes (less f k) ks (all_join (λ j x y. has_other f k j h x ∙ y) d hs) ds)
