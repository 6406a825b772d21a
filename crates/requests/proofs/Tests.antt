-- Laws of tests joined by `both`, `either` and `every`. Assumes nothing.
use mathlib.Core.Path.{◌≡◌, refl, ap, ap₂, sym, ◌∙◌}
use mathlib.Core.Logic.{◌⊎◌, inl, inr}
use mathlib.Core.Bool.{Bool, true, false, true≢false, false≢true}
use Prim.Native.Nat.{ℕ, zero, suc, ◌<◌}
use native.Mathlib.Nat.{le_refl}
use native.Mathlib.Decide.{dec_lt}
use native.Mathlib.Omega.{arith}
use Rattle.requests.specs.Choice.{both, either, every}

-- no test holds and fails
pub both_ways : {b : Bool} → b ≡ true → b ≡ false → ⊥
both_ways h e = true≢false (sym h ∙ e)

pub either_false : (b : Bool) → either b false ≡ b
unfolding either
either_false true = refl
either_false false = refl

pub either_true : (b : Bool) → either b true ≡ true
unfolding either
either_true true = refl
either_true false = refl

pub either_assoc : (a b c : Bool) → either (either a b) c ≡ either a (either b c)
unfolding either
either_assoc true b c = refl
either_assoc false b c = refl

pub both_false : (b : Bool) → both b false ≡ false
unfolding both
both_false true = refl
both_false false = refl

pub both_true : (b : Bool) → both b true ≡ b
unfolding both
both_true true = refl
both_true false = refl

pub both_swap : (a b : Bool) → both a b ≡ both b a
unfolding both
both_swap true b = sym (both_true b)
both_swap false b = sym (both_false b)

-- both tests of a pair that holds
pub both_parts : (a b : Bool) → both a b ≡ true → (a ≡ true) × (b ≡ true)
unfolding both
both_parts true b h = (refl, h)
both_parts false b h = absurd (false≢true h)

-- a pair whose tests both hold
pub true_both : (a b : Bool) → a ≡ true → b ≡ true → both a b ≡ true
unfolding both
true_both a b p q = rw (p, q)

-- both tests of a choice that fails
pub either_parts : (a b : Bool) → either a b ≡ false → (a ≡ false) × (b ≡ false)
unfolding either
either_parts true b h = absurd (true≢false h)
either_parts false b h = (refl, h)

-- one test of a choice that holds
pub either_cases : (a b : Bool) → either a b ≡ true → (a ≡ true) ⊎ (b ≡ true)
unfolding either
either_cases true b e = inl refl
either_cases false b e = inr e

-- a choice of which one test holds
pub either_left : (a b : Bool) → a ≡ true → either a b ≡ true
unfolding either
either_left a b p = rw p

pub either_right : (a b : Bool) → b ≡ true → either a b ≡ true
unfolding either
either_right true b p = refl
either_right false b p = p

-- tests that agree below n agree on every number below n
pub every_same : (n : ℕ) (p q : ℕ → Bool) → ((k : ℕ) → k < n → p k ≡ q k) → every n p ≡ every n q
unfolding every
every_same zero p q h = refl
every_same (suc n) p q h = ap₂ both (every_same n p q (λ k l. h k (omega arith))) (h n (omega arith))

-- what holds of each number below n holds of every one
pub every_true : (n : ℕ) (p : ℕ → Bool) → ((k : ℕ) → k < n → p k ≡ true) → every n p ≡ true
unfolding every
every_true zero p h = refl
every_true (suc n) p h = true_both (every n p) (p n) (every_true n p (λ k l. h k (omega arith))) (h n (le_refl (suc n)))

-- what holds of every number below n holds of each
pub every_at : (n : ℕ) (p : ℕ → Bool) → every n p ≡ true → (k : ℕ) → k < n → p k ≡ true
unfolding every
every_at zero p h k l = absurd (omega arith)
every_at (suc n) p h k l = go (dec_lt k n) (every_at n p (both_parts (every n p) (p n) h).0 k)
  where
    go : Dec (k < n) → (k < n → p k ≡ true) → p k ≡ true
    go (yes below) earlier = earlier below
    go (no past) earlier =
        let last : k ≡ n = omega arith in
        ap p last ∙ (both_parts (every n p) (p n) h).1

-- a test that does not hold of every number below n fails for one
pub every_fails : (n : ℕ) (p : ℕ → Bool) → every n p ≡ false → (k : ℕ) × (k < n) × (p k ≡ false)
unfolding every both
every_fails zero p h = absurd (true≢false h)
every_fails (suc n) p h = go (every n p) (every_fails n p) h
  where
    go : (b : Bool) → (b ≡ false → (k : ℕ) × (k < n) × (p k ≡ false)) → both b (p n) ≡ false → (k : ℕ) × (k < suc n) × (p k ≡ false)
    go true earlier h = (n, omega arith, h)
    go false earlier h = let f = earlier refl in (f.0, omega (arith, f.1), f.2)
