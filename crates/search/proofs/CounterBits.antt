-- A counter that is taken is free, one of the device's, and one of the 64 bits of a set. Assumes nothing.
use mathlib.Core.Path.{◌≡◌, refl, sym, ◌∙◌}
use mathlib.Core.Bool.{Bool, true, false}
use Prim.Native.Nat.{ℕ, ◌*◌, ◌%◌, ◌^◌, ◌<◌, ◌≤◌}
use native.Mathlib.Nat.{one-mul}
use native.Mathlib.Omega.{arith}
use native.Mathlib.Decide.{dec_lt}
use lib.Dec.{lit<}
use lib.Pow.{shl_exact, pow_mono}
use Rattle.requests.specs.declared.CounterSet.{CounterSet}
use Rattle.requests.specs.Choice.{both}
use Rattle.requests.specs.Devices.{has}
use Rattle.search.specs.Counters.{available}
use Rattle.plans.proofs.Sets.{has_le}

-- a one at place k of a word
pub shifted : (k : ℕ) → k < 64 → 1 * 2 ^ k % 2 ^ 64 ≡ 2 ^ k
shifted k l = shl_exact 1 k 64 (lit< tt) (omega arith) ∙ one-mul (2 ^ k)

-- a number below 2^n is a set of counters below n
pub has_below : (n : ℕ) (s : CounterSet) (k : ℕ) → s.0 < 2 ^ n → has s k ≡ true → k < n
has_below n s k fits h = go (dec_lt k n)
  where
    go : Dec (k < n) → k < n
    go (yes l) = l
    go (no f) = let p : n ≤ k = omega arith in omega (arith, has_le s k h, pow_mono p)

-- a counter that is available is free
available_free : (a free : CounterSet) (k : ℕ) → available a free k ≡ true → has free k ≡ true
unfolding available both
available_free a free k h = go (has a k) h
  where
    go : (b : Bool) → both b (has free k) ≡ true → has free k ≡ true
    go true e = e
    go false e = let z : ◌≡◌ {A = ℕ} 0 1 = cc in absurd (omega arith)

-- and one that is not allowed is not available
pub not_available : (a free : CounterSet) (k : ℕ) → has a k ≡ false → available a free k ≡ false
unfolding available both
not_available a free k h = rw h

-- a set of the counters of `a` that are free, in place of `a`
module _ (a free choice : CounterSet) (k : ℕ) (chosen : has choice k ≡ available a free k) where
  pub chosen_free : has choice k ≡ true → has free k ≡ true
  chosen_free h = available_free a free k (sym chosen ∙ h)

  pub chosen_available : has choice k ≡ true → available choice free k ≡ true
  unfolding available both
  chosen_available h = rw (h, chosen_free h)

  pub chosen_same : available a free k ≡ available choice free k
  unfolding available both
  chosen_same = rw chosen (go (has a k) (has free k))
    where
      go : (x y : Bool) → both x y ≡ both (both x y) y
      go true true = refl
      go true false = refl
      go false y = refl
