-- The counters of a set that are left while the least of them are taken out, one after another. Assumes nothing.
use mathlib.Core.Path.{◌≡◌, refl, sym, ◌∙◌}
use mathlib.Core.Bool.{Bool, true, false}
use Prim.Native.Nat.{ℕ, zero, suc, ◌+◌, ◌%◌, ◌^◌, ◌<◌, ◌≤◌}
use native.Mathlib.Omega.{arith}
use native.Mathlib.Decide.{dec_lt}
use lib.Pow.{pow_pos}
use Rattle.requests.specs.declared.CounterSet.{CounterSet}
use Rattle.requests.specs.Bits.{bit}
use Rattle.requests.specs.Devices.{has}
use Rattle.requests.proofs.Tests.{both_ways}
use Rattle.requests.proofs.Words.{low_false}
use Rattle.search.specs.Counters.{NextIn, without}
use Rattle.plans.proofs.Sets.{has_le, has_other, has_self}

not_true : (b : Bool) → (b ≡ true → ⊥) → b ≡ false
not_true true f = absurd (f refl)
not_true false f = refl

-- the low bits of a word that has none of them
no_low_bit : (k w : ℕ) → ((i : ℕ) → i < k → bit i w ≡ false) → w % 2 ^ k ≡ 0
no_low_bit zero w h = omega arith
no_low_bit (suc k) w h = low_false k w (h k (omega arith)) ∙ no_low_bit k w (λ i l. h i (omega arith))

-- a set that is not empty has its least counter
pub least_there : (s : CounterSet) (r : ℕ) → s.0 < 2 ^ 64 → (s.0 ≡ 0 → ⊥) → NextIn s 0 r → has s r ≡ true
unfolding has
least_there s r fits some least = go (dec_lt r 64)
  where
    go : Dec (r < 64) → has s r ≡ true
    go (yes l) = least.there l
    go (no f) =
        let none : s.0 % 2 ^ 64 ≡ 0 = no_low_bit 64 s.0 (λ i l. least.none_between i (omega arith) (omega arith)) in
        absurd (some (omega (arith, none)))

-- `left` has the counters of `all` from p on, and no others
pub record From (all left : CounterSet) (p : ℕ) : Type 0 where
  pub gone : (i : ℕ) → i < p → has left i ≡ false
  pub kept : (i : ℕ) → p ≤ i → has left i ≡ has all i

module _ {all left : CounterSet} {p : ℕ} (from : From all left p) where
  -- none are left
  pub next_none : left.0 ≡ 0 → NextIn all p (p + 64)
  next_none e = record {
    not_before = omega arith;
    none_between = λ i l m. sym (from.kept i l) ∙ not_true (has left i) (λ h. omega (arith, has_le left i h, pow_pos i));
    there = λ l. absurd (omega arith);
  }

  -- the least of those left
  module _ (r : ℕ) (h : has left r ≡ true) (least : NextIn left 0 r) where
    reached : p ≤ r
    reached = go (dec_lt r p)
      where
        go : Dec (r < p) → p ≤ r
        go (yes l) = absurd (both_ways h (from.gone r l))
        go (no f) = omega arith

    pub least_in : has all r ≡ true
    least_in = sym (from.kept r reached) ∙ h

    pub next_least : NextIn all p r
    next_least = record {
      not_before = reached;
      none_between = λ i l m. sym (from.kept i l) ∙ least.none_between i (omega arith) m;
      there = λ l. least_in;
    }

    -- those left without it
    pub from_next : (after : CounterSet) → after ≡ without left r → From all after (r + 1)
    from_next after e = record { gone = λ i l. below i l (dec_lt i r); kept = λ i l. other i (omega arith) ∙ from.kept i (omega (arith, reached)) }
      where
        other : (i : ℕ) → (r ≡ i → ⊥) → has after i ≡ has left i
        other i d = rw e (has_other left r i h d)

        below : (i : ℕ) → i < r + 1 → Dec (i < r) → has after i ≡ false
        below i l (yes m) = other i (λ same. omega arith) ∙ least.none_between i (omega arith) m
        below i l (no f) = rw e (not_true _ (λ g. has_self left r i h g (omega arith)))
