-- The ids that are left, as bits of words: an id that is taken is left no more, and the others stay. Assumes nothing.
--     left-self, left-other    what is left after an id is taken
--     left-word                an id that is left has its word
use mathlib.Core.Path.{◌≡◌, refl, ap, sym, ◌∙◌}
use mathlib.Core.Bool.{Bool, true, false, false≢true}
use mathlib.Mathlib.Data.Bool.Basic.{eq-false_of_not-eq-true}
use mathlib.Core.List.{List}
use Prim.Native.Nat.{ℕ, ◌-◌, ◌/◌, ◌%◌, ◌^◌, ◌≤◌, ◌<◌}
use native.Mathlib.Nat.{zero-div}
use native.Mathlib.Decide.{dec_lt}
use native.Mathlib.Omega.{arith}
use lib.Dec.{eqb}
use lib.ListN.{length, get_or, set, get_or-eq_default, get_or-replicate}
use lib.Seq.{get_or-set_same, get_or-set_other}
use borrow.Author.Tests.{eqb-true, eqb-false, ne_eqb}
use Rattle.requests.specs.declared.CounterSet.{CounterSet}
use Rattle.requests.specs.Bits.{bit}
use Rattle.requests.specs.Devices.{has}
use Rattle.requests.specs.Choice.{both, every}
use Rattle.requests.proofs.Tests.{every_at}
use Rattle.plans.proofs.Sets.{has_le, has_other, has_self}
use Rattle.lent_planner.specs.Surveys.{all_left_lem, is_left, taken_id}

-- ---- a word is a set, of which `Sets` has the laws

abbrev as_set : ℕ → CounterSet
as_set w = record { 0 = w }

pub bit_le : (k w : ℕ) → bit k w ≡ true → 2 ^ k ≤ w
unfolding has
bit_le k w h = has_le (as_set w) k h

bit_other : (k j w : ℕ) → bit k w ≡ true → (k ≡ j → ⊥) → bit j (w - 2 ^ k) ≡ bit j w
unfolding has
bit_other k j w h d = has_other (as_set w) k j h d

bit_self : (k w : ℕ) → bit k w ≡ true → bit k (w - 2 ^ k) ≡ false
unfolding has
bit_self k w h = eq-false_of_not-eq-true {b = bit k (w - 2 ^ k)} (λ g. has_self (as_set w) k k h g refl)

bit_zero : (k : ℕ) → bit k 0 ≡ false
unfolding bit
bit_zero k = ne_eqb (0 / 2 ^ k % 2) 1 (λ e. omega (arith, e, zero-div (2 ^ k)))

pub left_word : (left : List ℕ) (id : ℕ) → is_left left id ≡ true → id / 64 < length left
unfolding is_left
left_word left id h = go (dec_lt (id / 64) (length left))
  where
    go : Dec (id / 64 < length left) → id / 64 < length left
    go (yes l) = l
    go (no f) =
        let e : get_or left (id / 64) 0 ≡ 0 = get_or-eq_default left 0 (omega arith) in
        absurd (false≢true (sym (bit_zero _) ∙ ap (bit _) (sym e) ∙ h))

-- no id is left past the words
pub left_past : (left : List ℕ) (id : ℕ) → length left ≤ id / 64 → is_left left id ≡ false
unfolding is_left
left_past left id l = ap (bit _) (get_or-eq_default left 0 l) ∙ bit_zero _

pub left_self : (left : List ℕ) (id : ℕ) → is_left left id ≡ true → is_left (taken_id left id) id ≡ false
unfolding is_left taken_id
left_self left id h = rw (get_or-set_same left (id / 64) (get_or left (id / 64) 0 - 2 ^ (id % 64)) 0 (left_word left id h)) (bit_self _ (get_or left (id / 64) 0) h)

pub left_other : (left : List ℕ) (id other : ℕ) → is_left left id ≡ true → (id ≡ other → ⊥) → is_left (taken_id left id) other ≡ is_left left other
unfolding is_left taken_id
left_other left id other h d = go (eqb (id / 64) (other / 64)) refl
  where
    go : (b : Bool) → eqb (id / 64) (other / 64) ≡ b → bit (other % 64) (get_or (set left (id / 64) (get_or left (id / 64) 0 - 2 ^ (id % 64))) (other / 64) 0) ≡ bit (other % 64) (get_or left (other / 64) 0)
    go false f = rw (get_or-set_other left (id / 64) (other / 64) (get_or left (id / 64) 0 - 2 ^ (id % 64)) 0 (λ e. eqb-false _ _ f (sym e)))
    go true h2 =
        let e : id / 64 ≡ other / 64 = eqb-true _ _ h2 in
        rw (← e, get_or-set_same left (id / 64) (get_or left (id / 64) 0 - 2 ^ (id % 64)) 0 (left_word left id h))
        (bit_other (id % 64) (other % 64) (get_or left (id / 64) 0) h (λ k. d (omega (arith, e, k))))

-- every id below 65536 is left at first
tested : every 64 (λ j. bit j 0xFFFFFFFFFFFFFFFF) ≡ true
unfolding every both bit
tested = refl

all_bits : (k : ℕ) → k < 64 → bit k 0xFFFFFFFFFFFFFFFF ≡ true
all_bits k l = every_at 64 (λ j. bit j 0xFFFFFFFFFFFFFFFF) tested k l

pub all_ids : (id : ℕ) → id < 65536 → is_left all_left_lem id ≡ true
unfolding is_left all_left_lem
all_ids id l = rw (get_or-replicate {A = ℕ} 1024 (id / 64) 0xFFFFFFFFFFFFFFFF 0 (omega arith)) (all_bits (id % 64) (omega arith))
