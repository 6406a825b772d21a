-- The sets of counters that requests leave free: a legal plan takes its counters one after another, and each step leaves a set that is among
-- them. Assumes nothing.
use mathlib.Core.Path.{◌≡◌, refl, ap, sym, ◌∙◌}
use mathlib.Core.Bool.{Bool, true, false}
use mathlib.Core.List.{List, [], ◌∷◌, ◌++◌, flat_map}
use Prim.Native.Nat.{ℕ, zero, suc, ◌+◌, ◌-◌, ◌/◌, ◌%◌, ◌^◌, ◌<◌, ◌≤◌, max}
use native.Mathlib.Omega.{arith}
use lib.Arith.{digits_mod}
use lib.Bits.{bit_and, bit_or, or_step, or_shr}
use lib.Dec.{eqb}
use lib.Pow.{shr-shr}
use borrow.Author.Tests.{eqb-true, eqb-false}
use Rattle.requests.specs.declared.CounterSet.{CounterSet}
use Rattle.requests.specs.declared.Setup.{Setup}
use Rattle.requests.specs.declared.Request.{Request}
use Rattle.requests.specs.Choice.{both, every, pick}
use Rattle.requests.specs.Bits.{bit}
use Rattle.requests.specs.Devices.{has, counter_count}
use Rattle.requests.proofs.Tests.{every_at}
use Rattle.requests.proofs.Words.{same, bit_and_lem}
use Rattle.requests.proofs.DeviceNumbers.{numbers}
use Rattle.plans.specs.declared.Place.{Place}
use Rattle.plans.specs.Lists.{All, cons, Each, none, and}
use Rattle.plans.specs.Places.{counted_of, counters_of}
use Rattle.plans.specs.Legal.{Allowed, event, packet, offcore, latency, counters, HasPlan}
use Rattle.plans.specs.Reach.{sets_with, taking, taking_one, left_by, left_from, left_of, Reach}
use Rattle.plans.proofs.Sets.{no_bit, own_bit, has_le, less, Takes, all_takes, all_imp}

-- ---- bits

-- the lowest digit of `|`
max_one : (x y : ℕ) → x < 2 → y < 2 → max x y < 2
max_one x y p q = omega arith

or_digit : (a b : ℕ) → bit_or a b % 2 ≡ max (a % 2) (b % 2)
or_digit a b = ap (λ (x : ℕ). x % 2) (or_step a b) ∙ digits_mod (bit_or (a / 2) (b / 2)) (max_one (a % 2) (b % 2) (omega arith) (omega arith))

digit_or : (k a b : ℕ) → bit_or a b / 2 ^ k % 2 ≡ max (a / 2 ^ k % 2) (b / 2 ^ k % 2)
digit_or k a b = ap (λ (x : ℕ). x % 2) (or_shr a b k) ∙ or_digit (a / 2 ^ k) (b / 2 ^ k)

-- a bit of either is a bit of both joined
bit_left : (k a b : ℕ) → bit k a ≡ true → bit k (bit_or a b) ≡ true
unfolding bit
bit_left k a b h =
    let one : a / 2 ^ k % 2 ≡ 1 = eqb-true _ _ h in
    let m : max (a / 2 ^ k % 2) (b / 2 ^ k % 2) ≡ 1 = omega arith in
    ap (λ (x : ℕ). eqb x 1) (digit_or k a b ∙ m)

bit_right : (k a b : ℕ) → bit k b ≡ true → bit k (bit_or a b) ≡ true
unfolding bit
bit_right k a b h =
    let one : b / 2 ^ k % 2 ≡ 1 = eqb-true _ _ h in
    let m : max (a / 2 ^ k % 2) (b / 2 ^ k % 2) ≡ 1 = omega arith in
    ap (λ (x : ℕ). eqb x 1) (digit_or k a b ∙ m)

-- ---- one counter

-- bit f of the mask of counter k is bit k of f, for each of both
table : every 6 (λ k. every 64 (λ f. same (bit f (sets_with k)) (bit k f))) ≡ true
unfolding every both bit sets_with
table = refl

masks : (f : CounterSet) (k : ℕ) → f.0 < 64 → k < 6 → bit f.0 (sets_with k) ≡ has f k
unfolding has
masks f k fits p =
    let row = every_at 6 (λ j. every 64 (λ g. same (bit g (sets_with j)) (bit j g))) table k p in
    agree (bit f.0 (sets_with k)) (bit k f.0) (every_at 64 (λ g. same (bit g (sets_with k)) (bit k g)) row f.0 fits)
  where
    agree : (x y : Bool) → same x y ≡ true → x ≡ y
    agree true true h = refl
    agree true false h = sym h
    agree false true h = h
    agree false false h = refl

-- a bit, in the word without its lowest ones
lower_bit : (f k x : ℕ) → 2 ^ k + (f - 2 ^ k) ≡ f → bit f x ≡ true → bit (f - 2 ^ k) (x / 2 ^ (2 ^ k)) ≡ true
unfolding bit
lower_bit f k x sum b = ap (λ (y : ℕ). eqb (y % 2) 1) (shr-shr x (2 ^ k) (f - 2 ^ k) ∙ ap (λ (e : ℕ). x / 2 ^ e) sum) ∙ b

module _ (f : CounterSet) (fits : f.0 < 64) (sets : ℕ) (there : bit f.0 sets ≡ true) where
  one_taken : (k : ℕ) → k < 6 → has f k ≡ true → bit (f.0 - 2 ^ k) (taking k sets) ≡ true
  unfolding taking has both
  one_taken k p h =
      let sum : 2 ^ k + (f.0 - 2 ^ k) ≡ f.0 = omega (arith, has_le f k h) in
      let both_bits : bit f.0 (bit_and sets (sets_with k)) ≡ true = bit_and_lem f.0 sets (sets_with k) ∙ rw (there, masks f k fits p ∙ h) in
      lower_bit f.0 k (bit_and sets (sets_with k)) sum both_bits

  any_taken : (n : ℕ) (a : CounterSet) (k : ℕ) → n ≤ 6 → k < n → has a k ≡ true → has f k ≡ true → bit (f.0 - 2 ^ k) (taking_one n a sets) ≡ true
  unfolding taking_one
  any_taken zero a k b l g h = absurd (omega arith)
  any_taken (suc m) a k b l g h = go (λ lower. any_taken m a k (omega arith) lower g h) (eqb k m) refl
    where
      go : (k < m → bit (f.0 - 2 ^ k) (taking_one m a sets) ≡ true) → (t : Bool) → eqb k m ≡ t → bit (f.0 - 2 ^ k) (bit_or (taking_one m a sets) (pick (has a m) (taking m sets) 0)) ≡ true
      go before true e = let same : k ≡ m = eqb-true k m e in bit_right _ (taking_one m a sets) _ (rw (← same, g) (one_taken k (omega arith) h))
      go before false d = bit_left _ (taking_one m a sets) _ (before (omega (arith, eqb-false k m d)))

-- ---- all requests

less_fits : (f : CounterSet) (k : ℕ) → f.0 < 64 → (less f k).0 < 64
less_fits f k l = omega arith

left_some : (n : ℕ) → n ≤ 6 → {rs : List Request} {ps : List Place} → Each Allowed rs ps → (f : CounterSet) → f.0 < 64
    → Takes f (counters ps) → All (λ (k : ℕ). k < n) (counters ps) → (sets : ℕ) → bit f.0 sets ≡ true → left_from n sets rs ≡ 0 → ⊥
unfolding counters counters_of counted_of flat_map left_from left_by
left_some n b none f fits t l sets here z = no_bit f.0 (rw z at here)
left_some n b (and (event {a = a} {k = k} g) rest) f fits t (cons l ls) sets here z =
    left_some n b rest (less f k) (less_fits f k fits) t.1 ls (taking_one n a sets) (any_taken f fits sets here n a k b l g t.0) z
left_some n b (and (packet {a = a} {k = k} g) rest) f fits t (cons l ls) sets here z =
    left_some n b rest (less f k) (less_fits f k fits) t.1 ls (taking_one n a sets) (any_taken f fits sets here n a k b l g t.0) z
left_some n b (and (offcore {a = a} {k = k} g i) rest) f fits t (cons l ls) sets here z =
    left_some n b rest (less f k) (less_fits f k fits) t.1 ls (taking_one n a sets) (any_taken f fits sets here n a k b l g t.0) z
left_some n b (and (latency {a = a} {b = c} {j = j} {k = k} g h) rest) f fits t (cons l (cons m ls)) sets here z =
    let first = any_taken f fits sets here n a j b l g t.0 in
    let e = less f j in
    let second = any_taken e (less_fits f j fits) (taking_one n a sets) first n c k b m h t.1.0 in
    left_some n b rest (less e k) (less_fits e k (less_fits f j fits)) t.1.1 ls (taking_one n c (taking_one n a sets)) second z

unplanned : (s : Setup) (rs : List Request) → s.usable.0 < 64 → left_of s rs ≡ 0 → ¬ HasPlan s rs
unfolding left_of
unplanned s rs fits z h =
    let l = h.1 in
    let n = counter_count s.device in
    left_some n (numbers s.device).counters_few l.allowed s.usable fits
    (all_takes s.usable (counters h.0) (all_imp (λ k u. u.1) l.usable_only) l.differ)
    (all_imp (λ k u. u.0) l.usable_only)
    (2 ^ s.usable.0)
    (own_bit s.usable.0)
    z

grows_from : (n sets : ℕ) (rs : List Request) (r : Request) → left_from n sets (rs ++ r ∷ []) ≡ left_by n r (left_from n sets rs)
unfolding left_from
grows_from n sets [] r = refl
grows_from n sets (q ∷ rs) r = grows_from n (left_by n q sets) rs r

grows : (s : Setup) (rs : List Request) (r : Request) → left_of s (rs ++ r ∷ []) ≡ left_by (counter_count s.device) r (left_of s rs)
unfolding left_of
grows s rs r = grows_from (counter_count s.device) (2 ^ s.usable.0) rs r

pub reach : Reach
reach = record { few = λ d. (numbers d).counters_few; masks = masks; grows = grows; unplanned = unplanned }
