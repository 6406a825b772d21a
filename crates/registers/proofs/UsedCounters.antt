-- The set of the used counters, with one counter more, and with those of a list.
use mathlib.Core.Path.{◌≡◌, refl, sym, ap, ◌∙◌}
use mathlib.Core.List.{List, [], ◌∷◌, ◌++◌}
use mathlib.Core.Bool.{Bool, true, false}
use Prim.Native.Nat.{ℕ, zero, suc, ◌+◌, ◌-◌, ◌/◌, ◌%◌, ◌^◌, ◌≤◌, ◌<◌}
use native.Mathlib.Nat.{div-div-eq-div-mul, pow-succ', div-one, zero-add}
use native.Mathlib.Decide.{ℕ_discrete, dec_lt}
use native.Mathlib.Omega.{arith}
use borrow.Author.Tests.{eq-eqb, ne_eqb, eqb-false, lt-ltb, le-ltb}
use Rattle.requests.specs.declared.CounterSet.{CounterSet}
use Rattle.requests.specs.declared.Device.{Device}
use Rattle.requests.specs.Choice.{both, either}
use Rattle.requests.specs.Bits.{bit, in_list}
use Rattle.requests.specs.Devices.{has, counter_count, capacity}
use Rattle.layouts.specs.Settings.{set_from}
use Rattle.registers.specs.Adding.{with_counter, with_counters}
use Rattle.plans.proofs.PlanLengthHolds.{plan_length}
use Rattle.layouts.proofs.CounterSets.{bit_set, set_same}

abbrev pub set_of : ℕ → CounterSet
set_of x = record { 0 = x }

-- ---- tests that differ at one counter

set_more : (n k j : ℕ) (f g : ℕ → Bool) → j < n → f (k + j) ≡ false → g (k + j) ≡ true
    → ((i : ℕ) → (i ≡ k + j → ⊥) → f i ≡ g i) → set_from n k g ≡ set_from n k f + 2 ^ j
unfolding set_from
set_more zero k j f g l off on same = absurd (omega arith)
set_more (suc n) k zero f g l off on same =
    let e : k + 0 ≡ k = omega arith in
    rw (rw e at off, rw e at on, set_same n (suc k) f g (λ i l. same (suc k + i) (λ z. omega arith))) (omega arith)
set_more (suc n) k (suc j) f g l off on same =
    let e : k + suc j ≡ suc k + j = omega arith in
    rw (same k (λ z. omega arith), set_more n (suc k) j f g (omega arith) (rw e at off) (rw e at on) (λ i ne. same i (λ z. ne (z ∙ e))))
    (omega (arith, pow-succ' 2 j))

-- ---- one counter more

-- a set without bit k has room for it
clear_fits : (k m x : ℕ) → x < 2 ^ (k + suc m) → x / 2 ^ k % 2 ≡ 0 → x + 2 ^ k < 2 ^ (k + suc m)
clear_fits zero m x l e =
    let p : 0 + suc m ≡ suc m = omega arith in
    rw p (omega (arith, pow-succ' 2 m, rw p at l, rw (div-one x) at e))
clear_fits (suc k) m x l e =
    let p : suc k + suc m ≡ suc (k + suc m) = omega arith in
    let half : x / 2 / 2 ^ k % 2 ≡ 0 = rw (pow-succ' 2 k, ← div-div-eq-div-mul x 2 (2 ^ k)) at e in
    let below : x / 2 < 2 ^ (k + suc m) = omega (arith, pow-succ' 2 (k + suc m), rw p at l) in
    rw p (omega (arith, pow-succ' 2 (k + suc m), pow-succ' 2 k, clear_fits k m (x / 2) below half))

-- .. so that the sum is a number of 64 bits
pub with_fits : (u : CounterSet) (k : ℕ) → u.0 < 2 ^ 64 → k < 64 → has u k ≡ false → u.0 + 2 ^ k < 2 ^ 64
unfolding has bit
with_fits u k fits l off =
    let e : k + suc (63 - k) ≡ 64 = omega arith in
    rw e at (clear_fits k (63 - k) u.0 (rw e fits) (omega (arith, eqb-false (u.0 / 2 ^ k % 2) 1 off)))

-- counters of a device are below 64
pub counter_below : (d : Device) (k : ℕ) → k < counter_count d → k < 64
unfolding capacity
counter_below d k l = omega (arith, plan_length.device_at_most d)

module _ (d : Device) (k : ℕ) (u : CounterSet) where
  pub with_new : k < counter_count d → has u k ≡ false → set_of (u.0 + 2 ^ k) ≡ with_counter d k u
  unfolding with_counter both
  with_new l off = rw (lt-ltb k (counter_count d) l, off)

  pub with_old : k < counter_count d → has u k ≡ true → u ≡ with_counter d k u
  unfolding with_counter both
  with_old l on = rw (lt-ltb k (counter_count d) l, on)

  pub with_foreign : counter_count d ≤ k → u ≡ with_counter d k u
  unfolding with_counter both
  with_foreign l = rw (le-ltb k (counter_count d) l)

-- the test of a list with one more counter
in_other : (k j : ℕ) (ks : List ℕ) → (j ≡ k → ⊥) → in_list ks j ≡ in_list (k ∷ ks) j
unfolding in_list either
in_other k j ks ne = rw (ne_eqb k j (λ e. ne (sym e)))

in_self : (k : ℕ) (ks : List ℕ) → in_list (k ∷ ks) k ≡ true
unfolding in_list either
in_self k ks = rw (eq-eqb k k refl)

used_one : (d : Device) (k : ℕ) (ks : List ℕ) → set_of (set_from (counter_count d) 0 (in_list (k ∷ ks))) ≡ with_counter d k (set_of (set_from (counter_count d) 0 (in_list ks)))
unfolding has
used_one d k ks = go (dec_lt k (counter_count d))
  where
    n : ℕ
    n = counter_count d

    u : CounterSet
    u = set_of (set_from n 0 (in_list ks))

    old : in_list ks k ≡ true → set_from n 0 (in_list (k ∷ ks)) ≡ set_from n 0 (in_list ks)
    old on =
        set_same n 0 (in_list (k ∷ ks)) (in_list ks)
        (λ j b. rw (zero-add j) (elim (ℕ_discrete j k) [ yes e ↦ rw e (in_self k ks ∙ sym on) | no ne ↦ sym (in_other k j ks ne) ]))

    has_k : k < n → has u k ≡ in_list ks k
    has_k l = bit_set n 0 k (in_list ks) l ∙ ap (in_list ks) (zero-add k)

    within : (b : Bool) → in_list ks k ≡ b → k < n → set_of (set_from n 0 (in_list (k ∷ ks))) ≡ with_counter d k u
    within true on l = ap set_of (old on) ∙ with_old d k u l (has_k l ∙ on)
    within false off l =
        ap set_of (set_more n 0 k (in_list ks) (in_list (k ∷ ks)) l (ap (in_list ks) (zero-add k) ∙ off) (ap (in_list (k ∷ ks)) (zero-add k) ∙ in_self k ks) (λ i ne. in_other k i ks (λ e. ne (e ∙ sym (zero-add k)))))
        ∙ with_new d k u l (has_k l ∙ off)

    go : Dec (k < n) → set_of (set_from n 0 (in_list (k ∷ ks))) ≡ with_counter d k u
    go (yes l) = within (in_list ks k) refl l
    go (no f) =
        ap set_of (set_same n 0 (in_list (k ∷ ks)) (in_list ks) (λ j b. rw (zero-add j) (sym (in_other k j ks (λ e. let g = f in omega arith)))))
        ∙ with_foreign d k u (let g = f in omega arith)

-- the set with the counters of a list in front
pub used_more : (d : Device) (js ks : List ℕ)
    → set_of (set_from (counter_count d) 0 (in_list (js ++ ks))) ≡ with_counters d js (set_of (set_from (counter_count d) 0 (in_list ks)))
unfolding with_counters
used_more d [] ks = refl
used_more d (j ∷ js) ks = used_one d j (js ++ ks) ∙ ap (with_counter d j) (used_more d js ks)
