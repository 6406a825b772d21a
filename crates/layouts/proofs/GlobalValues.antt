-- The used counters of a plan and the two values of the global register: laws of plans cite these, and do not unfold the values. Assumes nothing.
--     used-has, used-usable             the used set has the plan's counters, and each is usable
--     first-bit, first-none             the first value: the bits of the counters that are not usable, and no others below bit 32
--     last-bit, last-none, last-unused  the last value: those and the used ones, and no others; where none is used, the first value
--     first-fixed, last-fixed           from bit 32 on each has the fixed enables
--     first-carries, last-carries       with a number that open takes, each is that number there, and enables of counters below
--     first-permitted, last-permitted   neither has a reserved bit
use mathlib.Core.Path.{◌≡◌, refl, sym, ap, ap₂, subst, ◌∙◌}
use mathlib.Core.Bool.{Bool, true, false, not, true≢false, false≢true}
use mathlib.Core.Logic.{◌⊎◌, inl, inr, ⊎_elim}
use mathlib.Core.List.{List}
use Prim.Native.Nat.{ℕ, ◌+◌, ◌*◌, ◌-◌, ◌%◌, ◌^◌, ◌≤◌, ◌<◌}
use native.Mathlib.Nat.{zero-add, add-zero, add_assoc, mod-eq_of_lt, mod-lt}
use native.Mathlib.Decide.{dec_lt}
use native.Mathlib.Omega.{arith}
use borrow.Author.Tests.{eqb-true, not-true, le-ltb}
use lib.Dec.{eqb, ltb}
use lib.Pow.{pow_pos, pow_mono}
use Rattle.requests.specs.Choice.{both, either}
use Rattle.requests.specs.declared.Device.{Device}
use Rattle.requests.specs.declared.Setup.{Setup}
use Rattle.requests.specs.declared.Request.{Request}
use Rattle.requests.specs.Bits.{bit, in_list, only_bits}
use Rattle.requests.specs.Devices.{has, counter_count, capacity, all_counters, fixed_count, all_fixed}
use Rattle.plans.specs.declared.Place.{Place}
use Rattle.plans.specs.Lists.{All, nil, cons}
use Rattle.plans.specs.Legal.{Usable, Legal, counters}
use Rattle.requests.proofs.DeviceNumbers.{numbers}
use Rattle.requests.proofs.Tests.{every_at, either_cases}
use Rattle.plans.proofs.PlanLengthHolds.{plan_length}
use Rattle.layouts.specs.Layout.{global_bits}
use Rattle.layouts.specs.Settings.{set_from, settings_of}
use Rattle.layouts.specs.Writes.{unusable, fixed_at, fixed_enables, first_global, last_global}
use Rattle.layouts.specs.FixedEnables.{Carries}
use Rattle.layouts.proofs.WordBits.{bit_above, bit_low_part, bit_high_part, bit_part, bits_only}
use Rattle.layouts.proofs.DeviceFacts.{facts}
use Rattle.layouts.proofs.CounterSets.{bit_set, set_below, set_sum, set_left}

-- what holds of all elements holds of a number in the list
all_listed : {P : ℕ → Type 0} {ks : List ℕ} (k : ℕ) → All P ks → in_list ks k ≡ true → P k
unfolding in_list
all_listed k nil h = absurd (false≢true h)
all_listed {P} k (cons {a = j} {rest = ks} g gs) h =
    ⊎_elim (λ e. subst P (eqb-true j k e) g) (λ e. all_listed k gs e) (either_cases (eqb j k) (in_list ks k) h)

pub used_has : (s : Setup) (rs : List Request) (ps : List Place) (k : ℕ) → k < counter_count s.device → has (settings_of s rs ps).used k ≡ in_list (counters ps) k
unfolding has settings_of
used_has s rs ps k l = bit_set (counter_count s.device) 0 k (in_list (counters ps)) l ∙ ap (in_list (counters ps)) (zero-add k)

module _ (s : Setup) (rs : List Request) (ps : List Place) (legal : Legal s rs ps) where
  pub used_usable : (k : ℕ) → k < counter_count s.device → has (settings_of s rs ps).used k ≡ true → Usable s k
  used_usable k l h = all_listed k legal.usable_only (sym (used_has s rs ps k l) ∙ h)

-- ---- a value: a number from bit 32 on, and a set of the device's counters below

abbrev value : Device → ℕ → (ℕ → Bool) → ℕ
value d fixed on = fixed * 2 ^ fixed_at + set_from (counter_count d) 0 on

-- the set ends below bit 32
set_low : (d : Device) (on : ℕ → Bool) → set_from (counter_count d) 0 on < 2 ^ 32
unfolding capacity
set_low d on =
    let small : 2 ^ counter_count d ≤ 2 ^ 8 = pow_mono (plan_length.device_at_most d) in
    omega (arith, set_below (counter_count d) 0 on)

value_bit : (d : Device) (fixed : ℕ) (on : ℕ → Bool) (k : ℕ) → k < counter_count d → bit k (value d fixed on) ≡ on k
unfolding fixed_at capacity
value_bit d fixed on k l =
    bit_low_part 32 k fixed (set_from (counter_count d) 0 on) (omega (arith, plan_length.device_at_most d))
    ∙ bit_set (counter_count d) 0 k on l
    ∙ ap on (zero-add k)

-- below bit 32 it has no others
value_none : (d : Device) (fixed : ℕ) (on : ℕ → Bool) (k : ℕ) → counter_count d ≤ k → k < 32 → bit k (value d fixed on) ≡ false
unfolding fixed_at
value_none d fixed on k past l =
    let more : 2 ^ counter_count d ≤ 2 ^ k = pow_mono past in
    bit_low_part 32 k fixed (set_from (counter_count d) 0 on) l
    ∙ bit_above k (set_from (counter_count d) 0 on) (omega (arith, set_below (counter_count d) 0 on))

-- the fixed enables of a setup, from bit 32 on
value_fixed : (s : Setup) (on : ℕ → Bool) (k : ℕ)
    → bit (32 + k) (value s.device (s.fixed % 2 ^ fixed_count s.device) on) ≡ both (ltb k (fixed_count s.device)) (bit k s.fixed)
unfolding fixed_at
value_fixed s on k =
    bit_high_part 32 k (s.fixed % 2 ^ fixed_count s.device) (set_from (counter_count s.device) 0 on) (set_low s.device on)
    ∙ bit_part (fixed_count s.device) k s.fixed

-- it has only enable bits
value_clean : (s : Setup) (on : ℕ → Bool) → only_bits (global_bits s.device) (value s.device (s.fixed % 2 ^ fixed_count s.device) on) ≡ true
unfolding fixed_at both
value_clean s on =
    let d = s.device in
    let f = s.fixed % 2 ^ fixed_count d in
    let few : 2 ^ fixed_count d ≤ 2 ^ 3 = pow_mono (numbers d).fixed_few in
    let within : f < 2 ^ fixed_count d = mod-lt s.fixed (pow_pos (fixed_count d)) in
    bits_only (global_bits d) (value d f on) (omega (arith, set_low d on)) (λ k b. elim (dec_lt k 32) [
      | yes y ↦ elim (dec_lt k (counter_count d)) [
        | yes z ↦ inr (every_at (counter_count d) (in_list (global_bits d)) (facts d).enables k z)
        | no o ↦ inl (value_none d f on k (let z = o in omega arith) y)
      ]
      | no o ↦
          let past : 32 + (k - 32) ≡ k = let z = o in omega arith in
          high k (k - 32) past (dec_lt (k - 32) (fixed_count d))
    ])
  where
    high : (k j : ℕ) → 32 + j ≡ k → Dec (j < fixed_count s.device)
        → (bit k (value s.device (s.fixed % 2 ^ fixed_count s.device) on) ≡ false) ⊎ (in_list (global_bits s.device) k ≡ true)
    high k j e (yes l) = inr (ap (in_list (global_bits s.device)) (sym e) ∙ every_at (fixed_count s.device) (λ i. in_list (global_bits s.device) (32 + i)) (facts s.device).fixed_enables_lem j l)
    high k j e (no o) =
        inl
        (ap (λ (i : ℕ). bit i (value s.device (s.fixed % 2 ^ fixed_count s.device) on)) (sym e)
        ∙ value_fixed s on j
        ∙ rw (le-ltb j (fixed_count s.device) (let z = o in omega arith)))

-- where the number is one that open takes, it is the number itself that the value carries
value_carries : (s : Setup) (on : ℕ → Bool) → s.fixed ≤ all_fixed s.device
    → Carries s.fixed (all_counters s.device) (value s.device (s.fixed % 2 ^ fixed_count s.device) on)
unfolding fixed_at all_counters all_fixed
value_carries s on w =
    record {
      low = set_from (counter_count s.device) 0 on;
      value = ap (λ (f : ℕ). f * 2 ^ 32 + set_from (counter_count s.device) 0 on) (mod-eq_of_lt (omega (arith, pow_pos (fixed_count s.device))));
      at_most = omega (arith, set_below (counter_count s.device) 0 on);
    }

-- ---- the first value

abbrev others : Setup → ℕ → Bool
others s k = not (has s.usable k)

first_value : (s : Setup) → first_global s ≡ value s.device (s.fixed % 2 ^ fixed_count s.device) (others s)
unfolding first_global fixed_enables unusable all_counters has
first_value s = ap (λ (low : ℕ). fixed_enables s + low) (set_left (counter_count s.device) s.usable.0)

pub first_bit : (s : Setup) (k : ℕ) → k < counter_count s.device → bit k (first_global s) ≡ not (has s.usable k)
first_bit s k l = ap (bit k) (first_value s) ∙ value_bit s.device _ (others s) k l

pub first_none : (s : Setup) (k : ℕ) → counter_count s.device ≤ k → k < 32 → bit k (first_global s) ≡ false
first_none s k past l = ap (bit k) (first_value s) ∙ value_none s.device _ (others s) k past l

pub first_fixed : (s : Setup) (k : ℕ) → bit (32 + k) (first_global s) ≡ both (ltb k (fixed_count s.device)) (bit k s.fixed)
first_fixed s k = ap (bit (32 + k)) (first_value s) ∙ value_fixed s (others s) k

pub first_permitted : (s : Setup) → only_bits (global_bits s.device) (first_global s) ≡ true
first_permitted s = rw (first_value s) (value_clean s (others s))

pub first_carries : (s : Setup) → s.fixed ≤ all_fixed s.device → Carries s.fixed (all_counters s.device) (first_global s)
first_carries s w = subst (Carries s.fixed (all_counters s.device)) (sym (first_value s)) (value_carries s (others s) w)

-- ---- the last value

pub last_unused : (s : Setup) → last_global s 0 ≡ first_global s
unfolding last_global
last_unused s = ap (λ (k : ℕ). first_global s + k) (mod-eq_of_lt (pow_pos (counter_count s.device))) ∙ add-zero (first_global s)

module _ (s : Setup) (rs : List Request) (ps : List Place) (legal : Legal s rs ps) where
  abbrev enabled : ℕ → Bool
  enabled k = either (not (has s.usable k)) (in_list (counters ps) k)

  last_value_lem : last_global s (settings_of s rs ps).used.0 ≡ value s.device (s.fixed % 2 ^ fixed_count s.device) enabled
  unfolding last_global settings_of
  last_value_lem =
      ap₂ ◌+◌ (first_value s) (mod-eq_of_lt (set_below (counter_count s.device) 0 (in_list (counters ps))))
      ∙ add_assoc _ _ _
      ∙ ap (λ (low : ℕ). s.fixed % 2 ^ fixed_count s.device * 2 ^ fixed_at + low)
      (set_sum (counter_count s.device) 0 (others s) (in_list (counters ps)) (λ k l h. apart (0 + k) h (in_list (counters ps) (0 + k)) refl))
    where
      apart : (k : ℕ) → not (has s.usable k) ≡ true → (b : Bool) → in_list (counters ps) k ≡ b → b ≡ false
      apart k h true e = absurd (true≢false (sym (all_listed {P = Usable s} k legal.usable_only e).1 ∙ not-true (has s.usable k) h))
      apart k h false e = refl

  pub last_bit : (k : ℕ) → k < counter_count s.device
      → bit k (last_global s (settings_of s rs ps).used.0) ≡ either (not (has s.usable k)) (in_list (counters ps) k)
  last_bit k l = ap (bit k) last_value_lem ∙ value_bit s.device _ enabled k l

  pub last_none : (k : ℕ) → counter_count s.device ≤ k → k < 32 → bit k (last_global s (settings_of s rs ps).used.0) ≡ false
  last_none k past l = ap (bit k) last_value_lem ∙ value_none s.device _ enabled k past l

  pub last_fixed : (k : ℕ) → bit (32 + k) (last_global s (settings_of s rs ps).used.0) ≡ both (ltb k (fixed_count s.device)) (bit k s.fixed)
  last_fixed k = ap (bit (32 + k)) last_value_lem ∙ value_fixed s enabled k

  pub last_permitted : only_bits (global_bits s.device) (last_global s (settings_of s rs ps).used.0) ≡ true
  last_permitted = rw last_value_lem (value_clean s enabled)

  -- the number of an accepted open, and enables of the device's counters below it
  pub last_carries : s.fixed ≤ all_fixed s.device → Carries s.fixed (all_counters s.device) (last_global s (settings_of s rs ps).used.0)
  last_carries w = subst (Carries s.fixed (all_counters s.device)) (sym last_value_lem) (value_carries s enabled w)
