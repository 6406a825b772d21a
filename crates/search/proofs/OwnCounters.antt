-- A plan looks at the device's counters alone: the first plan in the usable set is the first in the part of it that the device has, since
-- the same plans fit. Assumes nothing.
use Rattle.std.specs.Prelude.{Option, None, Some}
use mathlib.Core.Path.{◌≡◌, refl, ap, sym, ◌∙◌}
use mathlib.Core.List.{List}
use Prim.Native.Nat.{ℕ, ◌+◌, ◌-◌, ◌/◌, ◌%◌, ◌^◌, ◌<◌}
use native.Mathlib.Nat.{mod-lt}
use native.Mathlib.Omega.{arith}
use lib.Dec.{eqb}
use lib.Bits.{bit_and, and_mask}
use lib.Pow.{field, mod-mod-pow, pow_pos}
use Rattle.requests.specs.declared.CounterSet.{CounterSet}
use Rattle.requests.specs.declared.Device.{Device}
use Rattle.requests.specs.declared.Setup.{Setup}
use Rattle.requests.specs.declared.Request.{Request}
use Rattle.requests.specs.Bits.{bit}
use Rattle.requests.specs.Devices.{has, counter_count, all_counters}
use Rattle.plans.specs.declared.Place.{Place}
use Rattle.search.specs.Rows.{set_of}
use Rattle.plans.specs.Search.{empty_room, plan_in}
use Rattle.plans.proofs.Sets.{all_imp}
use Rattle.plans.proofs.Fits.{Fits}
use Rattle.plans.proofs.FirstFound.{not_after_both, fit_found, fit_first, fit_none}

-- the counters of the set that the device has
abbrev pub own_set : Device → CounterSet → CounterSet
own_set d set = set_of (set.0 % 2 ^ counter_count d)

-- the setup without the usable counters that the device does not have
abbrev pub own : Setup → Setup
own s = record { device = s.device; usable = own_set s.device s.usable; fixed = s.fixed; overflow = s.overflow }

-- the mask of all counters leaves the device's
pub masked : (d : Device) (set all : CounterSet) → all ≡ record { 0 = all_counters d } → bit_and set.0 all.0 ≡ (own_set d set).0
unfolding all_counters
masked d set all e = rw (ap (λ (x : CounterSet). x.0) e) (and_mask set.0 (counter_count d))

pub own_below : (d : Device) (set : CounterSet) → (own_set d set).0 < 2 ^ counter_count d
own_below d set = mod-lt set.0 (pow_pos (counter_count d))

pub has_own : (d : Device) (set : CounterSet) (k : ℕ) → k < counter_count d → has (own_set d set) k ≡ has set k
unfolding has bit
has_own d set k l =
    let n = counter_count d in
    let x = set.0 in
    let above : n - k - 1 + 1 + k ≡ n = omega arith in
    let digits : x % 2 ^ n / 2 ^ k ≡ x / 2 ^ k % 2 ^ (n - k - 1 + 1) = ap (λ (m : ℕ). x % 2 ^ m / 2 ^ k) (sym above) ∙ field x (n - k - 1 + 1) k in
    ap (λ (y : ℕ). eqb (y % 2) 1) digits ∙ ap (λ (y : ℕ). eqb y 1) (mod-mod-pow (x / 2 ^ k) (n - k - 1) 1)

-- two setups of a device whose usable sets have the same counters of the device
fits_as : (s t : Setup) (rs : List Request) (ps : List Place) → s.device ≡ t.device → ((k : ℕ) → k < counter_count s.device → has s.usable k ≡ has t.usable k)
    → Fits s rs ps → Fits t rs ps
fits_as s t rs ps one same f = record {
  differ = f.differ;
  usable_only = all_imp (λ k usable. (rw (← one) usable.0, sym (same k usable.0) ∙ usable.1)) f.usable_only;
  allowed = f.allowed;
  one_word = f.one_word;
  one_packet = f.one_packet;
}

module _ (s : Setup) (rs : List Request) where
  fits_own : (ps : List Place) → Fits s rs ps → Fits (own s) rs ps
  fits_own ps = fits_as s (own s) rs ps refl (λ k l. sym (has_own s.device s.usable k l))

  own_fits : (ps : List Place) → Fits (own s) rs ps → Fits s rs ps
  own_fits ps = fits_as (own s) s rs ps refl (has_own s.device s.usable)

  pub own_plan : plan_in (counter_count s.device) rs (empty_room (own s)) ≡ plan_in (counter_count s.device) rs (empty_room s)
  own_plan = go (plan_in (counter_count s.device) rs (empty_room (own s))) (plan_in (counter_count s.device) rs (empty_room s)) refl refl
    where
      go : (x y : Option (List Place)) → plan_in (counter_count s.device) rs (empty_room (own s)) ≡ x → plan_in (counter_count s.device) rs (empty_room s) ≡ y → x ≡ y
      go None None e f = refl
      go None (Some qs) e f = absurd (fit_none (own s) rs e qs (fits_own qs (fit_found s rs qs f)))
      go (Some ps) None e f = absurd (fit_none s rs f ps (own_fits ps (fit_found (own s) rs ps e)))
      go (Some ps) (Some qs) e f =
          ap Some
          (not_after_both ps qs (fit_first (own s) rs ps qs e (fits_own qs (fit_found s rs qs f))) (fit_first s rs qs ps f (own_fits ps (fit_found (own s) rs ps e))))
