-- The values of the global control register, as the code computes them.
use mathlib.Core.Path.{◌≡◌, ap, ◌∙◌}
use Prim.Native.Nat.{ℕ, ◌+◌, ◌*◌, ◌-◌, ◌%◌, ◌^◌, ◌≤◌, ◌<◌}
use native.Mathlib.Nat.{mod-lt}
use native.Mathlib.Omega.{arith}
use lib.Pow.{pow_pos, pow_mono}
use Rattle.requests.specs.declared.CounterSet.{CounterSet}
use Rattle.requests.specs.declared.Device.{Device}
use Rattle.requests.specs.declared.Setup.{Setup}
use Rattle.requests.specs.Devices.{counter_count, capacity, all_counters, fixed_count, all_fixed}
use Rattle.requests.proofs.DeviceNumbers.{numbers}
use Rattle.plans.proofs.PlanLengthHolds.{plan_length}
use Rattle.layouts.specs.Writes.{unusable, fixed_at, fixed_enables, first_global, last_global}

-- one more than all counters is a power of two
all_next : (d : Device) → all_counters d + 1 ≡ 2 ^ counter_count d
unfolding all_counters
all_next d = omega (arith, pow_pos (counter_count d))

-- a remainder by it is at most all
pub rest_small : (x all : ℕ) → x % (all + 1) ≤ all
rest_small x all = let l : x % (all + 1) < all + 1 = mod-lt x (omega arith) in omega arith

pub all_small : (d : Device) → all_counters d ≤ 255
unfolding all_counters capacity
all_small d = let most : 2 ^ counter_count d ≤ 2 ^ 8 = pow_mono (plan_length.device_at_most d) in omega arith

-- the number of the set of all counters
pub all_number : (d : Device) (all : CounterSet) → all ≡ record { 0 = all_counters d } → all.0 ≡ all_counters d
all_number d all e = ap (λ (x : CounterSet). x.0) e

pub all_fixed_small : (d : Device) → all_fixed d ≤ 7
unfolding all_fixed
all_fixed_small d = let few : 2 ^ fixed_count d ≤ 2 ^ 3 = pow_mono (numbers d).fixed_few in omega arith

-- the fixed enables end at bit 34
pub fixed_part : (d : Device) (x : ℕ) → x % 2 ^ fixed_count d ≤ 7
fixed_part d x =
    let few : 2 ^ fixed_count d ≤ 2 ^ 3 = pow_mono (numbers d).fixed_few in
    omega (arith, mod-lt x (pow_pos (fixed_count d)))

pub fixed_small : (s : Setup) → fixed_enables s ≤ 7 * 2 ^ 32
unfolding fixed_enables fixed_at
fixed_small s = omega (arith, fixed_part s.device s.fixed)

pub first_small : (s : Setup) → first_global s ≤ 7 * 2 ^ 32 + 255
unfolding first_global unusable
first_small s = omega (arith, all_small s.device, fixed_small s)

-- all: the enables of the device's fixed counters, as the code has them
module _ (s : Setup) (all : ℕ) (is : all ≡ all_fixed s.device) where
  fixed_next : all + 1 ≡ 2 ^ fixed_count s.device
  unfolding all_fixed
  fixed_next = omega (arith, is, pow_pos (fixed_count s.device))

  pub fixed_rest : s.fixed % (all + 1) ≤ 7
  fixed_rest = rw fixed_next (fixed_part s.device s.fixed)

  pub fixed_is : s.fixed % (all + 1) * 2 ^ 32 ≡ fixed_enables s
  unfolding fixed_enables fixed_at
  fixed_is = rw fixed_next

-- all: the device's counters, as the code has them
module _ (s : Setup) (all : ℕ) (is : all ≡ all_counters s.device) where
  next : all + 1 ≡ 2 ^ counter_count s.device
  next = ap (λ (k : ℕ). k + 1) is ∙ all_next s.device

  pub first_is : (fixed : ℕ) → fixed ≡ fixed_enables s → fixed + (all - s.usable.0 % (all + 1)) ≡ first_global s
  unfolding first_global unusable
  first_is fixed e = rw (next, is, e)

  pub last_is : (others used : ℕ) → others ≡ first_global s → others + used % (all + 1) ≡ last_global s used
  unfolding last_global
  last_is others used e = rw (next, e)
