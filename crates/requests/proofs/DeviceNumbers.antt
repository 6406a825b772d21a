-- What the laws ask of a device's counters and letter: one record a device, cited wherever one of its facts is needed. Assumes nothing.
use Rattle.std.specs.Prelude.{Some}
use mathlib.Core.Path.{◌≡◌, refl}
use Prim.Native.Nat.{ℕ, ◌+◌, ◌≤◌, ◌<◌}
use native.Mathlib.Omega.{arith}
use Rattle.requests.specs.Devices.{counter_count, all_counters, fixed_count, all_fixed, letter_of, box_count, box_of, devices, named, device_of}
use Rattle.requests.specs.Openings.{most_usable, most_fixed, most_box}
use Rattle.requests.specs.declared.Device.{Device}
use Rattle.requests.specs.declared.Device.TheVariants.{G, S, C, B}

pub record DeviceNumbers (d : Device) : Type 0 where
  -- it has a counter, and at most as many as a set of six bits holds
  pub counters_some : 1 ≤ counter_count d
  pub counters_few : counter_count d ≤ 6
  -- the bound of a usable set
  pub usable_most : all_counters d ≡ most_usable d
  -- "0 to 7 .. (0 on S)"
  pub fixed_few : fixed_count d ≤ 3
  pub fixed_most : all_fixed d ≡ most_fixed d
  -- "a number that document 004 does not have is refused"
  pub box_most : box_count d ≡ most_box d + 1
  -- its letter names it, with its box
  pub letter_names : (n : ℕ) → n ≡ box_of d → device_of (letter_of d) n ≡ Some d
  -- it is a printed ASCII character
  pub letter_printed : (32 < letter_of d) × (letter_of d < 127)

pub numbers : (d : Device) → DeviceNumbers d
unfolding counter_count all_counters fixed_count all_fixed letter_of box_count box_of devices named device_of
numbers G = record { counters_some = omega arith; counters_few = omega arith; usable_most = refl; fixed_few = omega arith; fixed_most = refl; box_most = refl; letter_names = λ n e. refl; letter_printed = (omega arith, omega arith) }
numbers S = record { counters_some = omega arith; counters_few = omega arith; usable_most = refl; fixed_few = omega arith; fixed_most = refl; box_most = refl; letter_names = λ n e. refl; letter_printed = (omega arith, omega arith) }
numbers (C b) = record { counters_some = omega arith; counters_few = omega arith; usable_most = refl; fixed_few = omega arith; fixed_most = refl; box_most = refl; letter_names = λ n e. rw e; letter_printed = (omega arith, omega arith) }
numbers B = record { counters_some = omega arith; counters_few = omega arith; usable_most = refl; fixed_few = omega arith; fixed_most = refl; box_most = refl; letter_names = λ n e. refl; letter_printed = (omega arith, omega arith) }
