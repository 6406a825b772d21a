-- What open takes says of the usable set: it is a set of the device's counters. Assumes nothing.
use Rattle.std.specs.Prelude.{Some}
use mathlib.Core.Path.{◌≡◌, sym, ◌∙◌}
use mathlib.Core.Bool.{true, true≢false}
use Prim.Native.Nat.{ℕ, ◌^◌, ◌≤◌, ◌<◌}
use native.Mathlib.Decide.{dec_lt}
use native.Mathlib.Omega.{arith}
use lib.Pow.{pow_pos, pow_mono}
use Rattle.requests.specs.declared.Device.{Device}
use Rattle.requests.specs.declared.Opening.{Opening}
use Rattle.requests.specs.declared.Setup.{Setup}
use Rattle.requests.specs.Devices.{has, counter_count, all_counters, setup_of}
use Rattle.requests.proofs.OpeningsTaken.{usable_bounds}
use Rattle.layouts.proofs.WordBits.{bit_above}

-- the setup with another device; with its own it is the same
abbrev pub on : Device → Setup → Setup
on d s = record { device = d; usable = s.usable; fixed = s.fixed; overflow = s.overflow }

-- the counters of the usable set are the device's
abbrev pub Within : Setup → Type 0
Within s = s.usable.0 ≤ all_counters s.device

pub usable_within : (o : Opening) (s : Setup) → setup_of o ≡ Some s → Within s
usable_within o s e = (usable_bounds o s e).1

pub usable_counter : (s : Setup) (k : ℕ) → Within s → has s.usable k ≡ true → k < counter_count s.device
unfolding has all_counters
usable_counter s k w h =
    elim (dec_lt k (counter_count s.device)) [
      | yes l ↦ l
      | no o ↦
          let more : 2 ^ counter_count s.device ≤ 2 ^ k = pow_mono (let y = o in omega arith) in
          absurd (true≢false (sym h ∙ bit_above k s.usable.0 (omega (arith, pow_pos (counter_count s.device)))))
    ]
