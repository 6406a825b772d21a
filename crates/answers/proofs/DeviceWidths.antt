-- What `set` lines and the room of a turn ask of a device's numbers: one record a device. Assumes nothing.
use mathlib.Core.Bool.{Bool, true, false}
use Prim.Native.Nat.{ℕ, ◌≤◌, ◌<◌}
use native.Mathlib.Omega.{arith}
use Rattle.requests.specs.declared.Device.{Device}
use Rattle.requests.specs.declared.Device.TheVariants.{G, S, C, B}
use Rattle.requests.specs.Devices.{capacity}
use Rattle.layouts.specs.Layout.{layout_of, control_at, counter_at_lem}
use Rattle.layouts.specs.WriteCount.{write_limit}
use Rattle.layouts.proofs.DeviceFacts.{cbox_range}
use Rattle.grammar.specs.Records.{Hex}

pub record DeviceWidths (d : Device) : Type 0 where
  -- addresses have four hex digits
  pub control : (k : ℕ) → k < capacity → Hex 4 (control_at d k)
  pub counter : (k : ℕ) → k < capacity → Hex 4 (counter_at_lem d k)
  pub global : Hex 4 (layout_of d).global

-- a turn is lent the room of 22 writes
pub write_room : (d : Device) (asked : Bool) → write_limit d asked ≤ 22
unfolding write_limit
write_room G a = omega arith
write_room S false = omega arith
write_room S true = omega arith
write_room (C b) false = omega arith
write_room (C b) true = omega arith
write_room B a = omega arith

pub widths : (d : Device) → DeviceWidths d
unfolding control_at counter_at_lem layout_of capacity
widths G =
    record {
      control = λ k l. omega arith;
      counter = λ k l. omega arith;
      global = omega arith;
    }
widths S =
    record {
      control = λ k l. omega arith;
      counter = λ k l. omega arith;
      global = omega arith;
    }
widths (C b) =
    record {
      control = λ k l. omega (arith, (cbox_range b).1);
      counter = λ k l. omega (arith, (cbox_range b).1);
      global = omega (arith, (cbox_range b).1);
    }
widths B =
    record {
      control = λ k l. omega arith;
      counter = λ k l. omega arith;
      global = omega arith;
    }
