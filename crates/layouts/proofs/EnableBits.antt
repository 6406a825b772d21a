-- The bits that every event word of a session has: the device's, and pmi_en where something is asked. Assumes nothing.
use mathlib.Core.Path.{◌≡◌, refl}
use mathlib.Core.Bool.{Bool, true, false}
use Prim.Native.Nat.{ℕ, ◌+◌, ◌%◌, ◌^◌, ◌≤◌, ◌<◌}
use native.Mathlib.Nat.{add-zero}
use native.Mathlib.Omega.{arith}
use Rattle.requests.specs.Choice.{pick}
use Rattle.requests.specs.declared.Device.{Device}
use Rattle.requests.specs.declared.Setup.{Setup}
use Rattle.requests.specs.Askings.{overflow_on, asked}
use Rattle.requests.specs.Bits.{bit, only_bits}
use Rattle.requests.proofs.Tests.{both_parts}
use Rattle.layouts.specs.Layout.{control_bits, enabled_on, pmi_enable, enabled}
use Rattle.layouts.proofs.DeviceFacts.{facts}

-- what is asked is asked of a device that the U-Box serves
pub asked_served : (s : Setup) → asked s ≡ true → overflow_on s.device ≡ true
unfolding asked
asked_served s h = (both_parts _ _ h).0

-- bits of 23 to 16 that a control register has, with bit 20 or not
pub record Enables (d : Device) (on : Bool) (w : ℕ) : Type 0 where
  pub some : 0 < w
  pub above : w % 2 ^ 16 ≡ 0
  pub small : w ≤ 0xFFFFFF
  pub permitted : only_bits (control_bits d) w ≡ true
  pub pmi : bit 20 w ≡ on

pub enables : (s : Setup) → Enables s.device (asked s) (enabled s)
unfolding enabled pmi_enable
enables s = go (asked s) (asked_served s)
  where
    go : (b : Bool) → (b ≡ true → overflow_on s.device ≡ true) → Enables s.device b (enabled_on s.device + pick b (2 ^ 20) 0)
    go true served =
        let f = facts s.device in
        record {
          some = omega arith;
          above = omega (arith, f.enabled_above);
          small = omega (arith, f.enabled_small);
          permitted = f.pmi_permitted (served refl);
          pmi = f.pmi_on (served refl);
        }
    go false served =
        let f = facts s.device in
        rw (add-zero (enabled_on s.device))
        (record { some = f.enabled_some; above = f.enabled_above; small = omega (arith, f.enabled_small); permitted = f.enabled_permitted; pmi = f.pmi_off })
