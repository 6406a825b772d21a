-- "At most 16 writes on G and 18 on S." On C 20: six counters, and no filter registers. On B 15: G's without 01A6 and 01A7, and with 03F1.
-- Two more where something is asked of the U-Box.
use Rattle.std.specs.Prelude.{◌≡◌, List, Bool, true, false, ℕ, ◌≤◌, length, Some}
use Rattle.requests.specs.declared.Device.{Device}
use Rattle.requests.specs.declared.Device.TheVariants.{G, S, C, B}
use Rattle.requests.specs.declared.Setup.{Setup}
use Rattle.requests.specs.declared.Request.{Request}
use Rattle.requests.specs.Askings.{overflow_on, asked}
use Rattle.requests.specs.Devices.{box_of, setup_of, opening_of}
use Rattle.requests.specs.Openings.{most_box}
use Rattle.requests.specs.Checks.{Formed}
use Rattle.plans.specs.declared.Place.{Place}
use Rattle.plans.specs.Lists.{All}
use Rattle.plans.specs.Legal.{Legal}
use Rattle.layouts.specs.Writes.{writes}

-- the bound of a device, and whether something is asked
unfoldable pub write_limit : Device → Bool → ℕ
write_limit G a = 16
write_limit S false = 18
write_limit S true = 20
write_limit (C b) false = 20
write_limit (C b) true = 22
write_limit B a = 15

-- a legal plan of well-formed requests that has as many writes
pub record Reached (d : Device) (a : Bool) : Type 0 where
  pub setup : Setup
  pub requests : List Request
  pub places : List Place
  pub device : setup.device ≡ d
  pub asking : asked setup ≡ a
  pub taken : box_of d ≤ most_box d → setup_of (opening_of setup) ≡ Some setup
  pub formed : All (Formed setup) requests
  pub legal : Legal setup requests places
  pub length_is : length (writes setup requests places) ≡ write_limit d a

pub record WriteCount : Type 0 where
  pub at_most : (s : Setup) (rs : List Request) (ps : List Place) → Legal s rs ps → length (writes s rs ps) ≤ write_limit s.device (asked s)
  pub reached : (d : Device) (a : Bool) → (a ≡ true → overflow_on d ≡ true) → Reached d a
