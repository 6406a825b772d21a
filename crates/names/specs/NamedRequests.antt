-- Document 02, order 9: "a name in neither list gets 8, a found row for another device 7. A found row is used as the same request typed in numbers
-- would be".
use Rattle.std.specs.Prelude.{◌≡◌, List, ℕ, None, Some}
use Rattle.requests.specs.Devices.{letter_of}
use Rattle.requests.specs.Checks.{request_refusal}
use Rattle.requests.specs.declared.CounterSet.{CounterSet}
use Rattle.requests.specs.declared.Device.{Device}
use Rattle.requests.specs.declared.Refusal.TheVariants.{KindNotOnDevice, NotListed}
use Rattle.requests.specs.declared.Request.TheVariants.{Event}
use Rattle.requests.specs.declared.Setup.{Setup}
use Rattle.names.specs.Rows.{row_of}
use Rattle.names.specs.Lists.{NameLists}
use Rattle.names.specs.LookUp.{row_named}
use Rattle.names.specs.Named.{request_named}
use Rattle.names.specs.declared.Row.{Row}

-- the row that a name finds, and what it says
pub record Finds (n : NameLists) (name : List ℕ) (row : Row) : Type 0 where
  pub text : List ℕ
  pub at : row_named n name ≡ Some text
  pub says : row_of text ≡ Some row

pub record NamedRequests : Type 0 where
  -- a row of the device's letter: the event that it says
  pub found : (n : NameLists) (name : List ℕ) (row : Row) (d : Device) (a : CounterSet) → Finds n name row → letter_of row.device ≡ letter_of d
      → request_named n name d a ≡ Event row.code row.mask a
  -- 7: a row for another device
  pub elsewhere : (n : NameLists) (name : List ℕ) (row : Row) (s : Setup) (a : CounterSet) → Finds n name row → ¬ (letter_of row.device ≡ letter_of s.device)
      → request_refusal s (request_named n name s.device a) ≡ Some KindNotOnDevice
  -- 8: a name in neither list
  pub missing : (n : NameLists) (name : List ℕ) (s : Setup) (a : CounterSet) → row_named n name ≡ None
      → request_refusal s (request_named n name s.device a) ≡ Some NotListed
