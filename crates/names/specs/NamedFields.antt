-- Document 02, order 11: "In a `named` line 8, and 9 or 10 from the row's mask, are at the name". The line has the fields id, name and allowed.
use Rattle.std.specs.Prelude.{◌≡◌, List, ℕ, ◌<◌, None, Some}
use Rattle.requests.specs.Devices.{all_counters, letter_of}
use Rattle.requests.specs.MaskRules.{MaskRule}
use Rattle.requests.specs.RefusedRequests.{Lists, InCatalogue, CodesOn}
use Rattle.requests.specs.RefusedRequests as rows
use Rattle.requests.specs.Faults.{at, request_fault}
use Rattle.requests.specs.declared.CounterSet.{CounterSet}
use Rattle.requests.specs.declared.Device.{Device}
use Rattle.requests.specs.declared.Fault.{Fault}
use Rattle.requests.specs.declared.Refusal.{Refusal}
use Rattle.requests.specs.declared.Refusal.TheVariants.{KindNotOnDevice, NotListed, OutOfRange, Incomplete}
use Rattle.requests.specs.declared.Request.TheVariants.{Event}
use Rattle.requests.specs.declared.Setup.{Setup}
use Rattle.names.specs.Lists.{NameLists}
use Rattle.names.specs.LookUp.{row_named}
use Rattle.names.specs.Named.{request_named, named_field}
use Rattle.names.specs.NamedRequests.{Finds}
use Rattle.names.specs.declared.Row.{Row}

-- a row of the device's letter, with an allowed set, fails under this refusal in this field of the line
pub data RowFailsAt (d : Device) (row : Row) (a : CounterSet) : Refusal → ℕ → Type 0 where
  -- at the name
  not_listed : rows.NotListed d (Event row.code row.mask a) → RowFailsAt d row a NotListed 2
  mask_lacks : rows.Incomplete d (Event row.code row.mask a) → RowFailsAt d row a Incomplete 2
  mask_out : {masks : MaskRule} → CodesOn d → InCatalogue d row.code masks → ¬ Lists masks row.mask → ¬ (row.mask ≡ 0) → RowFailsAt d row a OutOfRange 2
  -- at the allowed set
  allowed : all_counters d < a.0 → RowFailsAt d row a OutOfRange 3

pub record NamedFields : Type 0 where
  -- the verb and the id are where they are
  pub verb : named_field 0 ≡ 0
  pub id : named_field 1 ≡ 1
  -- a row of the device's letter fails in the field that is given, and in no field left of it
  pub fails : (n : NameLists) (name : List ℕ) (row : Row) (s : Setup) (a : CounterSet) (f : Fault) → Finds n name row → letter_of row.device ≡ letter_of s.device
      → request_fault s (request_named n name s.device a) ≡ Some f → RowFailsAt s.device row a f.refusal (named_field f.field)
  pub leftmost : (n : NameLists) (name : List ℕ) (row : Row) (s : Setup) (a : CounterSet) (f : Fault) → Finds n name row → letter_of row.device ≡ letter_of s.device
      → request_fault s (request_named n name s.device a) ≡ Some f → (k : ℕ) → k < named_field f.field → ¬ RowFailsAt s.device row a f.refusal k
  -- 7, a row for another device, is at the verb; 8, a name in neither list, at the name
  pub elsewhere : (n : NameLists) (name : List ℕ) (row : Row) (s : Setup) (a : CounterSet) → Finds n name row → ¬ (letter_of row.device ≡ letter_of s.device)
      → request_fault s (request_named n name s.device a) ≡ Some (at KindNotOnDevice 0)
  pub missing : (n : NameLists) (name : List ℕ) (s : Setup) (a : CounterSet) (f : Fault) → row_named n name ≡ None
      → request_fault s (request_named n name s.device a) ≡ Some f → (f.refusal ≡ NotListed) × (named_field f.field ≡ 2)
