-- Document 02, order 11, of 1: "the first field that breaks the grammar, or the number of fields where the record stops too soon or the newline is
-- missing". Of a line of any length, requests by name included, whatever the lists and the device.
use Rattle.std.specs.Prelude.{◌≡◌, List, ℕ, suc, ◌≤◌, ◌<◌, length, take, Err}
use Rattle.requests.specs.declared.CounterSet.{CounterSet}
use Rattle.requests.specs.declared.Device.{Device}
use Rattle.grammar.specs.FirstBroken.{line_fields, BeginsRecord}
use Rattle.names.specs.Lists.{NameLists}
use Rattle.names.specs.RowGrammar.{AreLists}
use Rattle.parser.specs.NamedText.{named_fields, NamedFits, Outside}
use Rattle.parser.specs.ParseWith.{parse_line_with}

-- the first k fields are the first k of a request by name that fits
pub record BeginsNamed (fs : List (List ℕ)) (k : ℕ) : Type 0 where
  pub id : ℕ
  pub name : List ℕ
  pub allowed : CounterSet
  pub fits : NamedFits id name allowed
  pub same : take k (named_fields id name allowed) ≡ take k fs

-- they are those of a record or of a request by name
pub data Begins (fs : List (List ℕ)) (k : ℕ) : Type 0 where
  as_record : BeginsRecord fs k → Begins fs k
  as_named : BeginsNamed fs k → Begins fs k

pub record FirstBroken : Type 0 where
  -- beside well-formed lists only a line outside the grammar has a field at fault
  pub outside : (n : NameLists) (d : Device) (line : List ℕ) (k : ℕ) → AreLists n → parse_line_with n d line ≡ Err k → Outside line
  -- of such a line it is one of its fields, or their number
  pub within : (n : NameLists) (d : Device) (line : List ℕ) (k : ℕ) → Outside line → parse_line_with n d line ≡ Err k → k ≤ length (line_fields line)
  -- those before it are in the grammar ..
  pub good : (n : NameLists) (d : Device) (line : List ℕ) (k : ℕ) → Outside line → parse_line_with n d line ≡ Err k → Begins (line_fields line) k
  -- .. and with it they begin nothing
  pub broken : (n : NameLists) (d : Device) (line : List ℕ) (k : ℕ) → Outside line → parse_line_with n d line ≡ Err k → k < length (line_fields line)
      → ¬ Begins (line_fields line) (suc k)
  -- so there is one such field, and it is the one at fault
  pub only : (n : NameLists) (d : Device) (line : List ℕ) (k : ℕ) → Outside line → k ≤ length (line_fields line) → Begins (line_fields line) k
      → (k < length (line_fields line) → ¬ Begins (line_fields line) (suc k)) → parse_line_with n d line ≡ Err k
