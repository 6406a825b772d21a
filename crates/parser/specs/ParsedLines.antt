-- "1: the line is not in the grammar": what a line asks for, whatever its bytes and the lists.
use Rattle.std.specs.Prelude.{◌≡◌, List, ℕ, Option, None, Some, Ok, Err}
use Rattle.requests.specs.Devices.{letter_of}
use Rattle.requests.specs.Refusals.{answer_for, answer_number}
use Rattle.requests.specs.declared.CounterSet.{CounterSet}
use Rattle.requests.specs.declared.Device.{Device}
use Rattle.requests.specs.declared.Request.{Request}
use Rattle.requests.specs.declared.Request.TheVariants.{Event}
use Rattle.grammar.specs.Text.{bytes}
use Rattle.grammar.specs.Fields.{field_at}
use Rattle.grammar.specs.Parse.{text_of, parse_line, parsed_refusal}
use Rattle.grammar.specs.Records.{record_text, Fits, AddFits}
use Rattle.grammar.specs.Grammar.{IsText}
use Rattle.grammar.specs.declared.Record.{Record}
use Rattle.grammar.specs.declared.Record.TheVariants.{Add}
use Rattle.grammar.specs.declared.Line.{Line}
use Rattle.names.specs.Lists.{NameLists}
use Rattle.names.specs.RowGrammar.{AreLists}
use Rattle.names.specs.Named.{request_named}
use Rattle.names.specs.NamedRequests.{Finds}
use Rattle.names.specs.declared.Row.{Row}
use Rattle.parser.specs.NamedText.{IsNamed, Outside}
use Rattle.parser.specs.ParseWith.{parse_line_with}

-- a request that a line asks for by name
pub record ByName (n : NameLists) (d : Device) (line : List ℕ) (id : ℕ) (r : Request) : Type 0 where
  pub name : List ℕ
  pub allowed : CounterSet
  pub text : IsNamed line id name allowed
  pub lists : AreLists n
  pub is : r ≡ request_named n name d allowed

-- the number that a line is refused with for what it is, if any
abbrev pub number_for : NameLists → Device → List ℕ → Option ℕ
number_for n d line = answer_number (answer_for (parsed_refusal (parse_line_with n d line)))

pub record ParsedLines : Type 0 where
  -- only a line with the verb `named` looks at the lists and the device
  pub unnamed : (n : NameLists) (d : Device) (line : List ℕ) → ¬ (field_at (text_of line) 0 ≡ bytes "named") → parse_line_with n d line ≡ parse_line line
  -- the text of a record asks for it
  pub record_line : (n : NameLists) (d : Device) (line : List ℕ) (r : Record) → IsText line r → parse_line_with n d line ≡ Ok (Line.Record r)
  -- a request by name asks for one add ..
  pub named_line_lem : (n : NameLists) (d : Device) (line : List ℕ) (id : ℕ) (name : List ℕ) (a : CounterSet) → IsNamed line id name a → AreLists n
      → parse_line_with n d line ≡ Ok (Line.Named id (request_named n name d a))
  -- .. and nothing where a list is ill-formed
  pub ill_formed : (n : NameLists) (d : Device) (line : List ℕ) (id : ℕ) (name : List ℕ) (a : CounterSet) → IsNamed line id name a → ¬ AreLists n
      → parse_line_with n d line ≡ Err 0
  -- every other line has a field at fault, whatever the lists and the device
  pub other : (line : List ℕ) → Outside line → (k : ℕ) × ((n : NameLists) (d : Device) → parse_line_with n d line ≡ Err k)
  -- so no other line asks for a record or for a request by name, and the numbers of what is asked for fit their fields
  pub only : (n : NameLists) (d : Device) (line : List ℕ) (r : Record) → parse_line_with n d line ≡ Ok (Line.Record r) → IsText line r
  pub only_named : (n : NameLists) (d : Device) (line : List ℕ) (id : ℕ) (r : Request) → parse_line_with n d line ≡ Ok (Line.Named id r) → ByName n d line id r
  pub fits : (n : NameLists) (d : Device) (line : List ℕ) (r : Record) → parse_line_with n d line ≡ Ok (Line.Record r) → Fits r
  pub named_fits : (n : NameLists) (d : Device) (line : List ℕ) (id : ℕ) (r : Request) → parse_line_with n d line ≡ Ok (Line.Named id r) → AddFits id r
  -- 1 for every line that is neither, and beside an ill-formed list for every request by name; for no other line
  pub in_grammar : (n : NameLists) (d : Device) (line : List ℕ) (r : Record) → IsText line r → number_for n d line ≡ None
  pub by_name : (n : NameLists) (d : Device) (line : List ℕ) (id : ℕ) (r : Request) → ByName n d line id r → number_for n d line ≡ None
  pub outside : (n : NameLists) (d : Device) (line : List ℕ) → Outside line → number_for n d line ≡ Some 1
  pub list_at_fault : (n : NameLists) (d : Device) (line : List ℕ) (id : ℕ) (name : List ℕ) (a : CounterSet) → IsNamed line id name a → ¬ AreLists n
      → number_for n d line ≡ Some 1
  -- "A found row is used as the same request typed in numbers would be": by name that request is asked for
  pub typed : (n : NameLists) (d : Device) (line : List ℕ) (id : ℕ) (name : List ℕ) (a : CounterSet) (row : Row)
      → IsNamed line id name a → Finds n name row → letter_of row.device ≡ letter_of d
      → (parse_line_with n d line ≡ Ok (Line.Named id (Event row.code row.mask a)))
      × (parse_line_with n d (record_text (Add id (Event row.code row.mask a))) ≡ Ok (Line.Record (Add id (Event row.code row.mask a))))
