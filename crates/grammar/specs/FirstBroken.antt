-- Document 02, order 11, of 1: "the first field that breaks the grammar, or the number of fields where the record stops too soon or the newline is
-- missing". Of a line of any length, by its fields and those of records.
use Rattle.std.specs.Prelude.{◌≡◌, true, List, ℕ, suc, ◌≤◌, ◌<◌, length, take, Err}
use Rattle.grammar.specs.Fields.{fields}
use Rattle.grammar.specs.Records.{record_fields, Fits}
use Rattle.grammar.specs.Grammar.{IsText}
use Rattle.grammar.specs.Parse.{is_closed, text_length, parse_line}
use Rattle.grammar.specs.declared.Record.{Record}

-- the fields of a whole line, without its newline
abbrev pub line_fields : List ℕ → List (List ℕ)
line_fields line = fields (take (text_length line) line)

-- the first k fields are the first k of a record whose numbers fit
pub record BeginsRecord (fs : List (List ℕ)) (k : ℕ) : Type 0 where
  pub of : Record
  pub fits : Fits of
  pub same : take k (record_fields of) ≡ take k fs

pub record FirstBroken : Type 0 where
  -- the field at fault is one of the line's, or their number
  pub within : (line : List ℕ) (k : ℕ) → parse_line line ≡ Err k → k ≤ length (line_fields line)
  -- those before it are in the grammar ..
  pub good : (line : List ℕ) (k : ℕ) → parse_line line ≡ Err k → BeginsRecord (line_fields line) k
  -- .. and with it they begin no record
  pub broken : (line : List ℕ) (k : ℕ) → parse_line line ≡ Err k → k < length (line_fields line) → ¬ BeginsRecord (line_fields line) (suc k)
  -- where it is their number, they are not a whole record, or the newline is missing
  pub stops : (line : List ℕ) → parse_line line ≡ Err (length (line_fields line)) → is_closed line ≡ true → (r : Record) → Fits r
      → ¬ (record_fields r ≡ line_fields line)
  -- so there is one such field, and it is the one at fault
  pub only : (line : List ℕ) → ((r : Record) → ¬ IsText line r) → (k : ℕ) → k ≤ length (line_fields line) → BeginsRecord (line_fields line) k
      → (k < length (line_fields line) → ¬ BeginsRecord (line_fields line) (suc k)) → parse_line line ≡ Err k
