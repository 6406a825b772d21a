-- "1: the line is not in the grammar": a line is a record exactly when it is that record's text.
use Rattle.std.specs.Prelude.{◌≡◌, List, ℕ, None, Some, Ok, Err}
use Rattle.requests.specs.Refusals.{answer_for, answer_number}
use Rattle.grammar.specs.Records.{record_text, Fits}
use Rattle.grammar.specs.Parse.{parse_line, parsed_refusal}
use Rattle.grammar.specs.declared.Record.{Record}
use Rattle.grammar.specs.declared.Line.{Line}

-- the text of a record whose numbers fit their fields
abbrev pub IsText : List ℕ → Record → Type 0
IsText line r = Fits r × (line ≡ record_text r)

pub record Grammar : Type 0 where
  pub parsed : (line : List ℕ) (r : Record) → IsText line r → parse_line line ≡ Ok (Line.Record r)
  pub only : (line : List ℕ) (r : Record) → parse_line line ≡ Ok (Line.Record r) → IsText line r
  -- everything else has a field at fault
  pub other : (line : List ℕ) → ((r : Record) → ¬ IsText line r) → (k : ℕ) × (parse_line line ≡ Err k)
  -- so the grammar refuses no record's text, and everything else with 1
  pub in_grammar : (line : List ℕ) (r : Record) → IsText line r → answer_number (answer_for (parsed_refusal (parse_line line))) ≡ None
  pub outside : (line : List ℕ) → ((r : Record) → ¬ IsText line r) → answer_number (answer_for (parsed_refusal (parse_line line))) ≡ Some 1
