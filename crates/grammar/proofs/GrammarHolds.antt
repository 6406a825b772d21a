-- A line is a record exactly when it is that record's text. Assumes nothing.
use Rattle.std.specs.Prelude.{Ok, Err}
use mathlib.Core.Path.{◌≡◌, refl, ap, sym, ◌∙◌}
use mathlib.Core.List.{List}
use Prim.Native.Nat.{ℕ}
use Rattle.requests.specs.Refusals.{number_of, answer_for, answer_number}
use Rattle.grammar.specs.Text.{line_of}
use Rattle.grammar.specs.Records.{record_text}
use Rattle.grammar.specs.Parse.{is_closed, text_of, parse_line, parsed_refusal}
use Rattle.grammar.specs.Grammar.{IsText, Grammar}
use Rattle.grammar.specs.declared.Record.{Record}
use Rattle.grammar.specs.Parsed.{Parsed}
use Rattle.grammar.specs.declared.Line.{Line}
use Rattle.grammar.proofs.Tabs.{line_of_fields}
use Rattle.grammar.proofs.Closings.{closed_reads, record_only, closed_only}
use Rattle.grammar.proofs.Reading.{fields_read}
use Rattle.grammar.proofs.ReadBack.{Told, record_tells}
use Rattle.grammar.proofs.Texts.{TextOf, record_written}
use Rattle.grammar.proofs.Settled.{Settled, asks, faulty, line_is}

-- a record's text is read as the record
text_parsed : (line : List ℕ) (r : Record) → IsText line r → parse_line line ≡ Ok (Line.Record r)
text_parsed line r (fits, is) =
    let w : TextOf r = record_written r fits in
    rw (is, w.line) (closed_reads w.text w.fits_line ∙ fields_read w.text r fits w.parts)

-- and nothing else is
text_only : (line : List ℕ) (r : Record) → parse_line line ≡ Ok (Line.Record r) → IsText line r
unfolding record_text
text_only line r e =
    let (within, given) = record_only line r e in
    let told : Told (text_of line) (is_closed line) r = record_tells (text_of line) (is_closed line) r given in
    (told.fits, closed_only line told.newline_read within ∙ sym (line_of_fields (text_of line)) ∙ ap line_of told.parts)

-- everything else has a field at fault
text_not : (line : List ℕ) → ((r : Record) → ¬ IsText line r) → (k : ℕ) × (parse_line line ≡ Err k)
text_not line no_text = go (line_is line) refl
  where
    go : {p : Parsed} → Settled p → parse_line line ≡ p → (k : ℕ) × (parse_line line ≡ Err k)
    go (asks r) e = absurd (no_text r (text_only line r e))
    go (faulty k l) e = (k, e)

-- the statement
pub grammar : Grammar
unfolding number_of answer_for answer_number parsed_refusal
grammar =
    record {
      parsed = text_parsed;
      only = text_only;
      other = text_not;
      in_grammar = λ line r h. rw (text_parsed line r h);
      outside = λ line h. rw (text_not line h).1;
    }
