-- A line without its newline is outside the grammar, so that its field at fault is the first that breaks it.
use Rattle.std.specs.Prelude.{Err}
use mathlib.Core.Path.{◌≡◌, refl, ap, ◌∙◌}
use mathlib.Core.List.{List, []}
use Prim.Native.Nat.{ℕ}
use native.Mathlib.Nat.{le_refl}
use lib.Dec.{ltb}
use lib.ListN.{length, take}
use lib.Seq.{take_all}
use Rattle.requests.specs.Refusals.{number_of}
use Rattle.requests.specs.declared.Device.TheVariants.{G}
use Rattle.requests.specs.declared.Refusal.TheVariants.{NotInGrammar}
use Rattle.grammar.specs.Text.{bytes, decimal_digits, decimal_text}
use Rattle.grammar.specs.Fields.{fields}
use Rattle.grammar.specs.Parse.{longest, text_length}
use Rattle.grammar.specs.FirstBroken.{line_fields}
use Rattle.grammar.specs.Parsed.{Parsed}
use Rattle.names.specs.RowGrammar.{list_text, empty, AreLists}
use Rattle.parser.specs.NamedText.{Outside}
use Rattle.parser.specs.ParseWith.{parse_line_with}
use Rattle.parser.proofs.LongLines.{long_lines}
use Rattle.parser.proofs.FirstBroken.{first_broken}
use Rattle.answers.specs.Replies.{answer_text}
use Rattle.streams.specs.Stream.{NewlineFree, no_names, fault_at}
use Rattle.streams.specs.UnfinishedLines.{BreaksAt, refused_at, UnfinishedLines}
use Rattle.streams.proofs.LineByLine.{not_closed, open_parsed, line_by_line}

-- lists without a row
no_rows : AreLists no_names
unfolding list_text
no_rows = (record { rows = []; fit = empty; is = refl }, record { rows = []; fit = empty; is = refl })

refused_text : (k : ℕ) → answer_text (Err NotInGrammar) (fault_at (Err k)) ≡ refused_at k
unfolding answer_text fault_at number_of decimal_text decimal_digits bytes
refused_text k = refl

module _ (text : List ℕ) (free : NewlineFree text) where
  -- it has a field at fault
  at_fault : (k : ℕ) × (parse_line_with no_names G text ≡ Err k)
  at_fault = let (k, f) = long_lines.unclosed (take longest text) (ltb longest (length text)) in (k, open_parsed text free no_names G ∙ f no_names G)

  outside : Outside text
  outside = first_broken.outside no_names G text at_fault.0 no_rows at_fault.1

  -- all its bytes are read
  same_fields : line_fields text ≡ fields text
  unfolding text_length
  same_fields = rw (not_closed text free, take_all (length text) text (le_refl (length text)))

  breaks : (k : ℕ) × BreaksAt (fields text) k
  breaks =
      let (k, e) = at_fault in (
        k,
        rw (← same_fields) (record {
          within = first_broken.within no_names G text k outside e;
          good = first_broken.good no_names G text k outside e;
          broken = first_broken.broken no_names G text k outside e;
        }),
      )

  only : (k : ℕ) → BreaksAt (fields text) k → parse_line_with no_names G text ≡ Err k
  only k b = let l : BreaksAt (line_fields text) k = rw same_fields b in first_broken.only no_names G text k outside l.within l.good l.broken

pub unfinished_lines : UnfinishedLines
unfinished_lines =
    record {
      breaks = breaks;
      answered = λ n s text free some k b.
          (line_by_line n s text free).ended some no_names G
          ∙ ap (λ (p : Parsed). answer_text (Err NotInGrammar) (fault_at p)) (only text free k b)
          ∙ refused_text k;
    }
