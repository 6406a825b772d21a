-- Document 02, order 11: of a line over 80 bytes the first 80 decide the field at fault: it is the first field of the whole text that breaks the
-- grammar.
use Rattle.std.specs.Prelude.{◌≡◌, Bool, true, List, ℕ, ◌<◌, length, take}
use Rattle.grammar.specs.Verbs.{record_of}
use Rattle.grammar.specs.Parse.{longest, parse_text, is_closed, text_length, parse_line}

pub record LongLines : Type 0 where
  -- what is kept of a text that is too long is read as the whole text would be ..
  pub cut : (t : List ℕ) (closed : Bool) → longest < length t → parse_text (take longest t) closed true ≡ record_of t closed
  -- .. so that every line, long or not, is read as its whole text
  pub whole : (line : List ℕ) → parse_line line ≡ record_of (take (text_length line) line) (is_closed line)
