-- Document 02, order 11: of a line over 80 bytes the first 80 decide the field at fault, requests by name included: it is the first field of the
-- whole text that breaks the grammar. A line without its newline has one, whatever the lists and the device.
use Rattle.std.specs.Prelude.{◌≡◌, Bool, true, false, List, ℕ, ◌<◌, ◌≤◌, length, take, Err}
use Rattle.requests.specs.declared.Device.{Device}
use Rattle.grammar.specs.Parse.{longest, is_closed, text_length}
use Rattle.names.specs.Lists.{NameLists}
use Rattle.parser.specs.ParseWith.{record_with, parse_text_with, parse_line_with}

pub record LongLines : Type 0 where
  -- what is kept of a text that is too long is read as the whole text would be ..
  pub cut : (n : NameLists) (d : Device) (t : List ℕ) (closed : Bool) → longest < length t → parse_text_with n d (take longest t) closed true ≡ record_with n d t closed
  -- .. so that every line, long or not, is read as its whole text
  pub whole : (n : NameLists) (d : Device) (line : List ℕ) → parse_line_with n d line ≡ record_with n d (take (text_length line) line) (is_closed line)
  -- the field at fault is 0 to 7: the longest record has seven fields, and one too many is the eighth
  pub within : (n : NameLists) (d : Device) (line : List ℕ) (k : ℕ) → parse_line_with n d line ≡ Err k → k ≤ 7
  -- a text without its newline has the same field at fault, whatever the lists and the device
  pub unclosed : (t : List ℕ) (long : Bool) → (k : ℕ) × ((n : NameLists) (d : Device) → parse_text_with n d t false long ≡ Err k)
