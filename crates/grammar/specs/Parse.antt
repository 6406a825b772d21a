-- Document 01, 'Lines': what a line of bytes is.
use Rattle.std.specs.Prelude.{Bool, true, false, List, ℕ, ◌-◌, length, get_or, take, ltb, eqb, Option, None, Some, Ok, Err}
use Rattle.requests.specs.declared.Refusal.{Refusal}
use Rattle.requests.specs.declared.Refusal.TheVariants.{NotInGrammar}
use Rattle.requests.specs.Choice.{pick}
use Rattle.grammar.specs.Text.{newline}
use Rattle.grammar.specs.Fields.{fields}
use Rattle.grammar.specs.Verbs.{record_of}
use Rattle.grammar.specs.Parsed.{Parsed}

-- "at most 80 bytes"
unfoldable pub longest : ℕ
longest = 80

-- no record where the line is longer; at fault is then the field after the last
unfoldable pub too_long_lem : Parsed → ℕ → Parsed
too_long_lem (Ok asked) n = Err n
too_long_lem (Err k) n = Err k

-- what a text is, closed by a newline or not, whole or the first 80 bytes of a longer one
unfoldable pub parse_text : List ℕ → Bool → Bool → Parsed
parse_text t closed long = elim long [ true ↦ too_long_lem (record_of t closed) (length (fields t)) | false ↦ record_of t closed ]

-- whether the line ends with a newline
unfoldable pub is_closed : List ℕ → Bool
is_closed line = eqb (get_or line (length line - 1) 0) newline

-- the number of its bytes without it
unfoldable pub text_length : List ℕ → ℕ
text_length line = pick (is_closed line) (length line - 1) (length line)

-- the text that is read of it
abbrev pub text_of : List ℕ → List ℕ
text_of line = take longest (take (text_length line) line)

-- what a line is
unfoldable pub parse_line : List ℕ → Parsed
parse_line line = parse_text (text_of line) (is_closed line) (ltb longest (text_length line))

-- by which row of the refusal table a line is refused for what it is: by none where it is a record or a request by name; by "1: the line is not
-- in the grammar" whichever field is at fault
unfoldable pub parsed_refusal : Parsed → Option Refusal
parsed_refusal (Ok asked) = None
parsed_refusal (Err k) = Some NotInGrammar
