-- "1: the line is not in the grammar": a line that is neither a record's text nor a request by name is answered 1 and the field that breaks the
-- grammar, and changes nothing.
use Rattle.std.specs.Prelude.{◌≡◌, List, [], ◌∷◌, ℕ, Err}
use Rattle.sessions.specs.declared.Session.{Session}
use Rattle.requests.specs.declared.Device.{Device}
use Rattle.grammar.specs.Text.{bytes, decimal_text, line_of}
use Rattle.grammar.specs.declared.Record.{Record}
use Rattle.grammar.specs.Grammar.{IsText}
use Rattle.names.specs.Lists.{NameLists}
use Rattle.parser.specs.NamedText.{Outside}
use Rattle.parser.specs.ParseWith.{parse_line_with}
use Rattle.answers.specs.Replies.{record_reply, answer_line}

pub record LinesAnswered : Type 0 where
  -- the text of a record is answered as the record, whatever the lists ..
  pub record_line : (n : NameLists) (s : Session) (line : List ℕ) (r : Record) → IsText line r → answer_line n s line ≡ record_reply s r
  -- .. and what is neither a record nor a request by name `no`, 1 and the field at fault, which is the same whatever the lists and the device
  pub other : (line : List ℕ) → Outside line → (k : ℕ) × ((n : NameLists) (d : Device) → parse_line_with n d line ≡ Err k)
      × ((n : NameLists) (s : Session) → ((answer_line n s line).text ≡ line_of (bytes "no" ∷ bytes "1" ∷ decimal_text k ∷ [])) × ((answer_line n s line).session ≡ s))
