-- The slice that a line lends a turn is long enough: a line is never answered 14.
use Rattle.std.specs.Prelude.{◌≡◌, List, ℕ, Err}
use Rattle.requests.specs.declared.Refusal.TheVariants.{SliceTooShort}
use Rattle.sessions.specs.declared.Session.{Session}
use Rattle.sessions.specs.Sessions.{turn_of}
use Rattle.names.specs.Lists.{NameLists}
use Rattle.answers.specs.Replies.{turn_room, answer_text, answer_line}

pub record NeverShort : Type 0 where
  -- a turn with that slice is not refused by row 14 ..
  pub turn : (s : Session) → ¬ ((turn_of s turn_room).answer ≡ Err SliceTooShort)
  -- .. and no line, whatever its bytes, has that row's text for an answer, at any field
  pub line : (n : NameLists) (s : Session) (line : List ℕ) (k : ℕ) → ¬ ((answer_line n s line).text ≡ answer_text (Err SliceTooShort) k)
