-- No reply is longer than the room for one, whatever the session holds.
use Rattle.std.specs.Prelude.{ℕ, ◌≤◌, length}
use Rattle.sessions.specs.declared.Session.{Session}
use Rattle.grammar.specs.Parsed.{Parsed}
use Rattle.answers.specs.Replies.{parsed_reply}

-- room for any reply, in bytes
unfoldable pub reply_room : ℕ
reply_room = 2048

abbrev pub ReplyLength : Type 0
ReplyLength = (s : Session) (p : Parsed) → length (parsed_reply s p).text ≤ reply_room
