-- A reply in an array of its own, and a reply in a lent slice.
use Rattle.std.specs.Prelude.{Bool, true, false, List, ◌++◌, ℕ, ◌-◌, length, drop, replicate, ltb}
use Rattle.requests.specs.Choice.{pick}
use Rattle.sessions.specs.declared.Session.{Session}
use Rattle.grammar.specs.declared.Record.{Record}
use Rattle.grammar.specs.declared.Record.TheVariants.{Open, Add, Drop, Turn}
use Rattle.grammar.specs.Parsed.{Parsed}
use Rattle.names.specs.Named.{named_field}
use Rattle.queue_rows.specs.Heads.{session_in}
use Rattle.answers.specs.ReplyLength.{reply_room}
use Rattle.answers.specs.Replies.{Reply, record_reply, named_reply, parsed_reply}
use Rattle.responder.specs.declared.LineReply.{LineReply}
use Rattle.responder.specs.declared.Replied.{Replied}

-- a reply in an array of its own
unfoldable pub in_array : Reply → LineReply
in_array x = record { text = x.text ++ replicate (reply_room - length x.text) 0; length = length x.text; session = x.session }

-- a text at the start of a slice; what lies past it stays
unfoldable pub at_start : List ℕ → List ℕ → List ℕ
at_start text slice = text ++ drop (length text) slice

-- what a reply in a lent slice leaves: the session, and the number of bytes written
pub record Left : Type 0 where
  pub session : Session
  pub written : ℕ

-- .. of what is answered, with the arrays that hold the queue
unfoldable pub left_in : Replied → List ℕ → List ℕ → Left
left_in r ids rows = record { session = session_in r.head ids rows; written = r.written }

-- a reply in a lent slice, given the slice's length: where that is less than the room for any reply, nothing is done
unfoldable pub replied_in : Session → Parsed → ℕ → Left
replied_in s p room =
    elim (ltb room reply_room) [
      | true ↦ record { session = s; written = 0 }
      | false ↦ record { session = (parsed_reply s p).session; written = length (parsed_reply s p).text }
    ]

-- what the slice holds afterwards
unfoldable pub replied_out : Session → Parsed → List ℕ → List ℕ
replied_out s p out = elim (ltb (length out) reply_room) [ true ↦ out | false ↦ at_start (parsed_reply s p).text out ]

-- the field of a line, given that of the add: a request by name has its own
unfoldable pub line_field : Bool → ℕ → ℕ
line_field named k = pick named (named_field k) k

-- the reply to a record that a line asks for, by name or not
unfoldable pub asked_reply : Session → Record → Bool → Reply
asked_reply s (Open given) named = record_reply s (Open given)
asked_reply s (Add id r) named = elim named [ true ↦ named_reply s id r | false ↦ record_reply s (Add id r) ]
asked_reply s (Drop id) named = record_reply s (Drop id)
asked_reply s Turn named = record_reply s Turn
