-- Lists of lines, each answered in the session that the last one left, with the same two lists of names.
use Rattle.std.specs.Prelude.{List, [], ◌∷◌, ◌++◌, ℕ}
use Rattle.requests.specs.declared.Device.{Device}
use Rattle.requests.specs.declared.Device.TheVariants.{G}
use Rattle.sessions.specs.declared.Session.{Session}
use Rattle.sessions.specs.Calls.{Call, Plain, not_open_lem, opened}
use Rattle.sessions.specs.Plain.{run}
use Rattle.sessions.specs.Sessions.{queue_limit, queue_after}
use Rattle.names.specs.Lists.{NameLists}
use Rattle.parser.specs.ParseWith.{parse_line_with}
use Rattle.answers.specs.Replies.{answer_line}
use Rattle.answers.specs.LinesAreCalls.{calls_in}

-- the device of a plain queue; before open any will do, since an add is refused with 2 whatever it asks for
unfoldable pub device_at : Plain → Device
device_at not_open_lem = G
device_at (opened s q) = s.device

-- the call that a line makes at a plain queue
abbrev pub calls_at : NameLists → Plain → List ℕ → List Call
calls_at n p line = calls_in (parse_line_with n (device_at p) line)

-- the calls that lines make from a plain queue on
unfoldable pub calls_from_lem : NameLists → Plain → List (List ℕ) → List Call
calls_from_lem n p [] = []
calls_from_lem n p (line ∷ lines) = calls_at n p line ++ calls_from_lem n (run queue_limit p (calls_at n p line)) lines

-- the calls that lines make
abbrev pub calls_by : NameLists → List (List ℕ) → List Call
calls_by n lines = calls_from_lem n not_open_lem lines

-- the calls that lines make after others
abbrev pub calls_after : NameLists → List (List ℕ) → List (List ℕ) → List Call
calls_after n before lines = calls_from_lem n (queue_after (calls_by n before)) lines

-- the session that lines leave
unfoldable pub session_by : NameLists → Session → List (List ℕ) → Session
session_by n s [] = s
session_by n s (line ∷ lines) = session_by n (answer_line n s line).session lines

-- the text that a line is answered after others
unfoldable pub reply_after : NameLists → Session → List (List ℕ) → List ℕ → List ℕ
reply_after n s lines line = (answer_line n (session_by n s lines) line).text
