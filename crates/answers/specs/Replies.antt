-- Document 01, 'Lines': the answer to a line.
use mathlib.Core.List.{List, [], ◌∷◌, ◌++◌, flat_map}
use Rattle.std.specs.Prelude.{ℕ, ◌*◌, take, replicate, Option, None, Some, Ok, Err}
use Rattle.requests.specs.declared.Request.{Request}
use Rattle.requests.specs.declared.Fields.{Fields}
use Rattle.requests.specs.Answers.{Answer}
use Rattle.requests.specs.Refusals.{number_of, answer_for}
use Rattle.requests.specs.Devices.{opening_of}
use Rattle.requests.specs.Faults.{opening_fields, request_fields, no_fields, answer_field}
use Rattle.plans.specs.Places.{Counted, counted_of}
use Rattle.sessions.specs.declared.Session.{Session}
use Rattle.sessions.specs.declared.Answered.{Answered}
use Rattle.sessions.specs.declared.Assigned.{Assigned}
use Rattle.sessions.specs.declared.TurnAnswered.{TurnAnswered}
use Rattle.sessions.specs.Sessions.{open_of, add_of, drop_of, turn_of, turn_slice, plan_of}
use Rattle.grammar.specs.Text.{bytes, hex_text, decimal_text, line_of}
use Rattle.grammar.specs.Parse.{parsed_refusal}
use Rattle.grammar.specs.declared.Record.{Record}
use Rattle.grammar.specs.declared.Record.TheVariants.{Open, Add, Drop, Turn}
use Rattle.grammar.specs.Parsed.{Parsed}
use Rattle.grammar.specs.declared.Line.{Line}
use Rattle.names.specs.Lists.{NameLists}
use Rattle.names.specs.Named.{named_field}
use Rattle.parser.specs.ParseWith.{parse_line_with}

-- the text of an answer, and the session afterwards
pub record Reply : Type 0 where
  pub text : List ℕ
  pub session : Session

-- "Each gives `ok`, or `no` and the number"; document 02, order 11: and the field at fault "as a third field after the number"
unfoldable pub answer_text : Answer → ℕ → List ℕ
answer_text (Ok tt) k = line_of (bytes "ok" ∷ [])
answer_text (Err x) k = line_of (bytes "no" ∷ decimal_text (number_of x) ∷ decimal_text k ∷ [])

-- "register (`-`, 0 or 1 ..)"
unfoldable pub register_text : Option ℕ → List ℕ
register_text None = bytes "-"
register_text (Some i) = decimal_text i

-- "`take` id counter register (.. latency two lines)"
unfoldable pub take_lines : Assigned → List ℕ
take_lines a = flat_map (λ (c : Counted). line_of (bytes "take" ∷ decimal_text a.id ∷ decimal_text c.0 ∷ register_text c.1 ∷ [])) (counted_of a.place)

-- "then `set` address(4) value(16)", of numbers that are address then value
unfoldable pub set_lines : List ℕ → List ℕ
set_lines [] = []
set_lines (a ∷ []) = []
set_lines (a ∷ v ∷ rest) = line_of (bytes "set" ∷ hex_text 4 a ∷ hex_text 16 v ∷ []) ++ set_lines rest

-- the length of the slice that a line lends a turn: room for 22 writes
unfoldable pub turn_room : ℕ
turn_room = 44

-- the reply to an open, add or drop, given the field at fault
unfoldable pub reply_at : Answered → ℕ → Reply
reply_at a k = record { text = answer_text a.answer k; session = a.session }

-- the same, given the fields of the call
unfoldable pub reply_of : Answered → Fields → Reply
reply_of a f = reply_at a (answer_field a.answer f)

-- "A turn first gives, in the order taken," its `take` lines, then its `set` lines; a refused turn has neither, and gives field 0
unfoldable pub turn_reply : TurnAnswered → List ℕ → Reply
turn_reply a slice =
    record { text = flat_map take_lines (plan_of a) ++ set_lines (take (2 * a.writes) slice) ++ answer_text a.answer 0; session = a.session }

-- the reply to a record
unfoldable pub record_reply : Session → Record → Reply
record_reply s (Open given) = reply_of (open_of s (opening_of given)) (opening_fields (opening_of given))
record_reply s (Add id r) = reply_of (add_of s id r) (request_fields s.setup.device r)
record_reply s (Drop id) = reply_of (drop_of s id) no_fields
record_reply s Turn = turn_reply (turn_of s turn_room) (turn_slice s (replicate turn_room 0))

-- the reply to a request by name, whose line has fields of its own
unfoldable pub named_reply : Session → ℕ → Request → Reply
named_reply s id r = reply_at (add_of s id r) (named_field (answer_field (add_of s id r).answer (request_fields s.setup.device r)))

-- the reply to what a line is: the record's or the request's, or the refusal of a line that is neither, at the field that breaks the grammar
unfoldable pub parsed_reply : Session → Parsed → Reply
parsed_reply s (Ok (Line.Record r)) = record_reply s r
parsed_reply s (Ok (Line.Named id r)) = named_reply s id r
parsed_reply s (Err k) = record { text = answer_text (answer_for (parsed_refusal (Err k))) k; session = s }

-- the reply to a line; a name stands for a request on the session's device
unfoldable pub answer_line : NameLists → Session → List ℕ → Reply
answer_line n s line = parsed_reply s (parse_line_with n s.setup.device line)
