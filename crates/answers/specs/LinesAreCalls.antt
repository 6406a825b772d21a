-- A record is one of the four calls: what the planner promises of lists of calls, demand 3 above all, it promises of lines.
use Rattle.std.specs.Prelude.{◌≡◌, ◌≢◌, ℕ, ◌*◌, take, replicate, Option, None, Some, Ok, Err}
use mathlib.Core.List.{List, [], ◌∷◌, ◌++◌, map, flat_map}
use Rattle.requests.specs.declared.Entry.{Entry}
use Rattle.requests.specs.Devices.{opening_of}
use Rattle.requests.specs.Refusals.{number_of}
use Rattle.requests.specs.declared.Fault.{Fault}
use Rattle.requests.specs.declared.Request.{Request}
use Rattle.plans.specs.Lists.{All}
use Rattle.plans.specs.Places.{Counted, counted_of}
use Rattle.layouts.specs.Writes.{Write, flat}
use Rattle.sessions.specs.declared.Session.{Session}
use Rattle.sessions.specs.declared.Assigned.{Assigned}
use Rattle.sessions.specs.Calls.{Call, waiting}
use Rattle.sessions.specs.FaultTable.{fault}
use Rattle.sessions.specs.Sessions.{queue_limit, plain_of, turn_of, turn_slice, plan_of, next_session}
use Rattle.grammar.specs.Records.{AddFits}
use Rattle.grammar.specs.declared.Record.{Record}
use Rattle.grammar.specs.declared.Record.TheVariants.{Open, Add, Drop, Turn}
use Rattle.grammar.specs.Parsed.{Parsed}
use Rattle.grammar.specs.declared.Line.{Line}
use Rattle.names.specs.Named.{named_field}
use Rattle.answers.specs.Replies.{answer_text, turn_room, record_reply, named_reply}
use Rattle.answers.specs.Reader.{Refusing, Said, Takes, Sets, Answers, reply_says}

-- the call that a record makes
unfoldable pub call_of : Record → Call
call_of (Open s) = Rattle.sessions.specs.Calls.Open (opening_of s)
call_of (Add id r) = Rattle.sessions.specs.Calls.Add id r
call_of (Drop id) = Rattle.sessions.specs.Calls.Drop id
call_of Turn = Rattle.sessions.specs.Calls.Turn turn_room

-- the calls of a line: one, or none where it is refused for what it is
unfoldable pub calls_in : Parsed → List Call
calls_in (Ok (Line.Record r)) = call_of r ∷ []
calls_in (Ok (Line.Named id r)) = Rattle.sessions.specs.Calls.Add id r ∷ []
calls_in (Err k) = []

-- the last line of a reply: `ok`, or the number and the field of the fault
unfoldable pub fault_text : Option Fault → List ℕ
fault_text None = answer_text (Ok tt) 0
fault_text (Some f) = answer_text (Err f.refusal) f.field

-- what it says
unfoldable pub fault_said : Option Fault → Option Refusing
fault_said None = None
fault_said (Some f) = Some (number_of f.refusal, f.field)

-- the fault of a request by name, given that of the add which it stands for
unfoldable pub by_name_lem : Option Fault → Option Fault
by_name_lem None = None
by_name_lem (Some f) = Some (record { refusal = f.refusal; field = named_field f.field })

-- the fault of a call in a session: what the table says of it
abbrev pub fault_of : Session → Call → Option Fault
fault_of s c = fault queue_limit (plain_of s) c

-- what a plan says, "in the order taken": of each request its counter and register, or both counters with theirs
unfoldable pub takes_of : List Assigned → List Said
takes_of plan = flat_map (λ (a : Assigned). map (λ (c : Counted). Takes a.id c.0 c.1) (counted_of a.place)) plan

-- what a write list says
unfoldable pub sets_of : List Write → List Said
sets_of ws = map (λ (w : Write). Sets w.0 w.1) ws

-- each request is one that a line can add: its numbers fit their fields
abbrev pub Askable : List Entry → Type 0
Askable q = All (λ (e : Entry). AddFits e.id e.request) q

-- what the reply to a turn says: the plan that the turn answers, the list that it leaves in the slice, the answer, and nothing else
pub record TurnSays (s : Session) : Type 0 where
  pub list : List Write
  pub left : flat list ≡ take (2 * (turn_of s turn_room).writes) (turn_slice s (replicate turn_room 0))
  pub says : reply_says (record_reply s Turn).text
      ≡ Some (takes_of (plan_of (turn_of s turn_room)) ++ sets_of list ++ Answers (fault_said (fault_of s (Rattle.sessions.specs.Calls.Turn turn_room))) ∷ [])

pub record LinesAreCalls : Type 0 where
  -- the session that a record leaves is the call's ..
  pub session : (s : Session) (r : Record) → (record_reply s r).session ≡ next_session s (call_of r)
  -- .. and its reply ends with what the table says of the call, number and field
  pub answer : (s : Session) (r : Record) → (before : List ℕ) × ((record_reply s r).text ≡ before ++ fault_text (fault_of s (call_of r)))
  -- the reply to an open, add or drop says nothing else
  pub alone : (s : Session) (r : Record) → r ≢ Turn → reply_says (record_reply s r).text ≡ Some (Answers (fault_said (fault_of s (call_of r))) ∷ [])
  -- the reply to a turn says its plan and its list besides
  pub turn : (s : Session) → Askable (waiting (plain_of s)) → TurnSays s
  -- a request by name is the add that it stands for: the session, and the answer, number and the line's own field
  pub named_session : (s : Session) (id : ℕ) (r : Request) → (named_reply s id r).session ≡ next_session s (Rattle.sessions.specs.Calls.Add id r)
  pub named_answer : (s : Session) (id : ℕ) (r : Request) → (named_reply s id r).text ≡ fault_text (by_name_lem (fault_of s (Rattle.sessions.specs.Calls.Add id r)))
