-- What the calls answer, for every session and argument.
use mathlib.Core.List.{List, [], ◌∷◌, ◌++◌, foldl}
use Rattle.std.specs.Prelude.{true, false, ℕ, zero, suc, ◌-◌, length, take, drop, replicate, Option, None, Some}
use Rattle.requests.specs.declared.Device.TheVariants.{G}
use Rattle.requests.specs.declared.Opening.{Opening}
use Rattle.requests.specs.declared.Setup.{Setup}
use Rattle.requests.specs.declared.Request.{Request}
use Rattle.requests.specs.declared.Request.TheVariants.{Event}
use Rattle.requests.specs.declared.Entry.{Entry}
use Rattle.requests.specs.declared.Refusal.{Refusal}
use Rattle.requests.specs.Answers.{Answer}
use Rattle.requests.specs.Refusals.{answer_for}
use Rattle.requests.specs.Askings.{unasked}
use Rattle.requests.specs.Devices.{capacity, setup_of}
use Rattle.plans.specs.declared.Place.TheVariants.{Counter}
use Rattle.layouts.specs.Writes.{filled}
use Rattle.sessions.specs.Turns.{taken, turned, places_of, assign, writes_of, lists_of, joined, ends_from}
use Rattle.sessions.specs.Calls.{Call, Open, Add, Drop, Turn, Turns, Plain, not_open_lem, opened}
use Rattle.sessions.specs.Table.{refusal}
use Rattle.sessions.specs.Plain.{removed, unless_refused, run}
use Rattle.sessions.specs.declared.Session.{Session}
use Rattle.sessions.specs.declared.Answered.{Answered}
use Rattle.sessions.specs.declared.Assigned.{Assigned}
use Rattle.sessions.specs.declared.TurnAnswered.{TurnAnswered}

-- "The queue holds at most 16 requests"
unfoldable pub queue_limit : ℕ
queue_limit = 16

-- ---- the queue in its array

-- what stands in a place without a request
unfoldable pub vacant : Entry
vacant = record { id = 0; request = Event 0 0 (record { 0 = 0 }) }

-- the queue of a session
unfoldable pub queued : Session → List Entry
queued s = take s.len s.queue

-- a queue in its array
unfoldable pub padded : List Entry → List Entry
padded q = q ++ replicate (queue_limit - length q) vacant

-- an opened session with this queue
unfoldable pub session_of : Setup → List Entry → Session
session_of t q = record { opened = true; setup = t; queue = padded q; len = length q }

-- the session before open
unfoldable pub new_session : Session
new_session = record { opened = false; setup = record { device = G; usable = record { 0 = 0 }; fixed = 0; overflow = unasked }; queue = padded []; len = 0 }

-- the plain queue that a session stands for
unfoldable pub plain_of : Session → Plain
plain_of s = elim s.opened [ true ↦ opened s.setup (queued s) | false ↦ not_open_lem ]

-- ---- the calls: "On refusal the answer is the number; session and slices are untouched."

-- by which row of the table the session refuses a call
unfoldable pub refused_by : Session → Call → Option Refusal
refused_by s c = refusal queue_limit (plain_of s) c

-- the answer, with the old session or the new one
unfoldable pub answered : Option Refusal → Session → Session → Answered
answered x old new = record { answer = answer_for x; session = unless_refused x old new }

-- "open: device, usable set" up to all counters, fixed enables, the box on C, freeze and core. "Once."
unfoldable pub open_of : Session → Opening → Answered
open_of s o = answered (refused_by s (Open o)) s (elim (setup_of o) [ None ↦ s | Some t ↦ session_of t [] ])

-- "add: an id 1..65535 and a request, placed at the back."
unfoldable pub add_of : Session → ℕ → Request → Answered
add_of s id r = answered (refused_by s (Add id r)) s (session_of s.setup (queued s ++ record { id = id; request = r } ∷ []))

-- "drop: an id. The others keep their order."
unfoldable pub drop_of : Session → ℕ → Answered
drop_of s id = answered (refused_by s (Drop id)) s (session_of s.setup (removed id (queued s)))

-- what stands in a place of the plan that is not used
unfoldable pub unassigned : Assigned
unassigned = record { id = 0; place = Counter 0 }

-- a turn's answer with this plan and number of writes
unfoldable pub turn_answer : Answer → Session → List Assigned → ℕ → TurnAnswered
turn_answer a s plan n = record { answer = a; session = s; plan = plan ++ replicate (capacity - length plan) unassigned; taken = length plan; writes = n }

-- a turn, given the length of its slice
unfoldable pub turn_of : Session → ℕ → TurnAnswered
turn_of s room =
    elim (refused_by s (Turn room)) [
      | None ↦ let es = taken s.setup (queued s) in
          turn_answer (answer_for None) (session_of s.setup (turned s.setup (queued s))) (assign es (places_of s.setup es)) (length (writes_of s.setup es))
      | Some x ↦ turn_answer (answer_for (Some x)) s [] 0
    ]

-- what the slice of a turn holds afterwards
unfoldable pub turn_slice : Session → List ℕ → List ℕ
turn_slice s slice = unless_refused (refused_by s (Turn (length slice))) slice (filled (writes_of s.setup (taken s.setup (queued s))) slice)

-- the plan of a turn's answer
unfoldable pub plan_of : TurnAnswered → List Assigned
plan_of a = take a.taken a.plan

-- ---- n turns at once, given the lengths of the slices for their lists and for the ends

-- the session after n turns
unfoldable pub turned_session : ℕ → Session → Session
turned_session zero s = s
turned_session (suc n) s = turned_session n (session_of s.setup (turned s.setup (queued s)))

-- "Lists and session are those of n single turns, all completed; no plans are returned"
unfoldable pub turns_answer : Session → ℕ → ℕ → ℕ → Answered
turns_answer s n room places = answered (refused_by s (Turns n room places)) s (turned_session n s)

-- what the slice of the lists holds afterwards: "what lies past the last list and end stays"
unfoldable pub turns_slice : Session → ℕ → List ℕ → ℕ → List ℕ
turns_slice s n slice places = unless_refused (refused_by s (Turns n (length slice) places)) slice (filled (joined (lists_of s.setup n (queued s))) slice)

-- what the slice of the ends holds afterwards
unfoldable pub turns_ends : Session → ℕ → ℕ → List ℕ → List ℕ
turns_ends s n room ends = unless_refused (refused_by s (Turns n room (length ends))) ends (ends_from 0 (lists_of s.setup n (queued s)) ++ drop n ends)

-- ---- a list of calls, each given the session that the last one left

-- the answer to a call
unfoldable pub answer_to : Session → Call → Answer
answer_to s (Open o) = (open_of s o).answer
answer_to s (Add id r) = (add_of s id r).answer
answer_to s (Drop id) = (drop_of s id).answer
answer_to s (Turn room) = (turn_of s room).answer
answer_to s (Turns n room places) = (turns_answer s n room places).answer

-- the session that it leaves
unfoldable pub next_session : Session → Call → Session
next_session s (Open o) = (open_of s o).session
next_session s (Add id r) = (add_of s id r).session
next_session s (Drop id) = (drop_of s id).session
next_session s (Turn room) = (turn_of s room).session
next_session s (Turns n room places) = (turns_answer s n room places).session

-- the session that a list of calls leaves
unfoldable pub session_after : Session → List Call → Session
session_after s calls = foldl next_session s calls

-- the plain queue after the same calls, from the start
abbrev pub queue_after : List Call → Plain
queue_after calls = run queue_limit not_open_lem calls
