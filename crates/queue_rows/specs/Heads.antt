-- The session of a head and the arrays that hold its queue, and what the calls make of them.
use Rattle.std.specs.Prelude.{◌≡◌, true, List, ℕ, ◌+◌, ◌≤◌, take, drop, Ok, Err}
use Rattle.requests.specs.Choice.{pick}
use Rattle.requests.specs.declared.Refusal.TheVariants.{CallOrder}
use Rattle.requests.specs.declared.Setup.{Setup}
use Rattle.planner.specs.declared.Chosen.{Chosen}
use Rattle.planner.specs.Selections.{planned}
use Rattle.sessions.specs.declared.Session.{Session}
use Rattle.sessions.specs.declared.Answered.{Answered}
use Rattle.sessions.specs.Sessions.{padded, plan_of, turn_of}
use Rattle.queue_rows.specs.declared.Head.{Head}
use Rattle.queue_rows.specs.declared.HeadAnswered.{HeadAnswered}
use Rattle.queue_rows.specs.declared.TurnTaken.{TurnTaken}
use Rattle.queue_rows.specs.Rows.{Sized, queue_in}

-- how many places count: those of the queue where it is trimmed, otherwise all
unfoldable pub places : Head → ℕ
places h = pick h.trimmed h.len 16

-- the session
unfoldable pub session_in : Head → List ℕ → List ℕ → Session
session_in h ids rows = record { opened = h.opened; setup = h.setup; queue = padded (take (places h) (queue_in ids rows)); len = h.len }

-- an answer, with the session afterwards
unfoldable pub answered_in : HeadAnswered → List ℕ → List ℕ → Answered
answered_in a ids rows = record { answer = a.answer; session = session_in a.head ids rows }

-- what a call answers, and leaves in the arrays
pub record AnswersIn (a : Answered) (ids rows : List ℕ) (r : HeadAnswered) : Type 0 where
  pub size : Sized ids rows
  pub answered : answered_in r ids rows ≡ a

-- the answer to a turn before open
abbrev pub closed_turn : Head → TurnTaken
closed_turn h = record { answer = Err CallOrder; head = h; code = 0; front = 0; taken = 0; writes = 0 }

-- the answer to a turn that takes these of a queue of n, with so many writes: all stay in the queue
abbrev pub taken_turn : Setup → ℕ → Chosen → ℕ → TurnTaken
taken_turn s n c writes =
    record {
      answer = Ok tt;
      head = record { opened = true; setup = s; len = n; trimmed = true };
      code = c.code;
      front = c.rest;
      taken = c.count;
      writes = writes;
    }

-- what a turn answers, given the length of its slice, and leaves in the arrays: those taken stand from `front` on
pub record TurnsIn (s : Session) (room : ℕ) (ids rows : List ℕ) (t : TurnTaken) : Type 0 where
  pub size : Sized ids rows
  pub answer : t.answer ≡ (turn_of s room).answer
  pub session : session_in t.head ids rows ≡ (turn_of s room).session
  pub plan : planned t.code (take t.taken (drop t.front (queue_in ids rows))) ≡ plan_of (turn_of s room)
  pub writes : t.writes ≡ (turn_of s room).writes
  pub few : t.taken ≤ 8
  pub inside : t.front + t.taken ≤ 16
