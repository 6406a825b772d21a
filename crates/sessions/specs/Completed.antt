-- The turns that a list of calls completes, of any machine that is fed calls, and the plans that it answers there.
use Rattle.std.specs.Prelude.{◌≡◌, false, ℕ, zero, suc, ◌*◌, length, Ok, Err}
use mathlib.Core.List.{List, [], ◌∷◌, ◌++◌, foldl}
use Rattle.requests.specs.declared.Setup.{Setup}
use Rattle.requests.specs.declared.Entry.{Entry}
use Rattle.requests.specs.Answers.{Answer}
use Rattle.sessions.specs.Turns.{taken, turned, writes_of}
use Rattle.sessions.specs.Calls.{Call, Open, Add, Drop, Turn, Turns, Plain, not_open_lem, opened}
use Rattle.sessions.specs.Plain.{step, run, completed}
use Rattle.sessions.specs.Sessions.{queue_limit, turn_of, plan_of, answer_to, next_session}
use Rattle.sessions.specs.declared.Session.{Session}
use Rattle.sessions.specs.declared.Assigned.{Assigned}

-- A machine that is fed calls, over its states.
pub record Machine (State : Type 0) : Type 0 where
  -- what it answers to a call, and the state that the call leaves
  pub answer : State → Call → Answer
  pub next : State → Call → State
  -- the plan that it answers to a turn, given the length of the turn's slice
  pub plan : State → ℕ → List Assigned

-- the session that holds at most 16 requests
abbrev pub small_session : Machine Session
small_session = record { answer = answer_to; next = next_session; plan = λ s room. plan_of (turn_of s room) }

-- a completed turn: the setup and the queue that the plain queue has there, and the plan that the machine answers
pub record CompletedTurn : Type 0 where
  pub setup : Setup
  pub queue : List Entry
  pub plan : List Assigned

-- the turns, where the call is accepted
unfoldable pub turns_if : Answer → List CompletedTurn → List CompletedTurn
turns_if (Ok tt) ts = ts
turns_if (Err x) ts = []

module _ {State : Type 0} (m : Machine State) where
  -- the state that a list of calls leaves, each given the state that the last one left
  abbrev pub state_after : State → List Call → State
  state_after s calls = foldl m.next s calls

  -- n single turns, each with a slice that is just long enough: "the plans that the single turns would answer"
  unfoldable pub single_turns : ℕ → Setup → List Entry → State → List CompletedTurn
  single_turns zero t q s = []
  single_turns (suc n) t q s =
      let room = 2 * length (writes_of t (taken t q)) in
      record { setup = t; queue = q; plan = m.plan s room } ∷ single_turns n t (turned t q) (m.next s (Turn room))

  -- the turns that one call completes, where p and s are the plain queue and the machine's state
  unfoldable pub turns_by : Plain → State → Call → List CompletedTurn
  turns_by p s (Open o) = []
  turns_by p s (Add id r) = []
  turns_by p s (Drop id) = []
  turns_by not_open_lem s (Turn room) = []
  turns_by (opened t q) s (Turn room) = turns_if (m.answer s (Turn room)) (record { setup = t; queue = q; plan = m.plan s room } ∷ [])
  turns_by not_open_lem s (Turns n room places) = []
  turns_by (opened t q) s (Turns n room places) = turns_if (m.answer s (Turns n room places)) (single_turns n t q s)

  module _ (limit : ℕ) where
    -- the turns that a list of calls completes, in order; the machine and the plain queue are fed the same calls
    unfoldable pub turns_of : Plain → State → List Call → List CompletedTurn
    turns_of p s [] = []
    turns_of p s (c ∷ cs) = turns_by p s c ++ turns_of (step limit p c) (m.next s c) cs

    -- from the state s on, where the plain queue is p, it answers one plan for each turn that the plain queue counts as completed
    abbrev pub OnePlanEach : Plain → State → Type 0
    OnePlanEach p s =
        (before after : List Call) → length (turns_of (run limit p before) (state_after s before) after) ≡ completed limit (run limit p before) after

-- so does every session not yet opened
abbrev pub PlansCompleted : Type 0
PlansCompleted = (s : Session) → s.opened ≡ false → OnePlanEach small_session queue_limit not_open_lem s
