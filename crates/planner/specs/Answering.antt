-- The answers of add and drop, given what a pass over the queue has found: those of the refusal table, whatever else the queue holds.
use Rattle.std.specs.Prelude.{◌≡◌, Bool, true, false, List, ℕ, length, Some, Result, Ok, Err}
use Rattle.requests.specs.Answers.{Answer}
use Rattle.requests.specs.declared.Entry.{Entry}
use Rattle.requests.specs.declared.Refusal.{Refusal}
use Rattle.requests.specs.declared.Request.{Request}
use Rattle.requests.specs.declared.Setup.{Setup}
use Rattle.requests.specs.Refusals.{answer_for}
use Rattle.sessions.specs.declared.Session.{Session}
use Rattle.sessions.specs.Calls.{Call, Add, Drop, waits}
use Rattle.sessions.specs.Table.{outside_ids}
use Rattle.sessions.specs.Sessions.{queued, refused_by}

-- the session of these parts
abbrev pub session_with : Bool → Setup → ℕ → List Entry → Session
session_with opened setup len queue = record { opened = opened; setup = setup; queue = queue; len = len }

-- the answer to a call about an id from 1 to 65535, in a session with any queue in which it waits or does not
abbrev pub AnswersFor : Bool → Setup → ℕ → Bool → ℕ → Call → Answer → Type 0
AnswersFor opened setup len waiting id call answer =
    (queue : List Entry) → length queue ≡ 16 → outside_ids id ≡ false → waiting ≡ waits id (queued (session_with opened setup len queue))
    → answer ≡ answer_for (refused_by (session_with opened setup len queue) call)

-- the answer of a call that gives a value or is refused
abbrev pub answer_in : {A : Type 0} → Result A Refusal → Answer
answer_in (Ok a) = Ok tt
answer_in (Err x) = Err x

-- the answer to a drop, which goes neither by the setup nor by the number of those waiting
abbrev pub AnswersDrop : Bool → Bool → ℕ → Answer → Type 0
AnswersDrop opened waiting id answer = (setup : Setup) (len : ℕ) → AnswersFor opened setup len waiting id (Drop id) answer

-- an add and a drop of a number that is no id are refused so, whatever the setup and the queue
abbrev pub RefusesBadId : Bool → Refusal → Type 0
RefusesBadId opened refusal =
    (session : Session) → session.opened ≡ opened → (id : ℕ) → outside_ids id ≡ true
    → ((request : Request) → refused_by session (Add id request) ≡ Some refusal) × (refused_by session (Drop id) ≡ Some refusal)
