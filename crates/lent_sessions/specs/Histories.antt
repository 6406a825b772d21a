-- A lent session as a machine that is fed calls, each with the session and the records that the last one left. `Call` has n turns at once,
-- which are the small session's: the table and the plain queue say what they would be here, and no function of a lent session makes them.
use Rattle.std.specs.Prelude.{◌≡◌, List, true, false, length, Some}
use Rattle.requests.specs.declared.Entry.{Entry}
use Rattle.requests.specs.Answers.{Answer}
use Rattle.requests.specs.Refusals.{answer_for}
use Rattle.requests.specs.Devices.{setup_of, opening_of}
use Rattle.sessions.specs.Calls.{Call, Open, Add, Drop, Turn, Turns, Plain}
use Rattle.sessions.specs.Completed.{Machine}
use Rattle.lent_sessions.specs.RowRules.{IsCount, SoundRows}
use Rattle.lent_sessions.specs.Lent.{new_lent, plain_with, lent_refusal, rows_after, lent_after, lent_answered, lent_turned, lent_plan}
use Rattle.lent_sessions.specs.declared.LentSession.{LentSession}

-- a session with the records that are lent to it
abbrev pub State : Type 0
State = LentSession × List Entry

-- the answer to a call
unfoldable pub lent_answer : State → Call → Answer
lent_answer (s, rows) (Open o) = (lent_answered s rows (Open o)).answer
lent_answer (s, rows) (Add id r) = (lent_answered s rows (Add id r)).answer
lent_answer (s, rows) (Drop id) = (lent_answered s rows (Drop id)).answer
lent_answer (s, rows) (Turn room) = (lent_turned s rows room).answer
lent_answer (s, rows) (Turns n room places) = answer_for (lent_refusal s rows (Turns n room places))

-- the session that it leaves
unfoldable pub next_session : State → Call → LentSession
next_session (s, rows) (Open o) = (lent_answered s rows (Open o)).session
next_session (s, rows) (Add id r) = (lent_answered s rows (Add id r)).session
next_session (s, rows) (Drop id) = (lent_answered s rows (Drop id)).session
next_session (s, rows) (Turn room) = (lent_turned s rows room).session
next_session (s, rows) (Turns n room places) = lent_after s rows (Turns n room places)

-- the session and the records that it leaves
abbrev pub next_lent : State → Call → State
next_lent x c = (next_session x c, rows_after x.0 x.1 c)

-- the plain queue that a state stands for
abbrev pub plain_in : State → Plain
plain_in x = plain_with x.0 x.1

abbrev pub lent_session : Machine State
lent_session = record { answer = lent_answer; next = next_lent; plan = λ x room. lent_plan (lent_turned x.0 x.1 room) }

-- ---- records and sessions that are in order

-- records that no call refuses for their own sake: 1 to 256 of them, which keep the rules once the session is open
pub data InOrder (s : LentSession) (rows : List Entry) : Type 0 where
  before : s.opened ≡ false → IsCount (length rows) → InOrder s rows
  since : s.opened ≡ true → SoundRows s.setup rows → InOrder s rows

-- an open session whose setup is one that open takes
pub record IsOpened (s : LentSession) : Type 0 where
  pub is_open : s.opened ≡ true
  pub setup : setup_of (opening_of s.setup) ≡ Some s.setup

-- a session that calls have left, whatever records each of them was lent
pub data Reached : LentSession → Type 0 where
  new : Reached new_lent
  call : {s : LentSession} → Reached s → (rows : List Entry) (c : Call) → Reached (next_session (s, rows) c)

-- such a session with records in order
pub data Lends (s : LentSession) (rows : List Entry) : Type 0 where
  closed : s.opened ≡ false → IsCount (length rows) → Lends s rows
  kept : IsOpened s → SoundRows s.setup rows → Lends s rows
