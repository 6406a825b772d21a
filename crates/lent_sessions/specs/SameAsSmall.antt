-- "Each call does what a small session with that limit would on the same queue": with any number of records by the table and the plain queue
-- with that limit, and by `LentTurnPlan`; with 16 records by the small session itself.
use Rattle.std.specs.Prelude.{◌≡◌, List, ℕ, length, Ok}
use Rattle.requests.specs.declared.Entry.{Entry}
use Rattle.requests.specs.Refusals.{answer_for}
use Rattle.sessions.specs.Calls.{Call, waiting}
use Rattle.sessions.specs.Table.{refusal}
use Rattle.sessions.specs.Plain.{change}
use Rattle.sessions.specs.Sessions as small
use Rattle.sessions.specs.Completed.{state_after}
use Rattle.sessions.specs.Agreement.{Agrees}
use Rattle.sessions.specs.declared.Session.{Session}
use Rattle.lent_sessions.specs.Records.{records_of}
use Rattle.lent_sessions.specs.Lent.{new_lent, lent_turned, lent_slice, lent_plan}
use Rattle.lent_sessions.specs.Histories.{State, lent_answer, next_lent, plain_in, lent_session, InOrder, Lends}

-- the session with its records and a small session stand for the same queue, and there are as many records as the small session has places
pub record Alike (x : State) (s : Session) : Type 0 where
  pub lent : Lends x.0 x.1
  pub size : length x.1 ≡ small.queue_limit
  pub same : small.plain_of s ≡ plain_in x

pub record SameAsSmall : Type 0 where
  -- a call is answered as the table says, with as many places as there are records, whatever the setup
  pub answered : (x : State) → InOrder x.0 x.1 → (c : Call) → lent_answer x c ≡ answer_for (refusal (length x.1) (plain_in x) c)
  -- an accepted one leaves the queue that the call makes, and vacant records after it
  pub left : (x : State) (c : Call) → lent_answer x c ≡ (Ok tt) → (next_lent x c).1 ≡ records_of (length x.1) (waiting (change (plain_in x) c))
  -- after every list of calls the session stands for the plain queue, and answers as the table says there
  pub agrees : (x : State) → Lends x.0 x.1 → Agrees lent_session plain_in (length x.1) (plain_in x) x
  -- sound rows stay sound, and their number stays
  pub lends : (x : State) → Lends x.0 x.1 → (calls : List Call) → Lends (state_after lent_session x calls).0 (state_after lent_session x calls).1
  pub size : (x : State) → Lends x.0 x.1 → (calls : List Call) → length (state_after lent_session x calls).1 ≡ length x.1
  -- with 16 records both begin alike, whatever the records hold: open looks at none and makes all vacant ..
  pub begins : (rows : List Entry) → length rows ≡ 16 → Alike (new_lent, rows) small.new_session
  -- .. and stay alike after every list of calls
  pub calls : (x : State) (s : Session) → Alike x s → (cs : List Call) → Alike (state_after lent_session x cs) (small.session_after s cs)
  -- where they are alike: answer, plan, number of writes, slice and what is left are those of the small session
  pub answer : (x : State) (s : Session) → Alike x s → (c : Call) → lent_answer x c ≡ small.answer_to s c
  pub next : (x : State) (s : Session) → Alike x s → (c : Call) → Alike (next_lent x c) (small.next_session s c)
  pub plan : (x : State) (s : Session) → Alike x s → (room : ℕ) → lent_plan (lent_turned x.0 x.1 room) ≡ small.plan_of (small.turn_of s room)
  pub writes : (x : State) (s : Session) → Alike x s → (room : ℕ) → (lent_turned x.0 x.1 room).writes ≡ (small.turn_of s room).writes
  pub slice : (x : State) (s : Session) → Alike x s → (numbers : List ℕ) → lent_slice x.0 x.1 numbers ≡ small.turn_slice s numbers
