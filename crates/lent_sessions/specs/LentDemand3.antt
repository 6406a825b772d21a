-- "demand 3 holds with the larger p": the promise of demand 3, with the number of records as the queue's limit.
use Rattle.std.specs.Prelude.{◌≡◌, List, false, length}
use Rattle.requests.specs.declared.Entry.{Entry}
use Rattle.sessions.specs.Calls.{not_open_lem, opened}
use Rattle.sessions.specs.Completed.{OnePlanEach}
use Rattle.sessions.specs.Demand3.{Promises}
use Rattle.lent_sessions.specs.RowRules.{IsCount, SoundRows}
use Rattle.lent_sessions.specs.Histories.{lent_session, IsOpened}
use Rattle.lent_sessions.specs.declared.LentSession.{LentSession}

pub record LentDemand3 : Type 0 where
  -- from a session not yet opened, whatever the records hold; `BrokenRows.still-closed` says that with another number of them nothing waits
  pub from_start : (s : LentSession) (rows : List Entry) → s.opened ≡ false → IsCount (length rows) → Promises lent_session (length rows) not_open_lem (s, rows)
  -- a host that edits the records or lends others "starts a new history, from whose rows demand 3 counts anew, as a list of calls that starts, if the session is open, with them as its queue"
  pub from_rows : (s : LentSession) (rows : List Entry) → IsOpened s → (kept : SoundRows s.setup rows)
      → Promises lent_session (length rows) (opened s.setup kept.queue) (s, rows)
  -- and from both one plan is answered for each completed turn
  pub plans_start : (s : LentSession) (rows : List Entry) → s.opened ≡ false → IsCount (length rows) → OnePlanEach lent_session (length rows) not_open_lem (s, rows)
  pub plans_rows : (s : LentSession) (rows : List Entry) → IsOpened s → (kept : SoundRows s.setup rows)
      → OnePlanEach lent_session (length rows) (opened s.setup kept.queue) (s, rows)
