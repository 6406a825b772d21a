-- Order 14's promise, "over its lists and histories": that of a lent session, with the number of records as the queue's limit.
use Rattle.std.specs.Prelude.{◌≡◌, List, false, length}
use Rattle.requests.specs.declared.Entry.{Entry}
use Rattle.sessions.specs.Calls.{not_open_lem, opened}
use Rattle.sessions.specs.ShorterPromise.{ShorterPromises}
use Rattle.lent_sessions.specs.RowRules.{IsCount, SoundRows}
use Rattle.lent_sessions.specs.Histories.{lent_session, IsOpened}
use Rattle.lent_sessions.specs.declared.LentSession.{LentSession}

-- the two starts of `LentDemand3`
pub record LentShorterPromise : Type 0 where
  pub from_start : (s : LentSession) (rows : List Entry) → s.opened ≡ false → IsCount (length rows) → ShorterPromises lent_session (length rows) not_open_lem (s, rows)
  pub from_rows : (s : LentSession) (rows : List Entry) → IsOpened s → (kept : SoundRows s.setup rows)
      → ShorterPromises lent_session (length rows) (opened s.setup kept.queue) (s, rows)
