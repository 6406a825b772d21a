-- What is refused for the records' sake, and when: 2, then 3, then all else.
use Rattle.std.specs.Prelude.{◌≡◌, List, true, false, ℕ, length, replicate, Some, Ok, Err}
use Rattle.requests.specs.declared.Opening.{Opening}
use Rattle.requests.specs.declared.Request.{Request}
use Rattle.requests.specs.declared.Setup.{Setup}
use Rattle.requests.specs.declared.Entry.{Entry}
use Rattle.requests.specs.declared.Refusal.TheVariants.{CallOrder, BadOpening}
use Rattle.requests.specs.Devices.{setup_of}
use Rattle.sessions.specs.Calls.{Call, Open, Add, Drop, Turn}
use Rattle.sessions.specs.Completed.{state_after}
use Rattle.lent_sessions.specs.RowRules.{IsCount, Vacant, SoundRows}
use Rattle.lent_sessions.specs.Histories.{lent_answer, next_lent, lent_session}
use Rattle.lent_sessions.specs.declared.LentSession.{LentSession}

-- the calls that use the queue
pub data UsesQueue : Call → Type 0 where
  adds : {id : ℕ} {r : Request} → UsesQueue (Add id r)
  drops : {id : ℕ} → UsesQueue (Drop id)
  turns : {room : ℕ} → UsesQueue (Turn room)

pub record BrokenRows : Type 0 where
  -- 2 comes first, whatever the records
  pub before : (s : LentSession) (rows : List Entry) → s.opened ≡ false → (c : Call) → UsesQueue c → lent_answer (s, rows) c ≡ Err CallOrder
  pub again : (s : LentSession) (rows : List Entry) → s.opened ≡ true → (o : Opening) → lent_answer (s, rows) (Open o) ≡ Err CallOrder
  -- "A row set that breaks the rules (..) is refused with 3 by each call but open, right after 2", whatever the call is given
  pub broken : (s : LentSession) (rows : List Entry) → s.opened ≡ true → ¬ SoundRows s.setup rows → (c : Call) → UsesQueue c
      → lent_answer (s, rows) c ≡ Err BadOpening
  -- "a length outside that range is refused with 3", by open too
  pub too_many : (s : LentSession) (rows : List Entry) → s.opened ≡ false → ¬ IsCount (length rows) → (o : Opening) → lent_answer (s, rows) (Open o) ≡ Err BadOpening
  -- open does not look at what the records hold; "made all vacant by an accepted open"
  pub opens : (s : LentSession) (rows : List Entry) → s.opened ≡ false → IsCount (length rows) → (o : Opening) (t : Setup) → setup_of o ≡ Some t
      → (lent_answer (s, rows) (Open o) ≡ Ok tt) × (next_lent (s, rows) (Open o) ≡ (record { opened = true; setup = t }, replicate (length rows) Vacant))
  -- so with a row set that breaks the rules, and with a number of records that is not 1 to 256, no list of calls changes anything
  pub still_broken : (s : LentSession) (rows : List Entry) → s.opened ≡ true → ¬ SoundRows s.setup rows → (calls : List Call) → state_after lent_session (s, rows) calls ≡ (s, rows)
  pub still_closed : (s : LentSession) (rows : List Entry) → s.opened ≡ false → ¬ IsCount (length rows) → (calls : List Call) → state_after lent_session (s, rows) calls ≡ (s, rows)
