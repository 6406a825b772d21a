-- Document 02, order 11, for a lent session: the field of each row of its table, and what it settles. "Refusals 2, 7, 12, 13 and 14, and 3 for the
-- lent records, give field 0".
use Rattle.std.specs.Prelude.{◌≡◌, true, false, List, ℕ, ◌<◌, length, Some}
use Rattle.requests.specs.declared.Opening.{Opening}
use Rattle.requests.specs.declared.Entry.{Entry}
use Rattle.requests.specs.declared.Refusal.{Refusal}
use Rattle.requests.specs.declared.Refusal.TheVariants.{BadOpening}
use Rattle.requests.specs.declared.Fault.{Fault}
use Rattle.requests.specs.Faults.{at, refusal_in, with_field}
use Rattle.sessions.specs.Calls.{Call, Open, Add, Drop, Turn, Turns}
use Rattle.sessions.specs.FaultRows.{AppliesAt}
use Rattle.lent_sessions.specs.RowRules.{IsCount, SoundRows}
use Rattle.lent_sessions.specs.Lent.{plain_with, lent_refusal}
use Rattle.lent_sessions.specs.LentFaultTable.{lent_fault, lent_fields_of}
use Rattle.lent_sessions.specs.declared.LentSession.{LentSession}

-- "each call but open"
abbrev pub Later : Call → Type 0
Later (Open o) = ⊥
Later (Add id r) = Unit {0}
Later (Drop id) = Unit {0}
Later (Turn room) = Unit {0}
Later (Turns n room places) = Unit {0}

-- the row of this refusal applies to the call, and fails in this field of the call
pub data LentAppliesAt (s : LentSession) (rows : List Entry) : Call → Refusal → ℕ → Type 0 where
  -- "3 for the lent records": "a length outside that range", "a row set that breaks the rules"
  bad_number : {o : Opening} → ¬ IsCount (length rows) → LentAppliesAt s rows (Open o) BadOpening 0
  broken_rows : {c : Call} → Later c → ¬ SoundRows s.setup rows → LentAppliesAt s rows c BadOpening 0
  -- the others as in a small session with so many places
  of_table : {c : Call} {x : Refusal} {k : ℕ} → AppliesAt (length rows) (plain_with s rows) c x k → LentAppliesAt s rows c x k

pub record LentFaults : Type 0 where
  -- "Numbers and their order stay": without the field it is the lent session's refusal table
  pub numbers : (s : LentSession) (rows : List Entry) (c : Call) → refusal_in (lent_fault s rows c) ≡ lent_refusal s rows c
  -- the row applies in the field that is given, and in no field left of it
  pub applies : (s : LentSession) (rows : List Entry) (c : Call) (f : Fault) → lent_fault s rows c ≡ Some f → LentAppliesAt s rows c f.refusal f.field
  pub leftmost : (s : LentSession) (rows : List Entry) (c : Call) (f : Fault) → lent_fault s rows c ≡ Some f → (k : ℕ) → k < f.field → ¬ LentAppliesAt s rows c f.refusal k
  -- 3 for the records is at 0, whatever an opening is given
  pub bad_number : (s : LentSession) (rows : List Entry) (o : Opening) → s.opened ≡ false → ¬ IsCount (length rows) → lent_fault s rows (Open o) ≡ Some (at BadOpening 0)
  pub broken_rows : (s : LentSession) (rows : List Entry) (c : Call) → s.opened ≡ true → Later c → ¬ SoundRows s.setup rows → lent_fault s rows c ≡ Some (at BadOpening 0)
  -- once the number is known, the field depends on the arguments of the call, the number of records and the device alone
  pub fields : (s : LentSession) (rows : List Entry) (c : Call) → lent_fault s rows c ≡ with_field (lent_fields_of s.setup.device (length rows) c) (lent_refusal s rows c)
