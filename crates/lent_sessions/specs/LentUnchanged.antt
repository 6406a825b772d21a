-- "On refusal the answer is the number; session and slices are untouched", and so are the records.
use Rattle.std.specs.Prelude.{◌≡◌, ◌⊎◌, List, [], true, false, ℕ, length, Err}
use Rattle.requests.specs.declared.Entry.{Entry}
use Rattle.requests.specs.declared.Refusal.{Refusal}
use Rattle.sessions.specs.Calls.{Call}
use Rattle.lent_sessions.specs.Lent.{new_lent, lent_turned, lent_slice, lent_plan}
use Rattle.lent_sessions.specs.Histories.{State, lent_answer, next_session, next_lent, IsOpened, Reached}
use Rattle.lent_sessions.specs.declared.LentSession.{LentSession}

pub record LentUnchanged : Type 0 where
  pub state : (x : State) (c : Call) (r : Refusal) → lent_answer x c ≡ Err r → next_lent x c ≡ x
  pub slice : (s : LentSession) (rows : List Entry) (numbers : List ℕ) (r : Refusal) → (lent_turned s rows (length numbers)).answer ≡ Err r → lent_slice s rows numbers ≡ numbers
  -- a refused turn has no plan and no writes
  pub plan : (s : LentSession) (rows : List Entry) (room : ℕ) (r : Refusal) → (lent_turned s rows room).answer ≡ Err r → lent_plan (lent_turned s rows room) ≡ []
  pub writes : (s : LentSession) (rows : List Entry) (room : ℕ) (r : Refusal) → (lent_turned s rows room).answer ≡ Err r → (lent_turned s rows room).writes ≡ 0
  -- an open session stays as it was opened, so that whatever records the host lends at each call, an open session is one that open has opened
  pub new : new_lent.opened ≡ false
  pub session : (s : LentSession) (rows : List Entry) (c : Call) → s.opened ≡ true → next_session (s, rows) c ≡ s
  pub reached : (s : LentSession) → Reached s → (s.opened ≡ false) ⊎ IsOpened s
