-- Of any session, also one that no call leaves (docs/DECISIONS.md, 16): "the queue is the first `len` entries of the array, and a drop removes every entry of the
-- id", and the others keep their order.
use Rattle.std.specs.Prelude.{◌≡◌, ◌≢◌, List, [], ◌∷◌, ℕ, take, Ok}
use Rattle.requests.specs.declared.Entry.{Entry}
use Rattle.sessions.specs.Calls.{Drop}
use Rattle.sessions.specs.Sessions.{answer_to, next_session}
use Rattle.sessions.specs.declared.Session.{Session}

-- the entries of other ids, in their order
pub data Others (id : ℕ) : List Entry → List Entry → Type 0 where
  none : Others id [] []
  dropped : {e : Entry} {es rest : List Entry} → e.id ≡ id → Others id es rest → Others id (e ∷ es) rest
  stays : {e : Entry} {es rest : List Entry} → e.id ≢ id → Others id es rest → Others id (e ∷ es) (e ∷ rest)

-- the first `len` entries
abbrev pub entries_of : Session → List Entry
entries_of s = take s.len s.queue

abbrev pub DropsEvery : Type 0
DropsEvery = (s : Session) (id : ℕ) → answer_to s (Drop id) ≡ (Ok tt) → Others id (entries_of s) (entries_of (next_session s (Drop id)))
