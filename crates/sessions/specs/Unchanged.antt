-- "On refusal the answer is the number; session and slices are untouched."
use Rattle.std.specs.Prelude.{◌≡◌, List, [], ℕ, length, Err}
use Rattle.requests.specs.declared.Refusal.{Refusal}
use Rattle.sessions.specs.Calls.{Call}
use Rattle.sessions.specs.Sessions.{answer_to, next_session, turn_of, turn_slice, plan_of, turns_answer, turns_slice, turns_ends}
use Rattle.sessions.specs.declared.Session.{Session}

pub record Unchanged : Type 0 where
  pub session : (s : Session) (c : Call) (x : Refusal) → answer_to s c ≡ Err x → next_session s c ≡ s
  pub slice : (s : Session) (slice : List ℕ) (x : Refusal) → (turn_of s (length slice)).answer ≡ Err x → turn_slice s slice ≡ slice
  -- a refused turn answers no plan and no writes
  pub plan : (s : Session) (room : ℕ) (x : Refusal) → (turn_of s room).answer ≡ Err x → plan_of (turn_of s room) ≡ []
  pub writes : (s : Session) (room : ℕ) (x : Refusal) → (turn_of s room).answer ≡ Err x → (turn_of s room).writes ≡ 0
  -- refused turns at once leave both slices
  pub lists : (s : Session) (n : ℕ) (slice ends : List ℕ) (x : Refusal) → (turns_answer s n (length slice) (length ends)).answer ≡ Err x
      → turns_slice s n slice (length ends) ≡ slice
  pub ends : (s : Session) (n : ℕ) (slice ends : List ℕ) (x : Refusal) → (turns_answer s n (length slice) (length ends)).answer ≡ Err x
      → turns_ends s n (length slice) ends ≡ ends
