-- A refused call changes nothing. Assumes nothing.
use Rattle.std.specs.Prelude.{Option, None, Some, Err}
use mathlib.Core.Path.{◌≡◌, refl, sym, ◌∙◌}
use mathlib.Core.List.{List, []}
use Prim.Native.Nat.{ℕ}
use native.Mathlib.Omega.{arith}
use lib.ListN.{length}
use Rattle.requests.specs.declared.Refusal.{Refusal}
use Rattle.requests.specs.Refusals.{answer_for}
use Rattle.sessions.specs.Calls.{Call, Turn, Turns}
use Rattle.sessions.specs.Sessions.{refused_by, turn_answer, turn_of, turn_slice, plan_of, turns_answer, turns_slice, turns_ends, answer_to, next_session}
use Rattle.sessions.specs.Unchanged.{Unchanged}
use Rattle.sessions.specs.declared.Session.{Session}
use Rattle.sessions.proofs.Agreed.{answer_is, next_by}

-- a refused answer comes from a row
row_of : (o : Option Refusal) (x : Refusal) → answer_for o ≡ Err x → (y : Refusal) × (o ≡ Some y)
unfolding answer_for
row_of None x e = let z : ◌≡◌ {A = ℕ} 0 1 = cc in absurd (omega arith)
row_of (Some y) x e = (y, refl)

refused_by_lem : (s : Session) (c : Call) (x : Refusal) → answer_to s c ≡ Err x → (y : Refusal) × (refused_by s c ≡ Some y)
refused_by_lem s c x e = row_of (refused_by s c) x (sym (answer_is s c) ∙ e)

same_session : (s : Session) (c : Call) (x : Refusal) → answer_to s c ≡ Err x → next_session s c ≡ s
same_session s c x e = rw (next_by s c, (refused_by_lem s c x e).1)

turn_refused_lem : (s : Session) (room : ℕ) (x : Refusal) → (turn_of s room).answer ≡ Err x → (y : Refusal) × (refused_by s (Turn room) ≡ Some y)
unfolding answer_to
turn_refused_lem s room x e = refused_by_lem s (Turn room) x e

same_slice : (s : Session) (slice : List ℕ) (x : Refusal) → (turn_of s (length slice)).answer ≡ Err x → turn_slice s slice ≡ slice
unfolding turn_slice
same_slice s slice x e = rw (turn_refused_lem s (length slice) x e).1

no_plan : (s : Session) (room : ℕ) (x : Refusal) → (turn_of s room).answer ≡ Err x → plan_of (turn_of s room) ≡ []
unfolding plan_of turn_of turn_answer
no_plan s room x e = rw ((turn_refused_lem s room x e).1, turn_of)

no_writes : (s : Session) (room : ℕ) (x : Refusal) → (turn_of s room).answer ≡ Err x → (turn_of s room).writes ≡ 0
unfolding turn_of turn_answer
no_writes s room x e = rw ((turn_refused_lem s room x e).1, turn_of)

turns_refused : (s : Session) (n room places : ℕ) (x : Refusal) → (turns_answer s n room places).answer ≡ Err x → (y : Refusal) × (refused_by s (Turns n room places) ≡ Some y)
unfolding answer_to
turns_refused s n room places x e = refused_by_lem s (Turns n room places) x e

same_lists : (s : Session) (n : ℕ) (slice ends : List ℕ) (x : Refusal) → (turns_answer s n (length slice) (length ends)).answer ≡ Err x → turns_slice s n slice (length ends) ≡ slice
unfolding turns_slice
same_lists s n slice ends x e = rw (turns_refused s n (length slice) (length ends) x e).1

same_ends : (s : Session) (n : ℕ) (slice ends : List ℕ) (x : Refusal) → (turns_answer s n (length slice) (length ends)).answer ≡ Err x → turns_ends s n (length slice) ends ≡ ends
unfolding turns_ends
same_ends s n slice ends x e = rw (turns_refused s n (length slice) (length ends) x e).1

pub unchanged : Unchanged
unchanged = record { session = same_session; slice = same_slice; plan = no_plan; writes = no_writes; lists = same_lists; ends = same_ends }
