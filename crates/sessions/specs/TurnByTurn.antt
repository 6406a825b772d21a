-- Order 6: n turns at once do what n single turns do, each with "the part of the buffer that begins where the last one ended".
use Rattle.std.specs.Prelude.{◌≡◌, List, [], ◌∷◌, ◌++◌, map, ℕ, zero, suc, ◌+◌, ◌*◌, ◌-◌, length, take, drop, Ok}
use Rattle.plans.specs.Lists.{All}
use Rattle.layouts.specs.Writes.{Write, flat}
use Rattle.sessions.specs.Turns.{joined}
use Rattle.sessions.specs.Calls.{Turns}
use Rattle.sessions.specs.RefusalTable.{Lists}
use Rattle.sessions.specs.Sessions.{queued, plain_of, turn_of, turn_slice, plan_of, turns_answer, turns_slice, turns_ends}
use Rattle.sessions.specs.Completed.{small_session, CompletedTurn, turns_by}
use Rattle.sessions.specs.declared.Session.{Session}
use Rattle.sessions.specs.declared.TurnAnswered.{TurnAnswered}

-- the answers of n single turns, where the slice is what is left for them
unfoldable pub turn_answers : ℕ → Session → List ℕ → List TurnAnswered
turn_answers zero s slice = []
turn_answers (suc n) s slice =
    let single = turn_of s (length slice) in
    single ∷ turn_answers n single.session (drop (2 * single.writes) (turn_slice s slice))

-- the session that they leave
unfoldable pub last_session : Session → List TurnAnswered → Session
last_session s [] = s
last_session s (a ∷ rest) = last_session a.session rest

-- the slice that they leave
unfoldable pub slice_by_turns : ℕ → Session → List ℕ → List ℕ
slice_by_turns zero s slice = slice
slice_by_turns (suc n) s slice =
    let single = turn_of s (length slice) in
    take (2 * single.writes) (turn_slice s slice) ++ slice_by_turns n single.session (drop (2 * single.writes) (turn_slice s slice))

-- where their lists end, if the first begins at a place
unfoldable pub ends_by_turns : ℕ → List TurnAnswered → List ℕ
ends_by_turns at [] = []
ends_by_turns at (a ∷ rest) = (at + 2 * a.writes) ∷ ends_by_turns (at + 2 * a.writes) rest

-- a slice that begins at a place, cut at these places: what lies before each
unfoldable pub cut_at : ℕ → List ℕ → List ℕ → List (List ℕ)
cut_at at [] slice = []
cut_at at (end ∷ ends) slice = take (end - at) slice ∷ cut_at end ends (drop (end - at) slice)

-- an accepted call for n turns
pub record AsSingleTurns (s : Session) (n : ℕ) (slice ends : List ℕ) : Type 0 where
  -- "n single turns, all completed"
  pub completed : All (λ (a : TurnAnswered). a.answer ≡ Ok tt) (turn_answers n s slice)
  -- "Lists and session are those of n single turns"; "what lies past the last list and end stays"
  pub session : (turns_answer s n (length slice) (length ends)).session ≡ last_session s (turn_answers n s slice)
  pub lists : turns_slice s n slice (length ends) ≡ slice_by_turns n s slice
  pub places : turns_ends s n (length slice) ends ≡ ends_by_turns 0 (turn_answers n s slice) ++ drop n ends
  -- "the ends, as places in the first": cut there, it falls into the lists, each that of the first legal plan of those taken
  pub written : List (List Write)
  pub planned : Lists s.setup n (queued s) written
  pub cut : cut_at 0 (take n (turns_ends s n (length slice) ends)) (turns_slice s n slice (length ends)) ≡ map flat written
  -- "what lies past the last list and end stays", whatever stands there
  pub past_lists : drop (2 * length (joined written)) (turns_slice s n slice (length ends)) ≡ drop (2 * length (joined written)) slice
  pub past_ends : drop n (turns_ends s n (length slice) ends) ≡ drop n ends
  -- "with the plans that the single turns would answer"
  pub plans : map (λ (t : CompletedTurn). t.plan) (turns_by small_session (plain_of s) s (Turns n (length slice) (length ends))) ≡ map plan_of (turn_answers n s slice)

abbrev pub TurnByTurn : Type 0
TurnByTurn =
    (s : Session) (n : ℕ) (slice ends : List ℕ)
    → (turns_answer s n (length slice) (length ends)).answer ≡ Ok tt
    → AsSingleTurns s n slice ends
