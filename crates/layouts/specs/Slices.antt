-- What the writer leaves in the slice that it is lent, and its answer.
use Rattle.requests.specs.declared.Refusal.{Refusal}
use Rattle.std.specs.Prelude.{◌≡◌, List, Bool, ℕ, ◌+◌, ◌*◌, ◌≤◌, ◌<◌, ltb, length, None, Some, Result, Ok, Err}
use Rattle.std.proofs.lemmas.List.Edits.{sets}
use Rattle.requests.specs.declared.Refusal.TheVariants.{SliceTooShort}
use Rattle.requests.specs.Answers.{Answer}
use Rattle.requests.specs.Choice.{pick}
use Rattle.requests.specs.Refusals.{answer_number}
use Rattle.layouts.specs.Writes.{Write, flat, filled}

-- the slice holds the writes from place at on, and next is the place past them
pub record Appended (before : List ℕ) (at : ℕ) (ws : List Write) (after : List ℕ) (next : ℕ) : Type 0 where
  pub end : next ≡ at + 2 * length ws
  pub list : after ≡ sets before at (flat ws)
  pub kept : length after ≡ length before

-- "slice shorter than twice the writes"
unfoldable pub too_short : List Write → List ℕ → Bool
too_short ws out = ltb (length out) (2 * length ws)

-- the writer's answer: "it is the length of the defined list"
unfoldable pub write_answer : List Write → List ℕ → Result ℕ Refusal
write_answer ws out = pick (too_short ws out) (Err SliceTooShort) (Ok (length ws))

-- document 01's answer in each case: 14 where the slice is too short
unfoldable pub written_answer : Result ℕ Refusal → Answer
written_answer (Ok n) = Ok tt
written_answer (Err x) = Err x

-- and its number of writes
unfoldable pub written_count : Result ℕ Refusal → ℕ
written_count (Ok n) = n
written_count (Err x) = 0

-- the slice afterwards: as it came where it is too short
unfoldable pub write_slice : List Write → List ℕ → List ℕ
write_slice ws out = pick (too_short ws out) out (filled ws out)

-- the writer's outcome: its answer, and the whole slice at exit
pub record Wrote (ws : List Write) (before after : List ℕ) (r : Result ℕ Refusal) : Type 0 where
  pub answer : r ≡ write_answer ws before
  pub slice : after ≡ write_slice ws before
  -- 14 exactly where the slice is "shorter than twice the writes", otherwise the number of writes
  pub refused : length before < 2 * length ws → answer_number (written_answer r) ≡ Some 14
  pub accepted : 2 * length ws ≤ length before → (answer_number (written_answer r) ≡ None) × (written_count r ≡ length ws)
