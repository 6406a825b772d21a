-- A write to an output that its reader has closed (EPIPE, 32) ends the text quietly, and nothing else does.
use Rattle.std.specs.Prelude.{◌≡◌, ℕ, ℤ, pos, Result, Err}
use Rattle.descriptors.specs.Writes.{write_step}
use Rattle.descriptors.specs.declared.Next.TheVariants as Next

pub record ClosedOutputs : Type 0 where
  pub closed : (n done : ℕ) → write_step n done (Err (pos 32)) ≡ record { done = done; next = Next.Closed }
  pub only : (n done : ℕ) (answer : Result ℕ ℤ) → (write_step n done answer).next ≡ Next.Closed → answer ≡ Err (pos 32)
