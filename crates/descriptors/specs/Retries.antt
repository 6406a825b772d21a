-- A call that a signal interrupts (EINTR, 4) or that would block (EAGAIN, 11) is made again from where it stands. No other failure
-- is, and none is taken for the end of the input or for a text that is written. Of the calls that open a file, those that a signal
-- interrupts are made again and no others.
use Rattle.std.specs.Prelude.{true, ◌≡◌, ◌⊎◌, ℕ, ℤ, pos, Err}
use Rattle.descriptors.specs.Failures.{failure_of, is_interrupted}
use Rattle.descriptors.specs.Reads.{read_step, read_again_lem}
use Rattle.descriptors.specs.Writes.{write_step, goes_on_lem}
use Rattle.descriptors.specs.declared.Reading.TheVariants.{End, Again, Wait}
use Rattle.descriptors.specs.declared.Next.TheVariants as Next

pub record Retries : Type 0 where
  pub write_interrupted : (n done : ℕ) → write_step n done (Err (pos 4)) ≡ record { done = done; next = Next.Go }
  pub write_blocked : (n done : ℕ) → write_step n done (Err (pos 11)) ≡ record { done = done; next = Next.Wait }
  pub write_again : (n done : ℕ) (errno : ℤ) → goes_on_lem (write_step n done (Err errno)).next ≡ true → (errno ≡ pos 4) ⊎ (errno ≡ pos 11)
  pub write_failed : (n done : ℕ) (errno : ℤ) → (write_step n done (Err errno)).next ≡ Next.Complete → ⊥
  pub read_interrupted : read_step (Err (pos 4)) ≡ Again
  pub read_blocked : read_step (Err (pos 11)) ≡ Wait
  pub read_again : (errno : ℤ) → read_again_lem (read_step (Err errno)) ≡ true → (errno ≡ pos 4) ⊎ (errno ≡ pos 11)
  pub read_failed : (errno : ℤ) → read_step (Err errno) ≡ End → ⊥
  pub open_interrupted : is_interrupted (failure_of (pos 4)) ≡ true
  pub open_again : (errno : ℤ) → is_interrupted (failure_of errno) ≡ true → errno ≡ pos 4
