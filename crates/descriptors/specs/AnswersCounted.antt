-- What is made of the answers of `read` and `write`: every byte that a call reports counts, and none of a call that failed. A read is the end of the
-- input exactly where it reports none.
use Rattle.std.specs.Prelude.{◌≡◌, ℕ, ◌+◌, ℤ, Result, Ok, Err}
use Rattle.descriptors.specs.Reads.{read_step, bytes_read}
use Rattle.descriptors.specs.Writes.{write_step}
use Rattle.descriptors.specs.declared.Reading.TheVariants.{End}

pub record AnswersCounted : Type 0 where
  pub read : (n : ℕ) → bytes_read (read_step (Ok n)) ≡ n
  pub not_read : (errno : ℤ) → bytes_read (read_step (Err errno)) ≡ 0
  pub end : read_step (Ok 0) ≡ End
  pub only_end : (answer : Result ℕ ℤ) → read_step answer ≡ End → answer ≡ Ok 0
  pub written : (n done k : ℕ) → (write_step n done (Ok k)).done ≡ done + k
  pub not_written : (n done : ℕ) (errno : ℤ) → (write_step n done (Err errno)).done ≡ done
