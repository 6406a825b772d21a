-- The answers of `read` and `write`, case by case. Assumes nothing.
use mathlib.Core.Bool.{Bool, true, false}
use mathlib.Core.Path.{◌≡◌, refl, sym, ap}
use Prim.Native.Nat.{ℕ}
use lib.Dec.{eqb}
use lib.IntN.{ℤ}
use borrow.Author.Tests.{eqb-true}
use Rattle.std.specs.Prelude.{Result, Ok, Err}
use Rattle.descriptors.specs.Failures.{failure_of}
use Rattle.descriptors.specs.Reads.{read_after, read_step, bytes_read}
use Rattle.descriptors.specs.Writes.{write_step}
use Rattle.descriptors.specs.AnswersCounted.{AnswersCounted}
use Rattle.descriptors.specs.declared.Failure.{Failure}
use Rattle.descriptors.specs.declared.Failure.TheVariants.{Interrupted, WouldBlock, Closed, Other}
use Rattle.descriptors.specs.declared.Reading.{Reading}
use Rattle.descriptors.specs.declared.Reading.TheVariants.{Bytes, End}

-- by whether any byte is reported
abbrev reading : Bool → ℕ → Reading
reading true n = End
reading false n = Bytes n

read_as : (n : ℕ) → read_step (Ok n) ≡ reading (eqb n 0) n
unfolding read_step
read_as n = go (eqb n 0)
  where
    go : (b : Bool) → (elim b [ true ↦ End | false ↦ Bytes n ]) ≡ reading b n
    go true = refl
    go false = refl

counted : (n : ℕ) → bytes_read (read_step (Ok n)) ≡ n
counted n = rw (read_as n) (go (eqb n 0) refl)
  where
    go : (b : Bool) → eqb n 0 ≡ b → bytes_read (reading b n) ≡ n
    go true e = sym (eqb-true n 0 e)
    go false e = refl

failed : (f : Failure) → bytes_read (read_after f) ≡ 0
failed Interrupted = refl
failed WouldBlock = refl
failed Closed = refl
failed Other = refl

-- no failure is taken for the end
pub not_end : (f : Failure) → read_after f ≡ End → ⊥
not_end Interrupted e = cc
not_end WouldBlock e = cc
not_end Closed e = cc
not_end Other e = cc

only_end : (answer : Result ℕ ℤ) → read_step answer ≡ End → answer ≡ Ok 0
unfolding read_step
only_end (Err errno) e = absurd (not_end (failure_of errno) e)
only_end (Ok n) e = go (eqb n 0) refl (rw (read_as n) at e)
  where
    go : (b : Bool) → eqb n 0 ≡ b → reading b n ≡ End → ◌≡◌ {A = Result ℕ ℤ} (Ok n) (Ok 0)
    go true k h = ap Ok (eqb-true n 0 k)
    go false k h = cc

pub answers_counted : AnswersCounted
unfolding read_step write_step
answers_counted =
    record {
      read = counted;
      not_read = λ errno. failed (failure_of errno);
      end = refl;
      only_end = only_end;
      written = λ n done k. refl;
      not_written = λ n done errno. refl;
    }
