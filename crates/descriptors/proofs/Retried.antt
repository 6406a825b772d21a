-- Which failures are retried, by the cases of errno. Assumes nothing.
use mathlib.Core.Bool.{Bool, true, false, false≢true}
use mathlib.Core.Path.{◌≡◌, refl, sym, ap, ◌∙◌}
use mathlib.Core.Logic.{◌⊎◌, inl, inr, ⊎_elim}
use Prim.Native.Nat.{ℕ}
use lib.Dec.{eqb}
use lib.IntN.{ℤ, pos, negsuc}
use borrow.Author.Tests.{eqb-true}
use Rattle.descriptors.specs.Failures.{failure_of, interrupted, would_block, closed_pipe, is_interrupted}
use Rattle.descriptors.specs.Reads.{read_after, read_step, read_again_lem}
use Rattle.descriptors.specs.Writes.{next_after, write_step, goes_on_lem, is_complete}
use Rattle.descriptors.specs.Retries.{Retries}
use Rattle.descriptors.specs.declared.Failure.{Failure}
use Rattle.descriptors.specs.declared.Failure.TheVariants.{Closed, Other}
use Rattle.descriptors.proofs.Reported.{not_complete}
use Rattle.descriptors.proofs.AnswersCounted.{not_end}

-- why a call failed, case by case
closed : (m : ℕ) → eqb m 4 ≡ false → eqb m 11 ≡ false → eqb m 32 ≡ true → failure_of (pos m) ≡ Closed
unfolding failure_of interrupted would_block closed_pipe
closed m a b c = rw (a, b, c, failure_of)

other : (m : ℕ) → eqb m 4 ≡ false → eqb m 11 ≡ false → eqb m 32 ≡ false → failure_of (pos m) ≡ Other
unfolding failure_of interrupted would_block closed_pipe
other m a b c = rw (a, b, c, failure_of)

below : (m : ℕ) → failure_of (negsuc m) ≡ Other
unfolding failure_of
below m = refl

-- whatever test tells the two from the others
again : (test : Failure → Bool) → test Closed ≡ false → test Other ≡ false → (errno : ℤ) → test (failure_of errno) ≡ true → (errno ≡ pos 4) ⊎ (errno ≡ pos 11)
again test x y (pos m) h = go (eqb m 4) refl (eqb m 11) refl (eqb m 32) refl
  where
    go : (a : Bool) → eqb m 4 ≡ a → (b : Bool) → eqb m 11 ≡ b → (c : Bool) → eqb m 32 ≡ c → (pos m ≡ pos 4) ⊎ (pos m ≡ pos 11)
    go true e b f c g = inl (ap pos (eqb-true m 4 e))
    go false e true f c g = inr (ap pos (eqb-true m 11 f))
    go false e false f true g = absurd (false≢true (sym x ∙ ap test (sym (closed m e f g)) ∙ h))
    go false e false f false g = absurd (false≢true (sym y ∙ ap test (sym (other m e f g)) ∙ h))
again test x y (negsuc m) h = absurd (false≢true (sym y ∙ ap test (sym (below m)) ∙ h))

-- a signal's is one of them, and blocking is not a signal's
signalled : (errno : ℤ) → is_interrupted (failure_of errno) ≡ true → errno ≡ pos 4
unfolding failure_of interrupted would_block
signalled errno h = ⊎_elim (λ e. e) (λ e. absurd (false≢true (ap (λ (z : ℤ). is_interrupted (failure_of z)) (sym e) ∙ h))) (again is_interrupted refl refl errno h)

pub retries : Retries
unfolding write_step read_step failure_of interrupted would_block
retries =
    record {
      write_interrupted = λ n done. refl;
      write_blocked = λ n done. refl;
      write_again = λ n done errno h. again (λ (f : Failure). goes_on_lem (next_after f)) refl refl errno h;
      write_failed = λ n done errno e. false≢true (sym (not_complete (failure_of errno)) ∙ ap is_complete e);
      read_interrupted = refl;
      read_blocked = refl;
      read_again = λ errno h. again (λ (f : Failure). read_again_lem (read_after f)) refl refl errno h;
      read_failed = λ errno e. not_end (failure_of errno) e;
      open_interrupted = refl;
      open_again = signalled;
    }
