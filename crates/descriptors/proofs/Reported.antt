-- What calls of `write` report: a text goes on while bytes are left, and is complete exactly where none is. Assumes nothing.
use mathlib.Core.Bool.{Bool, true, false, false≢true}
use mathlib.Core.Path.{◌≡◌, refl, sym, ap, ◌∙◌}
use Prim.Native.Nat.{ℕ, ◌+◌, ◌-◌, ◌≤◌, ◌<◌}
use native.Mathlib.Omega.{arith}
use lib.Dec.{ltb, eqb}
use lib.IntN.{ℤ}
use borrow.Author.Tests.{eqb-true, eqb-false, ltb-true, ltb-false}
use Rattle.std.specs.Prelude.{Result, Ok, Err}
use Rattle.descriptors.specs.Io.{Moved}
use Rattle.descriptors.specs.Failures.{failure_of}
use Rattle.descriptors.specs.Writes.{write_start, next_after, next_at, write_step, goes_on_lem, is_complete, Reached, begun, called}
use Rattle.descriptors.specs.Reports.{Reports}
use Rattle.descriptors.specs.declared.Failure.{Failure}
use Rattle.descriptors.specs.declared.Failure.TheVariants.{Interrupted, WouldBlock, Closed, Other}
use Rattle.descriptors.specs.declared.Next.{Next}
use Rattle.descriptors.specs.declared.Next.TheVariants.{Go, Wait, Complete, Failed, Stuck}
use Rattle.descriptors.specs.declared.Writing.{Writing}

-- what passes for complete is
pub complete_is : (next : Next) → is_complete next ≡ true → next ≡ Complete
complete_is Go e = absurd (false≢true e)
complete_is Wait e = absurd (false≢true e)
complete_is Complete e = refl
complete_is Next.Closed e = absurd (false≢true e)
complete_is Failed e = absurd (false≢true e)
complete_is Stuck e = absurd (false≢true e)

-- what is known of a text of n bytes at every moment
pub record Known (n : ℕ) (w : Writing) : Type 0 where
  pub within : w.done ≤ n
  pub going : goes_on_lem w.next ≡ true → w.done < n
  pub complete : w.next ≡ Complete → w.done ≡ n
  pub whole : w.done ≡ n → w.next ≡ Complete

-- bytes are left, and it is not complete
short : (n : ℕ) (w : Writing) → w.done < n → is_complete w.next ≡ false → Known n w
short n w left other =
    record {
      within = omega (arith, left);
      going = λ g. left;
      complete = λ e. absurd (false≢true (sym other ∙ ap is_complete e));
      whole = λ e. absurd (omega (arith, left, e));
    }

-- none is left, and it is
full : (n : ℕ) (w : Writing) → w.done ≡ n → w.next ≡ Complete → Known n w
full n w all e =
    record {
      within = omega (arith, all);
      going = λ g. absurd (false≢true (sym (ap goes_on_lem e) ∙ g));
      complete = λ c. all;
      whole = λ c. e;
    }

-- a text before the first call
start_done : (n : ℕ) → (write_start n).done ≡ 0
unfolding write_start
start_done n = refl

start_full : (n : ℕ) → eqb n 0 ≡ true → (write_start n).next ≡ Complete
unfolding write_start
start_full n e = rw (e, write_start)

start_left : (n : ℕ) → eqb n 0 ≡ false → (write_start n).next ≡ Go
unfolding write_start
start_left n e = rw (e, write_start)

at_start_lem : (n : ℕ) → Known n (write_start n)
at_start_lem n = go (eqb n 0) refl
  where
    go : (b : Bool) → eqb n 0 ≡ b → Known n (write_start n)
    go true e = full n (write_start n) (start_done n ∙ sym (eqb-true n 0 e)) (start_full n e)
    go false e = short n (write_start n) (omega (arith, eqb-false n 0 e, start_done n)) (ap is_complete (start_left n e))

-- after a call that failed
pub not_complete : (f : Failure) → is_complete (next_after f) ≡ false
not_complete Interrupted = refl
not_complete WouldBlock = refl
not_complete Closed = refl
not_complete Other = refl

-- after a call that took k bytes
module _ (n done k : ℕ) (left : done < n) (moved : k ≤ n - done) where
  abbrev after : Writing
  after = record { done = done + k; next = next_at n done (done + k) }

  stuck : eqb (done + k) done ≡ true → after.next ≡ Stuck
  unfolding next_at
  stuck e = rw (e, next_at)

  goes : eqb (done + k) done ≡ false → ltb (done + k) n ≡ true → after.next ≡ Go
  unfolding next_at
  goes e f = rw (e, f, next_at)

  ends : eqb (done + k) done ≡ false → ltb (done + k) n ≡ false → after.next ≡ Complete
  unfolding next_at
  ends e f = rw (e, f, next_at)

  at_moved : Known n after
  at_moved = go (eqb (done + k) done) refl (ltb (done + k) n) refl
    where
      go : (a : Bool) → eqb (done + k) done ≡ a → (b : Bool) → ltb (done + k) n ≡ b → Known n after
      go true e b f = short n after (omega (arith, left, eqb-true (done + k) done e)) (ap is_complete (stuck e))
      go false e true f = short n after (ltb-true (done + k) n f) (ap is_complete (goes e f))
      go false e false f = full n after (omega (arith, left, moved, ltb-false (done + k) n f)) (ends e f)

at_step : (n done : ℕ) (answer : Result ℕ ℤ) → done < n → Moved (n - done) answer → Known n (write_step n done answer)
unfolding write_step
at_step n done (Ok k) left moved = at_moved n done k left moved
at_step n done (Err errno) left moved = short n (record { done = done; next = next_after (failure_of errno) }) left (not_complete (failure_of errno))

pub known : {n : ℕ} {w : Writing} → Reached n w → Known n w
known {n} begun = at_start_lem n
known {n} (called {w} reached g answer moved) = at_step n w.done answer ((known reached).going g) moved

pub reports : Reports
reports =
    record {
      within = λ n w r. (known r).within;
      complete = λ n w r. (known r).complete;
      whole = λ n w r. (known r).whole;
    }
