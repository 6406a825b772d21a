-- Which write ends a text quietly, by the cases of errno. Assumes nothing.
use mathlib.Core.Bool.{Bool, true, false}
use mathlib.Core.Path.{◌≡◌, refl, ap}
use Prim.Native.Nat.{ℕ, ◌+◌}
use lib.Dec.{ltb, eqb}
use lib.IntN.{ℤ, pos, negsuc}
use borrow.Author.Tests.{eqb-true}
use Rattle.std.specs.Prelude.{Result, Ok, Err}
use Rattle.descriptors.specs.Failures.{failure_of, interrupted, would_block, closed_pipe}
use Rattle.descriptors.specs.Writes.{next_after, next_at, write_step}
use Rattle.descriptors.specs.ClosedOutputs.{ClosedOutputs}
use Rattle.descriptors.specs.declared.Failure.{Failure}
use Rattle.descriptors.specs.declared.Next.TheVariants.{Go, Complete, Closed, Stuck}

-- a call that was answered is none
moved : (n before after : ℕ) → next_at n before after ≡ Closed → ⊥
unfolding next_at
moved n before after e = go (eqb after before) (ltb after n) e
  where
    go : (a b : Bool) → (elim a [ true ↦ Stuck | false ↦ elim b [ true ↦ Go | false ↦ Complete ] ]) ≡ Closed → ⊥
    go true b h = cc
    go false true h = cc
    go false false h = cc

-- nor is one that failed for another reason
reason : (f : Failure) → next_after f ≡ Closed → f ≡ Failure.Closed
reason Failure.Interrupted e = cc
reason Failure.WouldBlock e = cc
reason Failure.Closed e = refl
reason Failure.Other e = cc

by_errno : (errno : ℤ) → failure_of errno ≡ Failure.Closed → errno ≡ pos 32
unfolding failure_of interrupted would_block closed_pipe
by_errno (negsuc m) e = cc
by_errno (pos m) e = go (eqb m 4) (eqb m 11) (eqb m 32) refl e
  where
    go : (a b c : Bool) → eqb m 32 ≡ c
        → (elim a [ true ↦ Failure.Interrupted | false ↦ elim b [ true ↦ Failure.WouldBlock | false ↦ elim c [ true ↦ Failure.Closed | false ↦ Failure.Other ] ] ]) ≡ Failure.Closed
        → pos m ≡ pos 32
    go true b c k h = cc
    go false true c k h = cc
    go false false true k h = ap pos (eqb-true m 32 k)
    go false false false k h = cc

only : (n done : ℕ) (answer : Result ℕ ℤ) → (write_step n done answer).next ≡ Closed → answer ≡ Err (pos 32)
unfolding write_step
only n done (Ok k) e = absurd (moved n done (done + k) e)
only n done (Err errno) e = ap Err (by_errno errno (reason (failure_of errno) e))

pub closed_outputs : ClosedOutputs
unfolding write_step failure_of interrupted would_block closed_pipe
closed_outputs = record { closed = λ n done. refl; only = only }
