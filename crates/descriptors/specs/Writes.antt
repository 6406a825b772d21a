-- What calls of `write` on a text come to: how much of it they have reported written, and what comes next.
use Rattle.std.specs.Prelude.{Bool, true, false, ◌≡◌, ℕ, ◌+◌, ◌-◌, ltb, eqb, ℤ, Result, Ok, Err}
use Rattle.descriptors.specs.Io.{Moved}
use Rattle.descriptors.specs.Failures.{failure_of}
use Rattle.descriptors.specs.declared.Failure.{Failure}
use Rattle.descriptors.specs.declared.Next.{Next}
use Rattle.descriptors.specs.declared.Next.TheVariants.{Go, Wait, Complete, Closed, Failed, Stuck}
use Rattle.descriptors.specs.declared.Writing.{Writing}

-- a text of n bytes before the first call: one without a byte needs none
unfoldable pub write_start : ℕ → Writing
write_start n = record { done = 0; next = elim (eqb n 0) [ true ↦ Complete | false ↦ Go ] }

-- after a call that failed: again where a signal interrupted it, after a wait where it would block; a closed output ends quietly
abbrev pub next_after : Failure → Next
next_after Failure.Interrupted = Go
next_after Failure.WouldBlock = Wait
next_after Failure.Closed = Closed
next_after Failure.Other = Failed

-- after a call that took the written part of n bytes from one length to another
unfoldable pub next_at : ℕ → ℕ → ℕ → Next
next_at n before after = elim (eqb after before) [ true ↦ Stuck | false ↦ elim (ltb after n) [ true ↦ Go | false ↦ Complete ] ]

-- a call's answer on the bytes of n that are not yet done
unfoldable pub write_step : ℕ → ℕ → Result ℕ ℤ → Writing
write_step n done (Ok k) = record { done = done + k; next = next_at n done (done + k) }
write_step n done (Err errno) = record { done = done; next = next_after (failure_of errno) }

-- whether a call is made
abbrev pub goes_on_lem : Next → Bool
goes_on_lem Go = true
goes_on_lem Wait = true
goes_on_lem Complete = false
goes_on_lem Closed = false
goes_on_lem Failed = false
goes_on_lem Stuck = false

-- whether all is written
abbrev pub is_complete : Next → Bool
is_complete Go = false
is_complete Wait = false
is_complete Complete = true
is_complete Closed = false
is_complete Failed = false
is_complete Stuck = false

-- what calls on n bytes can come to, each on the bytes not yet done and with an answer that `write` may give
pub data Reached (n : ℕ) : Writing → Type 0 where
  begun : Reached n (write_start n)
  called : {w : Writing} → Reached n w → goes_on_lem w.next ≡ true → (answer : Result ℕ ℤ) → Moved (n - w.done) answer → Reached n (write_step n w.done answer)
