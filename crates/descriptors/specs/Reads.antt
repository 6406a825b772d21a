-- What calls of `read` come to.
use Rattle.std.specs.Prelude.{Bool, true, false, List, ℕ, ◌≤◌, ◌<◌, eqb, ℤ, Result, Ok, Err, length}
use Rattle.descriptors.specs.Failures.{failure_of}
use Rattle.descriptors.specs.declared.Failure.{Failure}
use Rattle.descriptors.specs.declared.Failure.TheVariants.{Interrupted, WouldBlock, Closed, Other}
use Rattle.descriptors.specs.declared.Reading.{Reading}
use Rattle.descriptors.specs.declared.Reading.TheVariants.{Bytes, End, Again, Wait, Failed}

-- a call that failed: made again where a signal interrupted it, and after a wait where it would block
abbrev pub read_after : Failure → Reading
read_after Interrupted = Again
read_after WouldBlock = Wait
read_after Closed = Failed
read_after Other = Failed

-- a call's answer: a number of bytes, which is 0 at the end of the input, or errno
unfoldable pub read_step : Result ℕ ℤ → Reading
read_step (Ok n) = elim (eqb n 0) [ true ↦ End | false ↦ Bytes n ]
read_step (Err errno) = read_after (failure_of errno)

-- whether the call is made again
abbrev pub read_again_lem : Reading → Bool
read_again_lem (Bytes n) = false
read_again_lem End = false
read_again_lem Again = true
read_again_lem Wait = true
read_again_lem Failed = false

-- the number of bytes read
abbrev pub bytes_read : Reading → ℕ
bytes_read (Bytes n) = n
bytes_read End = 0
bytes_read Again = 0
bytes_read Wait = 0
bytes_read Failed = 0

-- what reading comes to in the end: at least a byte, which lies in the block, the end of the input, or a failure
abbrev pub ReadWithin : List ℕ → Reading → Type 0
ReadWithin block (Bytes n) = (0 < n) × (n ≤ length block)
ReadWithin block End = Unit {0}
ReadWithin block Again = ⊥
ReadWithin block Wait = ⊥
ReadWithin block Failed = Unit {0}
