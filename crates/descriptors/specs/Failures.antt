-- Why a call of the C library failed, by errno.
use Rattle.std.specs.Prelude.{Bool, true, false, ℕ, eqb, ℤ, pos, negsuc}
use Rattle.descriptors.specs.declared.Failure.{Failure}
use Rattle.descriptors.specs.declared.Failure.TheVariants.{Interrupted, WouldBlock, Closed, Other}

-- EINTR, EAGAIN (which is EWOULDBLOCK too) and EPIPE, as Linux numbers them on x86-64
unfoldable pub interrupted : ℕ
interrupted = 4

unfoldable pub would_block : ℕ
would_block = 11

unfoldable pub closed_pipe : ℕ
closed_pipe = 32

-- why a call failed that left this errno
unfoldable pub failure_of : ℤ → Failure
failure_of (negsuc n) = Other
failure_of (pos n) =
    elim (eqb n interrupted) [
      | true ↦ Interrupted
      | false ↦ elim (eqb n would_block) [ true ↦ WouldBlock | false ↦ elim (eqb n closed_pipe) [ true ↦ Closed | false ↦ Other ] ]
    ]

-- whether a signal interrupted it
abbrev pub is_interrupted : Failure → Bool
is_interrupted Interrupted = true
is_interrupted WouldBlock = false
is_interrupted Closed = false
is_interrupted Other = false
