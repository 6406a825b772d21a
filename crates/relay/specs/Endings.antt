-- How the lines of an input ended, and the exit status of each ending.
use Rattle.std.specs.Prelude.{ℕ}
use Rattle.descriptors.specs.declared.Reading.{Reading}
use Rattle.descriptors.specs.declared.Next.{Next}
use Rattle.relay.specs.declared.Ending.{Ending}
use Rattle.relay.specs.declared.Ending.TheVariants.{Complete, Closed, Failed, Refused}

-- the last read and the last write: only an input that was read to its end leaves what the write leaves
abbrev pub last_of : Reading → Next → Next
last_of (Reading.Bytes n) next = Next.Failed
last_of Reading.End next = next
last_of Reading.Again next = Next.Failed
last_of Reading.Wait next = Next.Failed
last_of Reading.Failed next = Next.Failed

-- the ending that it leaves; what is neither complete nor closed is a failure
abbrev pub ending_of : Next → Ending
ending_of Next.Go = Failed
ending_of Next.Wait = Failed
ending_of Next.Complete = Complete
ending_of Next.Closed = Closed
ending_of Next.Failed = Failed
ending_of Next.Stuck = Failed

-- its exit status: a closed pipe's is that of a program that the system ends for it (128 and SIGPIPE's number)
abbrev pub status_of : Ending → ℕ
status_of Complete = 0
status_of Closed = 141
status_of Failed = 1
status_of Refused = 1
