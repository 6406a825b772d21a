use Prim.Native.Nat.{◌-◌}
use lib.ListN.{length}
use Rattle.queue_rows.specs.Rows.{Sized}
use Rattle.queue_rows.specs.Heads.{session_in}
use Rattle.lines.specs.Pieces.{state_of}
use Rattle.lines.proofs.Feeding.{FedSoFar}
use Rattle.lines.proofs.stream.feed.Given as goal

abbrev pub invariant-loop-taken : goal.invariant-loop-taken
invariant-loop-taken l =
    Sized l.ids l.rows
    × FedSoFar (record { site = l.site; house = l.house }) (state_of (session_in l.initial.head l.initial.ids l.initial.rows) l.initial.kept l.initial.used l.initial.long) l.block l.initial.out (state_of (session_in l.head l.ids l.rows) l.kept l.used l.long) l.taken l.written l.out

abbrev pub decreases-loop-taken : goal.decreases-loop-taken
decreases-loop-taken l = length l.block - l.taken
