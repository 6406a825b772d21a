use Prim.Native.Nat.{◌≤◌}
use lib.ListN.{length}
use Rattle.planner.proofs.Queues.{ClosedUp}
use Rattle.planner.proofs.drop.close_up.Given as goal

abbrev pub invariant-loop-i : goal.invariant-loop-i
invariant-loop-i l = (l.i ≤ length l.initial.queue) × ClosedUp l.initial.queue l.queue l.id l.i l.len
