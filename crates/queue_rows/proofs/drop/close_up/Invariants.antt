use Prim.Native.Nat.{◌≤◌}
use Rattle.planner.proofs.Queues.{ClosedUp}
use Rattle.queue_rows.specs.Rows.{Sized, queue_in}
use Rattle.queue_rows.proofs.drop.close_up.Given as goal

abbrev pub invariant-loop-i : goal.invariant-loop-i
invariant-loop-i l = (l.n ≤ 16) × Sized l.ids l.rows × (l.i ≤ l.n) × ClosedUp (queue_in l.initial.ids l.initial.rows) (queue_in l.ids l.rows) l.id l.i l.len
