use native.Mathlib.Omega.{arith}
use Rattle.planner.proofs.Queues.{closed_first, closed_with, closed_without, closed_last}
use Rattle.planner.proofs.drop.close_up.Goals as goal
use Rattle.planner.proofs.drop.close_up.Goals.{then-id-entry, else-id-entry}

pub loop-i-init : goal.loop-i-init
loop-i-init c = (c.requires.at_in_bounds, closed_first c.requires.kept c.requires.at_in_bounds)

pub loop-i-preserved : goal.loop-i-preserved
loop-i-preserved c =
    let v = c.loop-i.invariant in
    elim c.if-id-entry.branch [
      | then-id-entry w ↦ rw (w.queue-is, w.len-is) (omega arith, closed_with v.1 _ (omega arith) w.if-id-entry.true)
      | else-id-entry w ↦ rw (w.queue-is, w.len-is) (omega arith, closed_without v.1 _ (omega arith) w.if-id-entry.false)
    ]

pub returns : goal.returns
returns c =
    let closed = c.loop-i.invariant.1 in
    let t = closed_last closed (omega arith) in
    record { len = closed.size; count = t.0; front = t.1 }
