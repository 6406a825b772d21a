use Rattle.lent_planner.proofs.MovingSteps.{Reading, moving_start, reading_anew, reading_on, moving_next, moving_done}
use Rattle.lent_planner.proofs.Change.apply.Goals as goal
use Rattle.lent_planner.proofs.Change.apply.Goals.{then-stop-i, else-stop-i}

pub loop-i-init : goal.loop-i-init
loop-i-init c = moving_start c.args.self.now c.args.rows.now

pub loop-i-preserved : goal.loop-i-preserved
loop-i-preserved c =
    let change = c.args.self.now in
    let reading : Reading change c.args.rows.now c.loop-i.i c.if-stop-i.k c.if-stop-i.stop = elim c.if-stop-i.branch [
      | then-stop-i w ↦ rw (w.k-is, w.stop-is, w.ahead-k.ensures.value, w.stretch.ensures.value) (reading_anew change c.args.rows.now c.loop-i.i (rw w.ahead-k.ensures.value at w.ahead-k.ensures.upper_bound))
      | else-stop-i w ↦ rw (w.k-is, w.stop-is) (reading_on change c.args.rows.now c.loop-i.invariant w.if-stop-i.false)
    ] in
    rw c.read_at.ensures (moving_next change c.args.rows.now c.loop-i.invariant reading c.loop-i-test.true)

pub returns : goal.returns
returns c = moving_done c.args.self.now c.args.rows.now c.loop-i.invariant c.loop-i-test.false
