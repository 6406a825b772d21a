use Rattle.sessions.specs.Sessions.{vacant}
use Rattle.lent_planner.proofs.ChoiceLaws.{passed_over}
use Rattle.lent_planner.proofs.SelectSteps.{far_next, far_vacant, far_full, far_end}
use Rattle.lent_planner.proofs.choose.select.Goals as goal
use Rattle.lent_planner.proofs.choose.select.Goals.{then-not-leaves_none, else-not-leaves_none, then-e-eq0-via-then-e-eq0, then-e-eq0-via-else-e-eq0+then-t}

pub loop-i-preserved : goal.loop-i-preserved
unfolding vacant
loop-i-preserved c =
    far_next c.args.setup c.args.rows.now c.loop-i.i c.loop-i.t c.loop-i.invariant c.loop-i-test.true c.if-not-leaves_none.t c.if-e-eq0.false (elim c.if-not-leaves_none.branch [
      | then-not-leaves_none w ↦ rw w.t-is w.choose.ensures
      | else-not-leaves_none w ↦ rw w.t-is (passed_over c.loop-i.t c.loop-i.i _ (c.leaves_none.ensures w.if-not-leaves_none.false))
    ])

pub returns-then-e-eq0 : goal.returns-then-e-eq0
unfolding vacant
returns-then-e-eq0 c = elim c.then-e-eq0.branch [
  | then-e-eq0-via-then-e-eq0 w ↦ far_vacant c.args.setup c.args.rows.now c.loop-i.i c.loop-i.t c.loop-i.invariant c.loop-i-test.true w.if-e-eq0.true
  | then-e-eq0-via-else-e-eq0+then-t w ↦ far_full c.args.setup c.args.rows.now c.loop-i.i c.loop-i.t c.loop-i.invariant w.if-t.true
]

pub returns-after-loop-i : goal.returns-after-loop-i
returns-after-loop-i c = far_end c.args.setup c.args.rows.now c.loop-i.i c.loop-i.t c.loop-i.invariant c.loop-i-test.false
