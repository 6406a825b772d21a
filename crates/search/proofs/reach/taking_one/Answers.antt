use mathlib.Core.Path.{sym, ◌∙◌}
use Rattle.search.proofs.LoopSteps.{taking_on, taking_off}
use Rattle.search.proofs.reach.taking_one.Goals as goal
use Rattle.search.proofs.reach.taking_one.Goals.{then-has, else-has}

pub loop-k-preserved : goal.loop-k-preserved
loop-k-preserved c =
    let a = c.args in
    let l = c.loop-k in
    elim c.if-has.branch [
      | then-has w ↦ rw (w.left-is, w.taking-left.ensures) (taking_on l.k l.left a.allowed a.sets (sym c.has.ensures ∙ w.if-has.true) l.invariant)
      | else-has w ↦ rw w.left-is (taking_off l.k l.left a.allowed a.sets (sym c.has.ensures ∙ w.if-has.false) l.invariant)
    ]
