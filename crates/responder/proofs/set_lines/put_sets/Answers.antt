use native.Mathlib.Omega.{arith}
use Rattle.responder.proofs.Putting.{put_length, then}
use Rattle.responder.proofs.LineTexts.{sets_next, sets_length}
use Rattle.responder.proofs.set_lines.put_sets.Goals as goal

pub put_set-next-requires : goal.put_set-next-requires
put_set-next-requires c = omega (arith, put_length c.loop-i.invariant, sets_length c.args.list.now c.loop-i.i)

pub loop-i-preserved : goal.loop-i-preserved
loop-i-preserved c =
    let l = c.loop-i in
    let w = c.args.list.now in
    rw (sets_next l.i w (omega arith)) (then l.invariant c.put_set-next.ensures)
