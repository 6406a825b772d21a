use mathlib.Core.Path.{sym, ◌∙◌}
use native.Mathlib.Omega.{arith}
use Rattle.sessions.specs.Sessions.{vacant}
use Rattle.planner.proofs.Queues.{closed_first, closed_with, closed_without}
use Rattle.queue_rows.proofs.Places.{queue_length, id_is}
use Rattle.queue_rows.proofs.drop.close_up.Goals as goal
use Rattle.queue_rows.proofs.drop.close_up.Goals.{then-id-here, else-id-here}

pub loop-i-init : goal.loop-i-init
loop-i-init c =
    let a = c.args in
    let few = c.requires.n_bound in
    let within = c.requires.at_in_bounds in
    (few, c.requires.sized, within, closed_first c.requires.kept (omega (arith, queue_length a.ids.now a.rows.now)))

pub loop-i-preserved : goal.loop-i-preserved
loop-i-preserved c =
    let l = c.loop-i in
    let v = l.invariant in
    let a = c.args in
    let inside = queue_length a.ids.now a.rows.now in
    let is = id_is l.ids l.rows l.i (omega arith) in
    elim c.if-id-here.branch [
      | then-id-here w ↦
          rw (w.ids-is, w.rows-is, w.len-is) (
            v.0,
            w.copy_entry.ensures.size,
            omega arith,
            rw w.copy_entry.ensures.queue (closed_with v.3 vacant (omega arith) (λ e. w.if-id-here.true (e ∙ is))),
          )
      | else-id-here w ↦
          rw (w.ids-is, w.rows-is, w.len-is) (v.0, v.1, omega arith, closed_without v.3 vacant (omega arith) (w.if-id-here.false ∙ sym is))
    ]
