use native.Mathlib.Omega.{arith}
use lib.ListN.{length-append}
use Rattle.sessions.specs.Sessions.{session_of}
use Rattle.planner.specs.Selections.{entries_at, session_chosen}
use Rattle.planner.proofs.Assigning.{entries_length}
use Rattle.planner.proofs.requeue.requeued.Goals as goal

pub returns : goal.returns
unfolding session_chosen session_of entries_at
returns c =
    let a = c.args in
    let q = a.session.queue in
    let front = entries_length q a.chosen.rest a.passed.now (omega (arith, c.requires.passed_size, c.requires.all)) in
    let back = entries_length q a.chosen.count a.taken.now (omega (arith, c.requires.taken_size, c.requires.few)) in
    rw (c.requeue.ensures, length-append, front, back)
