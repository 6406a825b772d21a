use mathlib.Core.Path.{◌≡◌, sym, ◌∙◌}
use native.Mathlib.Omega.{arith}
use lib.ListN.{length, get_or}
use Rattle.requests.specs.Devices.{capacity}
use Rattle.sessions.specs.Sessions.{unassigned, vacant}
use Rattle.planner.specs.Selections.{entries_at, planned}
use Rattle.planner.proofs.Arrays.{array_push}
use Rattle.planner.proofs.Assigning.{entries_length, entries_next, planned_next, planned_length}
use Rattle.planner.proofs.turn.plan_at.Goals as goal

pub loop-j-preserved : goal.loop-j-preserved
unfolding vacant capacity
loop-j-preserved c =
    let a = c.args in
    let j = c.loop-j.j in
    let q = a.queue.now in
    let es = entries_at q j a.places.now in
    let e = get_or q (get_or a.places.now j 0) vacant in
    let n = entries_length q j a.places.now (omega arith) in
    let m : j ≡ length (planned a.code es) = sym (planned_length a.code es ∙ n) in
    rw (c.loop-j.invariant, c.assigned_to.ensures, entries_next q j a.places.now (omega arith), planned_next a.code j es e n)
    (array_push 8 unassigned (planned a.code es) j _ m (omega arith))
