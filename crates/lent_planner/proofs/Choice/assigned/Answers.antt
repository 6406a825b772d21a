use Rattle.std.proofs.Common.{◌≡◌, length, take, get_or, arith, rules, sym, ◌∙◌}
use lib.Seq.{length-take-le}
use Rattle.requests.specs.Devices.{capacity}
use Rattle.requests.proofs.Windows.{length_mapped, take_next}
use Rattle.sessions.specs.Sessions.{vacant, unassigned}
use Rattle.planner.specs.Selections.{planned}
use Rattle.planner.proofs.Arrays.{array_push}
use Rattle.planner.proofs.Assigning.{planned_next, planned_length}
use Rattle.lent_planner.proofs.Choice.assigned.Goals as goal

pub loop-j-preserved : goal.loop-j-preserved
unfolding vacant capacity
loop-j-preserved c =
    let t = c.args.self.now in
    let length-8 : length t.taken ≡ 8 = search (length_mapped, rules) in
    let j = c.loop-j.j in
    let es = take j t.taken in
    let e = get_or t.taken j vacant in
    let n = length-take-le j t.taken (omega arith) in
    let m = sym (planned_length t.plan es ∙ n) in
    rw (c.loop-j.invariant, c.assigned_to.ensures, take_next t.taken j vacant (omega arith), planned_next t.plan j es e n) (array_push 8 unassigned (planned t.plan es) j _ m (omega arith))
