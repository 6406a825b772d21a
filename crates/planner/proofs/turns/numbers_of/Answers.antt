use mathlib.Core.Path.{ap, ◌∙◌}
use Prim.Native.Nat.{min}
use native.Mathlib.Omega.{arith}
use lib.ListN.{length}
use Rattle.requests.specs.Devices.{capacity}
use Rattle.sessions.specs.Table.{turns_limit}
use Rattle.planner.proofs.Turning.{chosen_writes, chosen_session}
use Rattle.planner.proofs.TakingTurns.{counted_none, counted_next, counted_all}
use Rattle.planner.proofs.turns.numbers_of.Goals as goal

pub loop-init : goal.loop-init
loop-init c = counted_none c.args.session c.args.n

pub overflow_mul-numbers : goal.overflow_mul-numbers
unfolding turns_limit capacity
overflow_mul-numbers c =
    let counted =
    counted_next c.loop.invariant (omega arith) (c.requeued-next.ensures ∙ chosen_session c.loop.next c.select-chosen.ensures)
    (c.write_count.ensures ∙ ap length (chosen_writes c.loop.next c.select-chosen.ensures _ (min c.select-chosen.result.count 8) (let few = c.select-chosen.ensures.within.few in omega arith) c.settings_in-settings.ensures)) in
    omega (arith, counted.small, counted.sum, c.requires)

pub overflow_add-numbers : goal.overflow_add-numbers
unfolding turns_limit capacity
overflow_add-numbers c =
    let counted =
    counted_next c.loop.invariant (omega arith) (c.requeued-next.ensures ∙ chosen_session c.loop.next c.select-chosen.ensures)
    (c.write_count.ensures ∙ ap length (chosen_writes c.loop.next c.select-chosen.ensures _ (min c.select-chosen.result.count 8) (let few = c.select-chosen.ensures.within.few in omega arith) c.settings_in-settings.ensures)) in
    omega (arith, counted.small, counted.sum, c.requires)

pub loop-preserved : goal.loop-preserved
unfolding capacity
loop-preserved c =
    let choice = c.select-chosen.result in
    let few = c.select-chosen.ensures.within.few in
    counted_next c.loop.invariant (omega arith) (c.requeued-next.ensures ∙ chosen_session c.loop.next c.select-chosen.ensures)
    (c.write_count.ensures ∙ ap length (chosen_writes c.loop.next c.select-chosen.ensures _ (min choice.count 8) (omega arith) c.settings_in-settings.ensures))

pub returns : goal.returns
returns c = counted_all c.loop.invariant (omega arith)
