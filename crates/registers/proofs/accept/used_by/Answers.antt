use mathlib.Core.Path.{◌∙◌}
use mathlib.Core.Bool.{not}
use Prim.Native.Nat.{◌-◌}
use native.Mathlib.Omega.{arith}
use lib.Dec.{eqb}
use lib.ListN.{get_or}
use Rattle.requests.specs.Devices.{counter_count, capacity}
use Rattle.plans.proofs.PlanLengthHolds.{plan_length}
use Rattle.registers.proofs.Accepting.{set_bound, set_before, flag}
use Rattle.registers.proofs.WriteLengths.{pick_small}
use Rattle.registers.proofs.accept.used_by.Goals as goal

pub offset_bounds-words-counter : goal.offset_bounds-words-counter
unfolding capacity
offset_bounds-words-counter c =
    let small = plan_length.device_at_most c.args.device in
    omega (arith, c.counter_count-counter.ensures)

pub bounds-words-counter : goal.bounds-words-counter
unfolding capacity
bounds-words-counter c =
    let small = plan_length.device_at_most c.args.device in
    omega (arith, c.counter_count-counter.ensures)

pub overflow_mul-bits : goal.overflow_mul-bits
overflow_mul-bits c =
    let l = c.loop-counter in
    let a = c.args in
    omega (arith, set_bound (counter_count a.device) l.counter l.bits (λ k. not (eqb (get_or a.words.now k 0) 0)) (plan_length.device_at_most a.device) l.invariant)

pub overflow_add-bits : goal.overflow_add-bits
overflow_add-bits c =
    let l = c.loop-counter in
    let a = c.args in
    omega (
      arith,
      set_bound (counter_count a.device) l.counter l.bits (λ k. not (eqb (get_or a.words.now k 0) 0)) (plan_length.device_at_most a.device) l.invariant,
      c.from.ensures ∙ flag _,
      pick_small (not (eqb (get_or a.words.now (l.counter - 1) 0) 0)),
    )

pub loop-counter-preserved : goal.loop-counter-preserved
loop-counter-preserved c =
    let l = c.loop-counter in
    let a = c.args in
    set_before (counter_count a.device) l.counter l.bits c.from.result (λ k. not (eqb (get_or a.words.now k 0) 0)) c.loop-counter-test.true
    (omega (arith, c.counter_count-counter.ensures)) l.invariant (c.from.ensures ∙ flag _)
