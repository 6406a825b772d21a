use mathlib.Core.Path.{◌≡◌, sym, ◌∙◌}
use mathlib.Core.Bool.{false}
use Prim.Native.Nat.{◌<◌}
use native.Mathlib.Nat.{one-mul}
use native.Mathlib.Omega.{arith}
use lib.Dec.{lit<}
use lib.Pow.{shl_exact}
use Rattle.requests.specs.Devices.{has, counter_count}
use Rattle.registers.proofs.UsedCounters.{with_new, with_old, with_foreign, with_fits, counter_below}
use Rattle.registers.proofs.plan_settings.with_counter.Goals as goal
use Rattle.registers.proofs.plan_settings.with_counter.Goals.{else-counter-counter_count-via-then-counter-counter_count+else-not-has, else-counter-counter_count-via-else-counter-counter_count}

pub overflow_shl-result : goal.overflow_shl-result
overflow_shl-result c = counter_below c.args.device c.args.counter (rw (← c.counter_count.ensures) c.if-counter-counter_count.true)

pub overflow_add-result : goal.overflow_add-result
overflow_add-result c =
    let a = c.args in
    let below : a.counter < 64 = counter_below a.device a.counter (rw (← c.counter_count.ensures) c.if-counter-counter_count.true) in
    let off : has a.used a.counter ≡ false = sym c.has.ensures ∙ c.if-not-has.true in
    rw (shl_exact 1 a.counter 64 (lit< tt) (omega arith) ∙ one-mul _) (record { fits = with_fits a.used a.counter (omega arith) below off })

pub returns-then-not-has : goal.returns-then-not-has
returns-then-not-has c =
    let a = c.args in
    let owned : a.counter < counter_count a.device = rw (← c.counter_count.ensures) c.if-counter-counter_count.true in
    let off : has a.used a.counter ≡ false = sym c.has.ensures ∙ c.if-not-has.true in
    rw (shl_exact 1 a.counter 64 (lit< tt) (omega (arith, counter_below a.device a.counter owned)) ∙ one-mul _) (with_new a.device a.counter a.used owned off)

pub returns-else-counter-counter_count : goal.returns-else-counter-counter_count
returns-else-counter-counter_count c =
    let a = c.args in
    elim c.else-counter-counter_count.branch [
      | else-counter-counter_count-via-then-counter-counter_count+else-not-has w ↦
          with_old a.device a.counter a.used (rw (← c.counter_count.ensures) w.if-counter-counter_count.true) (sym w.has.ensures ∙ w.if-not-has.false)
      | else-counter-counter_count-via-else-counter-counter_count w ↦
          with_foreign a.device a.counter a.used (rw (← c.counter_count.ensures) w.if-counter-counter_count.false)
    ]
