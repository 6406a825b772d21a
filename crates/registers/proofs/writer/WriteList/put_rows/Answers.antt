use mathlib.Core.Path.{sym, ◌∙◌}
use native.Mathlib.Omega.{arith}
use Rattle.requests.specs.Devices.{capacity}
use Rattle.layouts.specs.Writes.{rows}
use Rattle.registers.proofs.Appending.{rows_with, rows_without, rows_room, puts_none}
use Rattle.registers.proofs.writer.WriteList.put_rows.Goals as goal
use Rattle.registers.proofs.writer.WriteList.put_rows.Goals.{then-has, else-has}

pub loop-counter-init : goal.loop-counter-init
unfolding rows capacity
loop-counter-init c = (puts_none _, omega arith, omega arith, omega arith)

pub put-requires : goal.put-requires
put-requires c =
    let l = c.loop-counter in
    let a = c.args in
    rows_room a.set a.bank.base a.bank.step a.values.now a.bank.count l.counter (sym c.has.ensures ∙ c.if-has.true) c.loop-counter-test.true c.requires.0 l.invariant.0

pub loop-counter-preserved : goal.loop-counter-preserved
loop-counter-preserved c =
    let l = c.loop-counter in
    let v = c.loop-counter.invariant in
    let a = c.args in
    elim c.if-has.branch [
      | then-has w ↦ rw w.self-is
          (rows_with a.set a.bank.base a.bank.step a.values.now l.counter (sym c.has.ensures ∙ w.if-has.true) v.0 w.put.ensures, v.1, v.2, v.3)
      | else-has w ↦ rw w.self-is
          (rows_without a.set a.bank.base a.bank.step a.values.now l.counter (sym c.has.ensures ∙ w.if-has.false) v.0, v.1, v.2, v.3)
    ]
