use Prim.Native.Nat.{◌≤◌}
use Rattle.layouts.specs.Writes.{rows}
use Rattle.registers.specs.WriteLists.{Puts}
use Rattle.registers.proofs.writer.WriteList.put_rows.Given as goal

abbrev pub invariant-loop-counter : goal.invariant-loop-counter
invariant-loop-counter l =
    Puts l.initial.self (rows l.counter l.set l.bank.base l.bank.step l.values) l.self × (l.bank.count ≤ 8) × (l.bank.base ≤ 0xFFFF) × (l.bank.step ≤ 2)
