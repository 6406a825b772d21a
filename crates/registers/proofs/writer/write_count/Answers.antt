use native.Mathlib.Omega.{arith}
use Rattle.registers.proofs.WriteLengths.{length_writes}
use Rattle.registers.proofs.writer.write_count.Goals as goal

pub returns : goal.returns
returns c =
    let a = c.args in
    let sized = rw c.counter_count-count.ensures at c.size_of.ensures in
    let used = rw c.counter_count-count.ensures at c.size_of-2.ensures in
    omega (arith, sized, used, c.extra_count.ensures, c.ubox_count.ensures, length_writes a.setup a.settings)
