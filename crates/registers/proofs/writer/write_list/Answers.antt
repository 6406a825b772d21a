use native.Mathlib.Omega.{arith}
use Rattle.registers.proofs.WriteLengths.{writes_small, wrote_nothing, wrote_list}
use Rattle.registers.proofs.writer.write_list.Goals as goal

pub overflow_mul-count : goal.overflow_mul-count
overflow_mul-count c = omega (arith, c.write_count-count.ensures, writes_small c.args.setup c.args.settings)

pub returns-then-out-count : goal.returns-then-out-count
returns-then-out-count c = wrote_nothing _ c.write_count-count.ensures c.if-out-count.true

pub returns : goal.returns
returns c = wrote_list c.write_count-count.ensures c.if-out-count.false c.put_list.ensures
