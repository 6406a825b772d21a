use native.Mathlib.Omega.{arith}
use Rattle.layouts.proofs.EnableBits.{enables}
use Rattle.registers.proofs.tables.event_word.Goals as goal

pub overflow_add-result : goal.overflow_add-result
overflow_add-result c = omega (arith, c.enabled_bits.ensures, (enables c.args.setup).small)

pub overflow_add-result-2 : goal.overflow_add-result-2
overflow_add-result-2 c = omega (arith, c.enabled_bits.ensures, (enables c.args.setup).small)
