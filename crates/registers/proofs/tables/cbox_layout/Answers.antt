use native.Mathlib.Omega.{arith}
use Rattle.layouts.proofs.DeviceFacts.{cbox_range}
use Rattle.registers.proofs.tables.cbox_layout.Goals as goal

pub overflow_add-result : goal.overflow_add-result
overflow_add-result c = omega (arith, c.cbox_global-global.ensures, (cbox_range c.args.cbox).1)

pub overflow_add-result-2 : goal.overflow_add-result-2
overflow_add-result-2 c = omega (arith, c.cbox_global-global.ensures, (cbox_range c.args.cbox).1)
