use native.Mathlib.Omega.{arith}
use Rattle.layouts.proofs.DeviceFacts.{facts}
use Rattle.registers.proofs.tables.enabled_bits.Goals as goal

pub overflow_add-result : goal.overflow_add-result
overflow_add-result c = omega (arith, c.enabled_on-bits.ensures, (facts c.args.setup.device).enabled_small)
