use Rattle.registers.proofs.GlobalControl.{fixed_is}
use Rattle.registers.proofs.global.fixed_enables.Goals as goal

pub returns : goal.returns
returns c = fixed_is c.args.setup _ c.all_fixed.ensures
