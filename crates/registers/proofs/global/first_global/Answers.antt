use Rattle.registers.proofs.GlobalControl.{all_number, first_is}
use Rattle.registers.proofs.global.first_global.Goals as goal

pub returns : goal.returns
returns c = first_is c.args.setup _ (all_number _ _ c.all_counters-all.ensures) _ c.fixed_enables.ensures
