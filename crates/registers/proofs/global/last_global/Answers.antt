use Rattle.registers.proofs.GlobalControl.{all_number, last_is}
use Rattle.registers.proofs.global.last_global.Goals as goal

pub returns : goal.returns
returns c = last_is c.args.setup _ (all_number _ _ c.all_counters-all.ensures) _ _ c.first_global.ensures
