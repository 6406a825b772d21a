use Rattle.search.proofs.LoopSteps.{step_fits}
use Rattle.search.proofs.reach.taking.Goals as goal

pub overflow_shr-result : goal.overflow_shr-result
overflow_shr-result c = step_fits c.args.k c.requires
