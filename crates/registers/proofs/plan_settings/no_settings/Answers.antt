use Rattle.registers.proofs.PlanSteps.{settings_none}
use Rattle.registers.proofs.plan_settings.no_settings.Goals as goal

pub returns : goal.returns
returns c = λ s. settings_none s
