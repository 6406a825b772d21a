use mathlib.Core.Path.{ap, ◌∙◌}
use native.Mathlib.Omega.{arith}
use Rattle.registers.specs.Adding.{settings_with}
use Rattle.registers.proofs.PlanSteps.{settings_before}
use Rattle.registers.proofs.plan_settings.settings_of.Goals as goal

pub loop-i-preserved : goal.loop-i-preserved
loop-i-preserved c =
    let l = c.loop-i in
    let a = c.args in (
      l.invariant.0,
      l.invariant.1,
      omega arith,
      c.add_request.ensures
          ∙ ap (settings_with a.setup _ _) l.invariant.3
          ∙ settings_before a.setup a.count a.requests a.places l.i _ _ c.loop-i-test.true (omega arith) (omega arith) (omega arith),
    )
