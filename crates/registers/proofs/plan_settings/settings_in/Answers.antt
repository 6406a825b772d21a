use mathlib.Core.Path.{ap, ◌∙◌}
use Prim.Native.Nat.{◌-◌, min}
use native.Mathlib.Omega.{arith}
use Rattle.requests.specs.Devices.{capacity}
use Rattle.search.specs.Rows.{request_at}
use Rattle.plans.specs.Packed.{place_at_lem}
use Rattle.registers.specs.Adding.{settings_with}
use Rattle.registers.proofs.PlanSteps.{rows_past, rows_before}
use Rattle.registers.proofs.plan_settings.settings_in.Goals as goal

pub loop-i-init : goal.loop-i-init
unfolding capacity
loop-i-init c =
    let a = c.args in
    (omega arith, rw c.min-i.ensures (c.no_settings-settings.ensures a.setup ∙ rows_past a.setup a.code a.rows.now (min a.count capacity)))

pub loop-i-preserved : goal.loop-i-preserved
loop-i-preserved c =
    let l = c.loop-i in
    let a = c.args in
    let r = request_at a.rows.now (l.i - 1) in (
      omega arith,
      rw (c.add_request.ensures, c.place_at.ensures, c.request_at-request.ensures)
          (ap (settings_with a.setup r (place_at_lem a.code (l.i - 1) r)) l.invariant.1
          ∙ rows_before a.setup a.code a.rows.now (min a.count capacity) l.i c.loop-i-test.true l.invariant.0),
    )
