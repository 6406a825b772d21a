use mathlib.Core.Path.{sym}
use mathlib.Core.List.{[], ◌∷◌}
use Rattle.plans.proofs.PlanTestHolds.{plan_test}
use Rattle.search.proofs.RuledRows.{plan_alike}
use Rattle.planner.proofs.Searching.{plan_alone}
use Rattle.planner.proofs.add.plans_alone.Goals as goal

pub returns-then-counter_alone : goal.returns-then-counter_alone
returns-then-counter_alone c =
    let a = c.args in
    sym (plan_test.planned a.setup (a.request ∷ []) (c.counter_alone.ensures c.if-counter_alone.true))

pub returns-then-has_rules : goal.returns-then-has_rules
returns-then-has_rules c =
    let a = c.args in
    plan_alone a.setup a.request _ _ c.put_request.ensures.rows_after c.put_request.ensures.at_after c.plan_ruled.result (plan_alike a.setup _ _ c.plan_ruled.ensures)

pub returns : goal.returns
returns c =
    let a = c.args in
    plan_alone a.setup a.request _ _ c.put_request.ensures.rows_after c.put_request.ensures.at_after c.plan_unruled.result c.plan_unruled.ensures
