use Rattle.search.specs.Rows.{rows_from}
use Rattle.search.proofs.RuledRows.{plan_alike}
use Rattle.search.proofs.plan_rows.plan_rows.Goals as goal

pub returns-then-has_rules : goal.returns-then-has_rules
returns-then-has_rules c =
    let a = c.args in
    plan_alike a.setup (rows_from a.rows.now 0 a.count) _ c.plan_ruled.ensures
