use Rattle.search.specs.Counters.{with_counters}
use Rattle.search.specs.Rows.{rows_from}
use Rattle.search.proofs.RuledRows.{plan_unkept, plan_kept}
use Rattle.std.proofs.Common.{ap}
use Rattle.std.specs.Prelude.{not}
use Rattle.search.proofs.plan_rows.plan_ruled.Goals as goal

pub returns-then-not-quiet_kept : goal.returns-then-not-quiet_kept
returns-then-not-quiet_kept c =
    let a = c.args in
    plan_unkept (with_counters a.device a.usable) (rows_from a.rows.now 0 a.count) c.quiet_kept.result c.quiet_kept.ensures (ap not c.if-not-quiet_kept.true)

pub returns : goal.returns
returns c =
    let a = c.args in
    let kept = c.quiet_kept in
    plan_kept (with_counters a.device a.usable) (rows_from a.rows.now 0 a.count) kept.result kept.ensures (ap not c.if-not-quiet_kept.false) _ c.narrow_rows.ensures _ c.search_rows.ensures
