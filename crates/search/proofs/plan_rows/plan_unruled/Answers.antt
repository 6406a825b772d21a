use Rattle.requests.proofs.RuledEvents.{ruled_events}
use Rattle.search.specs.Rows.{rows_from}
use Rattle.search.proofs.RuledRows.{plan_unruled}
use Rattle.search.proofs.plan_rows.plan_unruled.Goals as goal

pub returns : goal.returns
returns c =
    let a = c.args in
    plan_unruled a.setup (rows_from a.rows.now 0 a.count) ((ruled_events.unruled a.setup.device).0 c.requires.1) _ c.search_rows.ensures
