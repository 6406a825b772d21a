use Rattle.sessions.specs.Calls.{Drop}
use Rattle.lent_planner.proofs.Deciding.{with_session, drop_stays}
use Rattle.lent_planner.proofs.drop.drop_request.Goals as goal

pub returns : goal.returns
returns c =
    let a = c.args in
    with_session a.session a.rows.now (Drop a.id) c.drop_from-answer.result c.drop_from-answer.new.rows (drop_stays a.session a.rows.now a.id) c.drop_from-answer.ensures
