use Rattle.sessions.specs.Calls.{Add}
use Rattle.lent_planner.proofs.Deciding.{with_session, add_stays}
use Rattle.lent_planner.proofs.add.add.Goals as goal

pub returns : goal.returns
returns c =
    let a = c.args in
    with_session a.session a.rows.now (Add a.id a.request) c.add_to-answer.result c.add_to-answer.new.rows (add_stays a.session a.rows.now a.id a.request) c.add_to-answer.ensures
