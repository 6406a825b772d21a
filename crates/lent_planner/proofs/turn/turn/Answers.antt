use Rattle.std.proofs.Common.{refl}
use Rattle.lent_planner.proofs.TurnDeciding.{turn_refuses}
use Rattle.lent_planner.proofs.turn.turn.Goals as goal

pub returns-in-Err : goal.returns-in-Err
returns-in-Err c =
    let a = c.args in
    let h = c.in-Err.ensures a.rows.now refl c.survey-s.ensures c.select-t.ensures in
    rw c.turn_refused.ensures (turn_refuses a.session a.rows.now a.out.now c.write_turn.new.out _ h.0 h.1)
