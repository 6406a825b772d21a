use Rattle.std.proofs.Common.{refl, arith}
use Rattle.std.proofs.lemmas.Result.{err_from_is_err_and}
use Rattle.requests.specs.Devices.{capacity}
use Rattle.lent_sessions.specs.BrokenRows.{turns}
use Rattle.lent_planner.proofs.TurnDeciding.{turn_wrote}
use Rattle.lent_planner.proofs.turn.write_turn.Goals as goal

pub returns-in_err-check : goal.returns-in_err-check
returns-in_err-check c =
    let p = err_from_is_err_and c.from_residual.result c.from_residual.ensures.1 in
    let h = c.in_err-check.ensures in
    rw (p.1, p.2) (λ rows len is ch. (h 0 rows len is _ turns, refl))

pub returns : goal.returns
unfolding capacity
returns c =
    let few = c.requires in
    let a = c.args in
    turn_wrote a.session a.n a.s.now a.t.now a.out.now c.write_list.new.out c.in_ok-check.ensures c.settings_in-settings.result _ (omega arith) c.settings_in-settings.ensures _ c.write_list.ensures
