use Rattle.std.proofs.Common.{refl, sym, ◌∙◌}
use Rattle.sessions.specs.Calls.{Open}
use Rattle.lent_planner.proofs.Deciding.{open_refused, open_accepted}
use Rattle.lent_planner.proofs.open.open.Goals as goal

pub returns-in-Ok : goal.returns-in-Ok
returns-in-Ok c =
    let a = c.args in
    let h = c.in-Ok.ensures a.rows.now refl in
    let filled = c.fill.ensures.after (λ y same. same) in
    open_accepted a.session a.rows.now (Open a.opening) _ c.fill.new.self h.0 h.1 (rw c.vacant.ensures at filled ∙ sym h.2)

pub returns-in-Err : goal.returns-in-Err
returns-in-Err c =
    let a = c.args in
    open_refused a.session a.rows.now (Open a.opening) _ (c.in-Err.ensures a.rows.now refl)
