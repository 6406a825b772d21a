use Rattle.std.proofs.Common.{refl}
use Rattle.std.proofs.lemmas.Result.{err_from_is_err_and}
use Rattle.sessions.specs.Calls.{Add}
use Rattle.lent_sessions.specs.BrokenRows.{adds}
use Rattle.lent_planner.proofs.Deciding.{answers_refused, add_refused, for_add}
use Rattle.lent_planner.proofs.add.add_to.Goals as goal

pub returns-in_err-check : goal.returns-in_err-check
returns-in_err-check c =
    let a = c.args in
    let p = err_from_is_err_and c.from_residual.result c.from_residual.ensures.1 in
    rw (p.1, p.2) (answers_refused a.session a.rows.now (Add a.id a.request) _ (c.in_err-check.ensures a.id a.rows.now refl c.survey-t.ensures (Add a.id a.request) adds))

pub returns-in_err-check_add : goal.returns-in_err-check_add
returns-in_err-check_add c =
    let a = c.args in
    let p = err_from_is_err_and c.from_residual-in_err-check_add.result c.from_residual-in_err-check_add.ensures.1 in
    rw (p.1, p.2) (add_refused a.session a.rows.now c.survey-t.result a.id c.survey-t.ensures c.in_ok-check.ensures a.request _ c.in_err-check_add.ensures)

pub apply-requires : goal.apply-requires
apply-requires c =
    let a = c.args in
    rw c.shifted.ensures (for_add a.session a.rows.now c.survey-t.result a.id c.survey-t.ensures c.in_ok-check.ensures a.request c.in_ok-check_add.ensures).fits

pub returns : goal.returns
returns c =
    let a = c.args in
    rw (c.apply.ensures, c.shifted.ensures) (for_add a.session a.rows.now c.survey-t.result a.id c.survey-t.ensures c.in_ok-check.ensures a.request c.in_ok-check_add.ensures).answers
