use Rattle.std.proofs.Common.{◌≡◌, ℕ, true, false, Option, refl, sym, ap, ◌∙◌}
use Rattle.std.specs.Prelude.{is_some}
use Rattle.std.proofs.lemmas.Result.{err_from_is_err_and}
use Rattle.requests.specs.declared.Refusal.TheVariants.{BadId, IdNotWaiting}
use Rattle.sessions.specs.Calls.{Drop}
use Rattle.sessions.specs.Table.{outside_ids}
use Rattle.sessions.proofs.TableAnswers.{drop_bad_id, drop_not_waiting}
use Rattle.lent_sessions.specs.Records.{standing}
use Rattle.lent_sessions.specs.BrokenRows.{drops}
use Rattle.lent_planner.proofs.Deciding.{answers_refused, by_table, for_drop, found_is}
use Rattle.lent_planner.proofs.drop.drop_from.Goals as goal

pub returns-in_err-check : goal.returns-in_err-check
returns-in_err-check c =
    let a = c.args in
    let p = err_from_is_err_and c.from_residual.result c.from_residual.ensures.1 in
    rw (p.1, p.2) (answers_refused a.session a.rows.now (Drop a.id) _ (c.in_err-check.ensures a.id a.rows.now refl c.survey-t.ensures (Drop a.id) drops))

pub returns-then-outside_ids : goal.returns-then-outside_ids
returns-then-outside_ids c =
    let a = c.args in
    let d : outside_ids a.id ≡ true = sym c.outside_ids.ensures ∙ c.if-outside_ids.true in
    by_table a.session a.rows.now c.survey-t.result a.id c.survey-t.ensures c.in_ok-check.ensures (Drop a.id) drops BadId (drop_bad_id _ a.session.setup (standing a.rows.now) a.id d)

pub returns-in_default : goal.returns-in_default
returns-in_default c =
    let a = c.args in
    let is = c.survey-t.ensures in
    let ok = c.in_ok-check.ensures in
    let d : outside_ids a.id ≡ false = sym c.outside_ids.ensures ∙ c.if-outside_ids.false in
    let f = found_is a.session a.rows.now c.survey-t.result a.id is ok in
    by_table a.session a.rows.now c.survey-t.result a.id is ok (Drop a.id) drops IdNotWaiting
    (drop_not_waiting _ a.session.setup (standing a.rows.now) a.id d (f ∙ ap (λ (o : Option ℕ). is_some o) c.in_default.is))

pub apply-requires : goal.apply-requires
apply-requires c =
    let a = c.args in
    let d : outside_ids a.id ≡ false = sym c.outside_ids.ensures ∙ c.if-outside_ids.false in
    rw (c.shifted.ensures, c.vacant.ensures) (for_drop a.session a.rows.now c.survey-t.result a.id c.survey-t.ensures c.in_ok-check.ensures d c.in-Some.at c.in-Some.is).fits

pub returns : goal.returns
returns c =
    let a = c.args in
    let d : outside_ids a.id ≡ false = sym c.outside_ids.ensures ∙ c.if-outside_ids.false in
    rw (c.apply.ensures, c.shifted.ensures, c.vacant.ensures)
    (for_drop a.session a.rows.now c.survey-t.result a.id c.survey-t.ensures c.in_ok-check.ensures d c.in-Some.at c.in-Some.is).answers
