use Rattle.std.proofs.Common.{◌≡◌, ◌∷◌, [], true, false, length, sym, ◌∙◌, arith}
use Rattle.std.proofs.lemmas.Result.{err_from_is_err_and}
use borrow.Author.Tests.{le-leb, lt-leb}
use Rattle.requests.specs.Checks.{request_refusal}
use Rattle.plans.specs.Search.{has_plan_lem}
use Rattle.sessions.specs.Table.{outside_ids}
use Rattle.sessions.proofs.TableAnswers.{add_bad_id, add_waiting, add_ill_formed, add_no_plan, add_full, add_accepted}
use Rattle.requests.proofs.AnswerTests.{answer_none, answer_some}
use Rattle.lent_planner.proofs.add.check_add.Goals as goal

pub returns-then-outside_ids : goal.returns-then-outside_ids
returns-then-outside_ids c q w l =
    let a = c.args in
    let d : outside_ids a.id ≡ true = sym c.outside_ids.ensures ∙ c.if-outside_ids.true in
    add_bad_id a.n a.setup q a.id a.request d

pub returns-then-is_some : goal.returns-then-is_some
returns-then-is_some c q w l =
    let a = c.args in
    let d : outside_ids a.id ≡ false = sym c.outside_ids.ensures ∙ c.if-outside_ids.false in
    add_waiting a.n a.setup q a.id a.request d (w ∙ sym c.is_some.ensures ∙ c.if-is_some.true)

pub returns-in_err-request_refusal : goal.returns-in_err-request_refusal
returns-in_err-request_refusal c =
    let a = c.args in
    let d : outside_ids a.id ≡ false = sym c.outside_ids.ensures ∙ c.if-outside_ids.false in
    let e = answer_some (request_refusal a.setup a.request) _ (sym c.request_refusal.ensures ∙ c.in_err-request_refusal.was) in
    let p = err_from_is_err_and c.from_residual.result c.from_residual.ensures.1 in
    rw (p.1, p.2) (λ q w l. add_ill_formed a.n a.setup q a.id a.request d (w ∙ sym c.is_some.ensures ∙ c.if-is_some.false) _ e)

pub returns-then-not-plans_alone : goal.returns-then-not-plans_alone
returns-then-not-plans_alone c q w l =
    let a = c.args in
    let d : outside_ids a.id ≡ false = sym c.outside_ids.ensures ∙ c.if-outside_ids.false in
    let e = answer_none (request_refusal a.setup a.request) (sym c.request_refusal.ensures ∙ c.in_ok-request_refusal.was) in
    let h : has_plan_lem a.setup (a.request ∷ []) ≡ false = sym c.plans_alone.ensures ∙ c.if-not-plans_alone.true in
    add_no_plan a.n a.setup q a.id a.request d (w ∙ sym c.is_some.ensures ∙ c.if-is_some.false) e h

pub returns-then-n-t : goal.returns-then-n-t
returns-then-n-t c q w l =
    let a = c.args in
    let d : outside_ids a.id ≡ false = sym c.outside_ids.ensures ∙ c.if-outside_ids.false in
    let e = answer_none (request_refusal a.setup a.request) (sym c.request_refusal.ensures ∙ c.in_ok-request_refusal.was) in
    let h : has_plan_lem a.setup (a.request ∷ []) ≡ true = sym c.plans_alone.ensures ∙ c.if-not-plans_alone.false in
    add_full a.n a.setup q a.id a.request d (w ∙ sym c.is_some.ensures ∙ c.if-is_some.false) e h (le-leb a.n (length q) (omega (arith, l, c.if-n-t.true)))

pub returns : goal.returns
returns c =
    let a = c.args in
    let d : outside_ids a.id ≡ false = sym c.outside_ids.ensures ∙ c.if-outside_ids.false in
    let e = answer_none (request_refusal a.setup a.request) (sym c.request_refusal.ensures ∙ c.in_ok-request_refusal.was) in
    let h : has_plan_lem a.setup (a.request ∷ []) ≡ true = sym c.plans_alone.ensures ∙ c.if-not-plans_alone.false in (
      λ q w l. add_accepted a.n a.setup q a.id a.request d (w ∙ sym c.is_some.ensures ∙ c.if-is_some.false) e h (lt-leb a.n (length q) (omega (arith, l, c.if-n-t.false))),
      c.if-n-t.false,
    )
