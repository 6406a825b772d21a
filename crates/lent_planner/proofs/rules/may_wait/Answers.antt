use Rattle.std.proofs.Common.{◌≡◌, false, not, Option, None, Some, refl, sym, ap, ◌∙◌}
use Rattle.std.specs.Result.{is_ok}
use Rattle.requests.specs.Choice.{both, is_some}
use Rattle.requests.specs.Checks.{formed, request_refusal}
use Rattle.requests.specs.Refusals.{answer_for}
use Rattle.requests.specs.declared.Refusal.{Refusal}
use Rattle.sessions.specs.Table.{outside_ids}
use Rattle.lent_sessions.specs.Records.{may_wait}
use Rattle.lent_planner.proofs.rules.may_wait.Goals as goal

formed_is : (x : Option Refusal) → is_ok (answer_for x) ≡ not (is_some x)
unfolding answer_for
formed_is None = refl
formed_is (Some x) = refl

pub returns-then-is_ok : goal.returns-then-is_ok
unfolding may_wait both formed
returns-then-is_ok c =
    let a = c.args in
    let i : outside_ids a.e.now.id ≡ false = sym c.outside_ids.ensures ∙ c.if-outside_ids.false in
    let f = sym (formed_is (request_refusal a.setup a.e.now.request)) ∙ ap is_ok (sym c.request_refusal.ensures) ∙ sym c.is_ok.ensures.value ∙ c.if-is_ok.true in
    rw (i, f) c.plans_alone.ensures

pub returns-else-is_ok : goal.returns-else-is_ok
unfolding may_wait both formed
returns-else-is_ok c =
    let a = c.args in
    let i : outside_ids a.e.now.id ≡ false = sym c.outside_ids.ensures ∙ c.if-outside_ids.false in
    let f = sym (formed_is (request_refusal a.setup a.e.now.request)) ∙ ap is_ok (sym c.request_refusal.ensures) ∙ sym c.is_ok.ensures.value ∙ c.if-is_ok.false in
    rw (i, f) c.if-is_ok.false
