use mathlib.Core.Path.{◌≡◌, refl, sym, ap, ◌∙◌}
use native.Mathlib.Omega.{arith}
use Rattle.std.specs.Prelude.{Ok, Err, is_some}
use Rattle.requests.specs.Refusals.{answer_for}
use Rattle.sessions.specs.Calls.{Drop}
use Rattle.sessions.specs.Sessions.{refused_by}
use Rattle.planner.specs.Answering.{answer_in}
use Rattle.queue_rows.specs.Heads.{session_in}
use Rattle.queue_rows.proofs.HeadSessions.{placed_kept_in}
use Rattle.queue_rows.proofs.Calls.{call_answer, drop_bad, drop_refuses, drop_accepts}
use Rattle.queue_rows.proofs.drop.drop_request.Goals as goal
use Rattle.queue_rows.proofs.drop.drop_request.Goals.{After-drop_place}

answer_is : (c : After-drop_place) → answer_in c.drop_place.result ≡ answer_for (refused_by (session_in c.args.head c.args.ids.now c.args.rows.now) (Drop c.args.id))
answer_is c =
    let a = c.args in
    call_answer a.head a.ids.now a.rows.now _ c.bounded-n.ensures a.id _ (sym c.outside_ids.ensures ∙ c.if-outside_ids.false) c.requires
    (ap is_some c.place_of.ensures) (Drop a.id) _ (c.drop_place.ensures.answer a.id a.head.setup a.head.len)

pub returns-then-outside_ids : goal.returns-then-outside_ids
returns-then-outside_ids c =
    let a = c.args in
    drop_bad a.head a.ids.now a.rows.now c.requires _ c.bad_id_refusal-refusal.ensures a.id (sym c.outside_ids.ensures ∙ c.if-outside_ids.true)

pub close_up-len-requires : goal.close_up-len-requires
close_up-len-requires c =
    let a = c.args in
    let t = placed_kept_in a.ids.now a.rows.now c.requires c.bounded-n.result a.id c.in-Ok.at (sym c.place_of.ensures ∙ c.in-Ok.ensures.place) in
    record { n_bound = omega (arith, c.bounded-n.ensures); sized = c.requires; at_in_bounds = omega (arith, t.0); kept = t.1 }

pub returns-in-Err : goal.returns-in-Err
returns-in-Err c =
    let a = c.args in
    let is = sym (ap answer_in c.in-Err.is) ∙ answer_is (goal.at.returns-in-Err c).After-drop_place in
    drop_refuses a.head a.ids.now a.rows.now _ c.bounded-n.ensures a.id (Err c.in-Err.refusal) is c.requires _ refl

pub returns-in-Ok : goal.returns-in-Ok
returns-in-Ok c =
    let a = c.args in
    let is = sym (ap answer_in c.in-Ok.is) ∙ answer_is (goal.at.returns-in-Ok c).After-drop_place in
    drop_accepts a.head a.ids.now a.rows.now _ c.bounded-n.ensures a.id (Ok tt) is refl c.close_up-len.ensures
