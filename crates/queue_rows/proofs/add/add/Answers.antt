use mathlib.Core.Path.{◌≡◌, sym, ap, ◌∙◌}
use Rattle.std.specs.Option.{is_some}
use Rattle.requests.specs.Refusals.{answer_for}
use Rattle.sessions.specs.Calls.{Add}
use Rattle.sessions.specs.Sessions.{refused_by}
use Rattle.queue_rows.specs.Heads.{session_in}
use Rattle.queue_rows.proofs.Calls.{call_answer, add_bad, add_refuses, add_fits, add_accepts}
use Rattle.queue_rows.proofs.add.add.Goals as goal
use Rattle.queue_rows.proofs.add.add.Goals.{After-add_answer-answer}

answer_is : (c : After-add_answer-answer) → c.add_answer-answer.result ≡ answer_for (refused_by (session_in c.args.head c.args.ids.now c.args.rows.now) (Add c.args.id c.args.request))
answer_is c =
    let a = c.args in
    call_answer a.head a.ids.now a.rows.now _ c.bounded-n.ensures a.id _ (sym c.outside_ids.ensures ∙ c.if-outside_ids.false) c.requires
    (c.is_some-waiting.ensures ∙ ap is_some c.place_of.ensures) (Add a.id a.request) _ (c.add_answer-answer.ensures a.id)

pub returns-then-outside_ids : goal.returns-then-outside_ids
returns-then-outside_ids c =
    let a = c.args in
    add_bad a.head a.ids.now a.rows.now c.requires _ c.bad_id_refusal-refusal.ensures a.id (sym c.outside_ids.ensures ∙ c.if-outside_ids.true) a.request

pub put_entry-requires : goal.put_entry-requires
put_entry-requires c =
    let a = c.args in
    record {
      at_bound = add_fits a.head a.ids.now a.rows.now _ c.bounded-n.ensures a.id a.request _ (answer_is (goal.at.put_entry-requires c).After-add_answer-answer) c.in-Ok.is;
      sized = c.requires;
    }

pub returns-in-Err : goal.returns-in-Err
returns-in-Err c =
    let a = c.args in
    add_refuses a.head a.ids.now a.rows.now _ c.bounded-n.ensures a.id a.request _ (answer_is (goal.at.returns-in-Err c).After-add_answer-answer) c.requires _ c.in-Err.is

pub returns-in-Ok : goal.returns-in-Ok
returns-in-Ok c =
    let a = c.args in
    add_accepts a.head a.ids.now a.rows.now _ c.bounded-n.ensures a.id a.request _ (answer_is (goal.at.returns-in-Ok c).After-add_answer-answer) c.in-Ok.is c.put_entry.ensures
