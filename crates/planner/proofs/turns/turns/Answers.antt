use mathlib.Core.Path.{sym, ◌∙◌}
use Rattle.requests.proofs.AnswerTests.{answer_none}
use Rattle.sessions.proofs.TurnByTurn.{accepted_turns}
use Rattle.planner.proofs.TakingTurns.{turns_refused, turns_done}
use Rattle.planner.proofs.turns.turns.Goals as goal

pub take_turns-requires : goal.take_turns-requires
take_turns-requires c =
    let a = c.args in
    let t = accepted_turns a.session a.n _ _ (answer_none _ (sym c.turns_answer-answer.ensures ∙ c.in-Ok.is)) in
    record { opened_value = t.0; session_in_bounds = t.1; n_in_bounds = t.2 }

pub returns-in-Err : goal.returns-in-Err
returns-in-Err c =
    let a = c.args in
    let t = turns_refused a.session a.n a.out.now a.ends.now c.turns_answer-answer.result c.turns_answer-answer.ensures _ c.in-Err.is in
    record { value = t.0; out_after = t.1; ends_after = t.2 }

pub returns-in-Ok : goal.returns-in-Ok
returns-in-Ok c =
    let a = c.args in
    let t = turns_done a.session a.n a.out.now a.ends.now c.turns_answer-answer.result c.turns_answer-answer.ensures c.in-Ok.is in
    record { value = rw c.take_turns.ensures.value t.0; out_after = c.take_turns.ensures.out_after ∙ t.1; ends_after = c.take_turns.ensures.ends_after ∙ t.2 }
