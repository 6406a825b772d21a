use mathlib.Core.Path.{◌∙◌}
use Rattle.requests.specs.Devices.{capacity}
use Rattle.sessions.specs.Sessions.{turn_answer}
use Rattle.planner.specs.Selections.{entries_at}
use Rattle.planner.proofs.Turning.{turn_made}
use Rattle.planner.proofs.turn.turn.Goals as goal
use Rattle.planner.proofs.turn.turn.Goals.{in-Err, in-Ok}

pub returns-clause-value : goal.returns-clause-value
unfolding turn_answer capacity entries_at
returns-clause-value c =
    let o = c.outcome_of in
    elim c.match-outcome_of.branch [
      | in-Err w ↦ rw (c.with_queue.ensures, w.queue-is, w.len-is, w.plan-is, w.count-is, w.writes-is, w.answer-is, c.unassigned-plan.ensures) w.in-Err.ensures.settled
      | in-Ok w ↦
          let settled = w.in-Ok.ensures.settled in
          rw (c.with_queue.ensures, w.queue-is, w.len-is, w.plan-is, w.count-is, w.writes-is, w.answer-is)
          (turn_made c.args.session o.new.taken o.new.passed w.in-Ok.outcome.chosen w.in-Ok.outcome.writes settled.within settled.opened
          w.requeue.new.next w.requeue.ensures w.plan_at.new.plan w.plan_at.ensures ∙ settled.accepted)
    ]
