use Rattle.queue_rows.specs.Heads.{session_in, answered_in}
use Rattle.responder.proofs.AskedReplies.{drop_replied}
use Rattle.responder.proofs.replies.drop_reply.Goals as goal

pub returns : goal.returns
unfolding answered_in
returns c =
    let a = c.args in
    let s = session_in a.head a.ids.now a.rows.now in
    let d = c.drop_request-dropped in
    record { delivered = rw (← drop_replied s _ _ _ d.ensures.answered c.drop_field-field.ensures) (c.call_reply.ensures d.new.ids d.new.rows); sized_2 = d.ensures.size }
