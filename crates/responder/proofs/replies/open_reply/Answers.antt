use Rattle.queue_rows.specs.Heads.{session_in, answered_in}
use Rattle.responder.proofs.AskedReplies.{open_replied}
use Rattle.responder.proofs.replies.open_reply.Goals as goal

pub returns : goal.returns
unfolding answered_in
returns c =
    λ ids rows. let s = session_in c.args.head ids rows in
    rw (← open_replied s _ _ _ _ c.opening_of-opening.ensures (c.open-opened.ensures ids rows) c.open_field-field.ensures) (c.call_reply.ensures ids rows)
