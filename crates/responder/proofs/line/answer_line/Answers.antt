use Rattle.answers.specs.ReplyLength.{reply_room}
use Rattle.responder.specs.Written.{left_in}
use Rattle.responder.proofs.Delivering.{array_reply}
use Rattle.responder.proofs.line.answer_line.Goals as goal

pub returns : goal.returns
unfolding reply_room left_in
returns c =
    let answered = c.reply-replied in
    let a = c.args in
    let same = c.pack-head.ensures.rows_after in
    rw c.unpack.ensures
    (array_reply _ a.session a.line.now c.parse_line-parsed.result (left_in answered.result _ _) _ c.parse_line-parsed.ensures (rw same at answered.ensures.rows_after) (rw same at answered.ensures.out_after))
