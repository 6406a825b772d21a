use mathlib.Core.Path.{◌≡◌, ap, sym, ◌∙◌}
use Rattle.grammar.specs.declared.Record.{Record}
use Rattle.queue_rows.specs.Heads.{session_in, answered_in}
use Rattle.answers.specs.Replies.{reply_at, record_reply, parsed_reply}
use Rattle.answers.specs.ReplyLength.{reply_room}
use Rattle.responder.specs.Written.{left_in, asked_reply}
use Rattle.responder.proofs.Delivering.{reply_short, reply_delivered}
use Rattle.responder.proofs.AskedReplies.{asked_plain, add_asked}
use Rattle.responder.proofs.replies.reply.Goals as goal
use Rattle.responder.proofs.replies.reply.Goals.{in-Named, in-Record}

pub returns-then-out-lt-REPLY_ROOM : goal.returns-then-out-lt-REPLY_ROOM
unfolding reply_room left_in
returns-then-out-lt-REPLY_ROOM c =
    let a = c.args in
    let short = reply_short (session_in a.head a.ids.now a.rows.now) a.parsed a.out.now c.if-out-lt-REPLY_ROOM.true in
    record { rows_after = short.0; out_after = short.1; sized = c.requires }

pub returns-in-Err : goal.returns-in-Err
unfolding reply_room
returns-in-Err c =
    let a = c.args in
    let fault = c.fault_reply in
    let x = reply_delivered (session_in a.head a.ids.now a.rows.now) a.parsed a.out.now {after = fault.new.out} {r = left_in fault.result a.ids.now a.rows.now} c.if-out-lt-REPLY_ROOM.false
    (rw c.in-Err.is (fault.ensures a.ids.now a.rows.now)) in
    record { rows_after = x.0; out_after = x.1; sized = c.requires }

pub returns-in-Turn : goal.returns-in-Turn
unfolding reply_room asked_reply record_reply parsed_reply
returns-in-Turn c =
    let asked_is : (let a = c.args in let s = session_in a.head a.ids.now a.rows.now in asked_reply s c.match-line.asked.0 c.match-line.asked.1 ≡ parsed_reply s a.parsed) = rw c.in-Ok.is (elim c.match-line.branch [
      | in-Named w ↦ rw (w.asked-is, w.in-Named.is)
      | in-Record w ↦ rw (w.asked-is, w.in-Record.is) (asked_plain _ _)
    ]) in
    let a = c.args in
    let turn = c.turn_reply in
    let t = turn.ensures in
    let x = reply_delivered (session_in a.head a.ids.now a.rows.now) a.parsed a.out.now {after = turn.new.out} {r = left_in turn.result turn.new.ids turn.new.rows} c.if-out-lt-REPLY_ROOM.false
    (rw (← asked_is, c.in-Turn.is) t.delivered) in
    record { rows_after = x.0; out_after = x.1; sized = t.sized_2 }

pub returns-in-Open : goal.returns-in-Open
unfolding reply_room asked_reply parsed_reply
returns-in-Open c =
    let asked_is : (let a = c.args in let s = session_in a.head a.ids.now a.rows.now in asked_reply s c.match-line.asked.0 c.match-line.asked.1 ≡ parsed_reply s a.parsed) = rw c.in-Ok.is (elim c.match-line.branch [
      | in-Named w ↦ rw (w.asked-is, w.in-Named.is)
      | in-Record w ↦ rw (w.asked-is, w.in-Record.is) (asked_plain _ _)
    ]) in
    let a = c.args in
    let opened = c.open_reply in
    let x = reply_delivered (session_in a.head a.ids.now a.rows.now) a.parsed a.out.now {after = opened.new.out} {r = left_in opened.result a.ids.now a.rows.now} c.if-out-lt-REPLY_ROOM.false
    (rw (← asked_is, c.in-Open.is) (opened.ensures a.ids.now a.rows.now)) in
    record { rows_after = x.0; out_after = x.1; sized = c.requires }

pub returns-in-Drop : goal.returns-in-Drop
unfolding reply_room asked_reply parsed_reply
returns-in-Drop c =
    let asked_is : (let a = c.args in let s = session_in a.head a.ids.now a.rows.now in asked_reply s c.match-line.asked.0 c.match-line.asked.1 ≡ parsed_reply s a.parsed) = rw c.in-Ok.is (elim c.match-line.branch [
      | in-Named w ↦ rw (w.asked-is, w.in-Named.is)
      | in-Record w ↦ rw (w.asked-is, w.in-Record.is) (asked_plain _ _)
    ]) in
    let a = c.args in
    let dropped = c.drop_reply in
    let d = dropped.ensures in
    let x = reply_delivered (session_in a.head a.ids.now a.rows.now) a.parsed a.out.now {after = dropped.new.out} {r = left_in dropped.result dropped.new.ids dropped.new.rows} c.if-out-lt-REPLY_ROOM.false
    (rw (← asked_is, c.in-Drop.is) d.delivered) in
    record { rows_after = x.0; out_after = x.1; sized = d.sized_2 }

pub returns-in-Add : goal.returns-in-Add
unfolding reply_room asked_reply parsed_reply answered_in session_in
returns-in-Add c =
    let asked_is : (let a = c.args in let s = session_in a.head a.ids.now a.rows.now in asked_reply s c.match-line.asked.0 c.match-line.asked.1 ≡ parsed_reply s a.parsed) = rw c.in-Ok.is (elim c.match-line.branch [
      | in-Named w ↦ rw (w.asked-is, w.in-Named.is)
      | in-Record w ↦ rw (w.asked-is, w.in-Record.is) (asked_plain _ _)
    ]) in
    let added_is : (let a = c.args in let added = c.add-added in reply_at (answered_in added.result added.new.ids added.new.rows) c.add_field-field.result ≡ parsed_reply (session_in a.head a.ids.now a.rows.now) a.parsed) = let a = c.args in
    let s = session_in a.head a.ids.now a.rows.now in
    let named = c.match-line.asked.1 in
    add_asked s _ _ _ _ named c.add-added.ensures.answered c.add_field-field.ensures ∙ ap (λ (r : Record). asked_reply s r named) (sym c.in-Add.is) ∙ asked_is in
    let a = c.args in
    let call = c.call_reply in
    let added = c.add-added in
    let x = reply_delivered (session_in a.head a.ids.now a.rows.now) a.parsed a.out.now {after = call.new.out} {r = left_in call.result added.new.ids added.new.rows} c.if-out-lt-REPLY_ROOM.false
    (rw (← added_is) (call.ensures added.new.ids added.new.rows)) in
    record { rows_after = x.0; out_after = x.1; sized = added.ensures.size }
