use Prim.Native.Nat.{◌+◌, ◌*◌, ◌≤◌}
use native.Mathlib.Omega.{arith}
use lib.ListN.{drop}
use Rattle.sessions.specs.Sessions.{turn_of}
use Rattle.queue_rows.specs.Rows.{queue_in}
use Rattle.queue_rows.specs.Heads.{session_in}
use Rattle.answers.specs.Replies.{turn_room}
use Rattle.answers.specs.ReplyLength.{reply_room}
use Rattle.responder.specs.Written.{left_in}
use Rattle.answers.proofs.TurnLimits.{turn_at_most}
use Rattle.answers.proofs.SliceFits.{turn_room_lem}
use Rattle.responder.proofs.LineTexts.{takes_length, sets_length}
use Rattle.responder.proofs.Delivering.{turn_delivered}
use Rattle.responder.proofs.replies.turn_reply.Goals as goal

pub turn-turned-requires : goal.turn-turned-requires
unfolding turn_room
turn-turned-requires c = record { sized = c.requires.sized; rows_in_bounds = turn_room_lem c.args.head.setup _ }

pub put_sets-sets-requires : goal.put_sets-sets-requires
unfolding turn_room reply_room
put_sets-sets-requires c =
    let limits : (let t = c.turn-turned.result in (t.taken ≤ 8) × (t.front + t.taken ≤ 16) × (2 * t.writes ≤ turn_room)) = let a = c.args in
    let t = c.turn-turned.ensures.turns_in in
    (t.few, t.inside, rw t.writes (turn_at_most (session_in a.head a.ids.now a.rows.now) turn_room).writes) in
    let t = c.turn-turned.result in
    let l = limits in
    let place = c.put_takes-takes.ensures.place in
    (omega arith, omega (arith, takes_length t.code (drop t.front (queue_in c.turn-turned.new.ids c.turn-turned.new.rows)) t.taken))

pub put_answer-requires : goal.put_answer-requires
unfolding turn_room reply_room
put_answer-requires c =
    let limits : (let t = c.turn-turned.result in (t.taken ≤ 8) × (t.front + t.taken ≤ 16) × (2 * t.writes ≤ turn_room)) = let a = c.args in
    let t = c.turn-turned.ensures.turns_in in
    (t.few, t.inside, rw t.writes (turn_at_most (session_in a.head a.ids.now a.rows.now) turn_room).writes) in
    let t = c.turn-turned.result in
    let l = limits in
    let place = c.put_takes-takes.ensures.place in
    let end = c.put_sets-sets.ensures.place in
    omega (arith, takes_length t.code (drop t.front (queue_in c.turn-turned.new.ids c.turn-turned.new.rows)) t.taken, sets_length c.turn-turned.new.out t.writes)

pub returns : goal.returns
unfolding turn_room left_in
returns c =
    let a = c.args in
    let turn = c.turn-turned in
    let t = turn.ensures.turns_in in record {
      delivered = rw (← turn.ensures.out_after) (turn_delivered (turn_of (session_in a.head a.ids.now a.rows.now) turn_room) _ _ _ _ _ t.plan t.writes t.answer t.session
          c.put_takes-takes.ensures c.put_sets-sets.ensures c.put_answer.ensures);
      sized_2 = t.size;
    }
