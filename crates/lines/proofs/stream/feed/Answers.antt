use mathlib.Core.Path.{refl}
use native.Mathlib.Omega.{arith}
use Rattle.grammar.specs.Parse.{longest}
use Rattle.queue_rows.specs.Heads.{session_in}
use Rattle.answers.specs.ReplyLength.{reply_room}
use Rattle.responder.specs.Written.{left_in}
use Rattle.lines.specs.Pieces.{state_of}
use Rattle.streams.specs.Stream.{line_start}
use Rattle.lines.proofs.Feeding.{FedSoFar, fed_none, fed_length, fed_reply, fed_rest, fed_full, fed_end}
use Rattle.lines.proofs.stream.feed.Goals as goal

pub loop-taken-init : goal.loop-taken-init
loop-taken-init c = (c.pack-head.ensures.sized, fed_none _ _ _ _)

pub returns-then-out-written-lt-REPLY_ROOM : goal.returns-then-out-written-lt-REPLY_ROOM
unfolding reply_room
returns-then-out-written-lt-REPLY_ROOM c =
    let so_far : (let l = c.loop-taken in let a = c.args in FedSoFar (record { site = a.site.now; house = a.house.now }) a.feed a.block.now a.out.now (state_of (session_in l.head l.ids l.rows) l.kept l.used l.long) l.taken l.written l.out) = rw c.pack-head.ensures.rows_after at c.loop-taken.invariant.1 in
    let full = fed_full so_far (omega (arith, c.if-out-written-lt-REPLY_ROOM.true, fed_length c.loop-taken.invariant.1)) in
    record { answer = rw c.fed.ensures full.0; output = full.1 }

pub returns-in_default : goal.returns-in_default
unfolding reply_room
returns-in_default c =
    let so_far : (let l = c.loop-taken in let a = c.args in FedSoFar (record { site = a.site.now; house = a.house.now }) a.feed a.block.now a.out.now (state_of (session_in l.head l.ids l.rows) l.kept l.used l.long) l.taken l.written l.out) = rw c.pack-head.ensures.rows_after at c.loop-taken.invariant.1 in
    let a = c.args in
    let l = c.loop-taken in
    let rest = fed_end (fed_rest so_far (rw c.in_default.is at c.newline_in.ensures) (omega (arith, c.if-out-written-lt-REPLY_ROOM.false, fed_length l.invariant.1))) refl in
    record { answer = rw (c.fed-in_default.ensures, ← c.keep-rest.ensures (record { site = a.site.now; house = a.house.now }) (session_in l.head l.ids l.rows)) rest.0; output = rest.1 }

pub overflow_add-written : goal.overflow_add-written
unfolding reply_room line_start longest left_in session_in
overflow_add-written c =
    let replied = c.reply-replied in
    let first = c.in-Some.ensures in
    let l = c.loop-taken in
    let v = l.invariant.1 in
    let block = c.args.block.now in
    let more =
    fed_reply
    v
    first
    (omega (arith, c.if-out-written-lt-REPLY_ROOM.false, fed_length v))
    (c.parse_ended-parsed.ensures (session_in l.head l.ids l.rows) refl)
    replied.ensures.rows_after
    replied.ensures.out_after in
    omega (arith, more.room, c.well_formed)

pub loop-taken-preserved : goal.loop-taken-preserved
unfolding reply_room line_start longest left_in session_in
loop-taken-preserved c =
    let replied = c.reply-replied in
    let first = c.in-Some.ensures in
    let l = c.loop-taken in
    let v = l.invariant.1 in
    let block = c.args.block.now in (
      replied.ensures.sized,
      fed_reply
          v
          first
          (omega (arith, c.if-out-written-lt-REPLY_ROOM.false, fed_length v))
          (c.parse_ended-parsed.ensures (session_in l.head l.ids l.rows) refl)
          replied.ensures.rows_after
          replied.ensures.out_after,
    )

pub returns : goal.returns
returns c =
    let so_far : (let l = c.loop-taken in let a = c.args in FedSoFar (record { site = a.site.now; house = a.house.now }) a.feed a.block.now a.out.now (state_of (session_in l.head l.ids l.rows) l.kept l.used l.long) l.taken l.written l.out) = rw c.pack-head.ensures.rows_after at c.loop-taken.invariant.1 in
    let all = fed_end so_far (omega (arith, c.loop-taken-test.false, c.loop-taken.invariant.1.within)) in
    record { answer = rw c.fed-2.ensures all.0; output = all.1 }
