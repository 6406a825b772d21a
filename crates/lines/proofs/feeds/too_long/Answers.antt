use mathlib.Core.Path.{sym}
use native.Mathlib.Omega.{arith}
use Rattle.answers.specs.ReplyLength.{reply_room}
use Rattle.streams.specs.Stream.{feed_text}
use Rattle.lines.proofs.Passes.{passed_none, part_passed, part_count, part_long}
use Rattle.lines.proofs.feeds.too_long.Goals as goal

pub loop-taken-init : goal.loop-taken-init
unfolding feed_text
loop-taken-init c = let a = c.args in (passed_none _ a.state a.text.now, omega arith)

pub returns-then-left-fed : goal.returns-then-left-fed
unfolding reply_room
returns-then-left-fed c =
    let l = c.loop-taken in
    let p = part_passed 4096 l.invariant.0 (omega arith) (omega arith) c.feed-fed.ensures.answer in
    sym (part_long 4096 l.invariant.0 c.args.room l.left p l.invariant.1 c.if-left-fed.true)

pub overflow_add-taken : goal.overflow_add-taken
unfolding reply_room
overflow_add-taken c =
    let l = c.loop-taken in
    let p = part_passed 4096 l.invariant.0 (omega arith) (omega arith) c.feed-fed.ensures.answer in
    omega (arith, p.more.within, c.well_formed)

pub loop-taken-smaller : goal.loop-taken-smaller
unfolding reply_room
loop-taken-smaller c =
    let l = c.loop-taken in
    let p = part_passed 4096 l.invariant.0 (omega arith) (omega arith) c.feed-fed.ensures.answer in
    omega (arith, p.more.within, p.some)

pub loop-taken-preserved : goal.loop-taken-preserved
unfolding reply_room
loop-taken-preserved c =
    let l = c.loop-taken in
    let p = part_passed 4096 l.invariant.0 (omega arith) (omega arith) c.feed-fed.ensures.answer in
    (p.more, omega (arith, part_count 4096 l.invariant.0 p, l.invariant.1, c.if-left-fed.false))
