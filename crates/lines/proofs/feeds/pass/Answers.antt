use mathlib.Core.Path.{refl, sym}
use Prim.Native.Nat.{◌+◌}
use native.Mathlib.Omega.{arith}
use lib.ListN.{replicate}
use lib.Seq.{length-take-le}
use Rattle.answers.specs.ReplyLength.{reply_room}
use Rattle.responder.proofs.Putting.{put_nothing, put_length, then}
use Rattle.streams.specs.Stream.{feed_text}
use Rattle.lines.proofs.Passes.{passed_none, part_passed, part_output, part_count, part_length}
use Rattle.lines.proofs.feeds.pass.Goals as goal

pub loop-taken-init : goal.loop-taken-init
unfolding feed_text
loop-taken-init c = let a = c.args in (passed_none _ a.state a.text.now, put_nothing a.out.now a.at)

pub slice_bounds-answers-end : goal.slice_bounds-answers-end
unfolding reply_room
slice_bounds-answers-end c =
    let l = c.loop-taken in
    let fed = c.feed-fed in
    let p = part_passed 4096 l.invariant.0 c.loop-taken-test.true (omega arith) fed.ensures.answer in
    omega (arith, p.held)

pub slice_bounds-put_bytes-end : goal.slice_bounds-put_bytes-end
unfolding reply_room
slice_bounds-put_bytes-end c =
    let l = c.loop-taken in
    let fed = c.feed-fed in
    let p = part_passed 4096 l.invariant.0 c.loop-taken-test.true (omega arith) fed.ensures.answer in
    sym (length-take-le _ _ (omega (arith, p.held)))

pub put_bytes-written-requires : goal.put_bytes-written-requires
unfolding reply_room
put_bytes-written-requires c =
    let l = c.loop-taken in
    let fed = c.feed-fed in
    let p = part_passed 4096 l.invariant.0 c.loop-taken-test.true (omega arith) fed.ensures.answer in
    omega (
      arith,
      length-take-le fed.result.written fed.new.out (omega (arith, p.held)),
      put_length l.invariant.1,
      l.invariant.1.place,
      part_count 4096 l.invariant.0 p,
      part_length (record { site = c.args.site.now; house = c.args.house.now }) c.args.state c.args.text.now (l.taken + fed.result.taken),
      c.requires,
    )

pub overflow_add-taken : goal.overflow_add-taken
unfolding reply_room
overflow_add-taken c =
    let l = c.loop-taken in
    let fed = c.feed-fed in
    let p = part_passed 4096 l.invariant.0 c.loop-taken-test.true (omega arith) fed.ensures.answer in
    omega (arith, p.more.within, c.well_formed)

pub loop-taken-smaller : goal.loop-taken-smaller
unfolding reply_room
loop-taken-smaller c =
    let l = c.loop-taken in
    let fed = c.feed-fed in
    let p = part_passed 4096 l.invariant.0 c.loop-taken-test.true (omega arith) fed.ensures.answer in
    omega (arith, p.more.within, p.some)

pub loop-taken-preserved : goal.loop-taken-preserved
unfolding reply_room
loop-taken-preserved c =
    let l = c.loop-taken in
    let fed = c.feed-fed in
    let p = part_passed 4096 l.invariant.0 c.loop-taken-test.true (omega arith) fed.ensures.answer in
    let output = part_output 4096 l.invariant.0 (replicate 4096 0) refl fed.ensures.answer fed.ensures.output in
    (p.more, rw p.given (then l.invariant.1 (rw output at c.put_bytes-written.ensures)))
