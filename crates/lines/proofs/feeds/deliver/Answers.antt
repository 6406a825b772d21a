use native.Mathlib.Omega.{arith}
use borrow.Author.Tests.{le-ltb}
use lib.ListN.{length}
use Rattle.responder.proofs.Putting.{then}
use Rattle.streams.specs.Stream.{feed_text}
use Rattle.streams.proofs.FeedAnswers.{without_room, with_room}
use Rattle.lines.proofs.Delivered.{first_long, rest_long, both_fit, put_at_start}
use Rattle.lines.proofs.feeds.deliver.Goals as goal

pub returns-then-out-answers : goal.returns-then-out-answers
returns-then-out-answers c =
    let a = c.args in
    let first = a.answers.now in
    let rest = feed_text (record { site = a.site.now; house = a.house.now }) a.next a.rest.now in
    let t = without_room a.state _ _ a.out.now c.requires (first_long first rest (length a.out.now) c.if-out-answers.true) c.refused.ensures in
    record { answer = t.0; output = t.1 }

pub returns-then-too_long : goal.returns-then-too_long
returns-then-too_long c =
    let a = c.args in
    let first = a.answers.now in
    let rest = feed_text (record { site = a.site.now; house = a.house.now }) a.next a.rest.now in
    let long = rest_long first rest (length a.out.now) (omega (arith, c.if-out-answers.false)) c.too_long.ensures c.if-too_long.true in
    let t = without_room a.state _ _ a.out.now c.requires long c.refused-then-too_long.ensures in
    record { answer = t.0; output = t.1 }

pub returns : goal.returns
returns c =
    let a = c.args in
    let first = a.answers.now in
    let rest = feed_text (record { site = a.site.now; house = a.house.now }) a.next a.rest.now in
    let fits = both_fit first rest (length a.out.now) (omega (arith, c.if-out-answers.false)) c.too_long.ensures c.if-too_long.false in
    let put = put_at_start (then c.put_bytes-written.ensures c.pass-passed.ensures.output) fits in
    let t = with_room a.state _ _ a.out.now c.requires (le-ltb (length a.out.now) _ fits) put.0 (rw c.pass-passed.ensures.state) put.1 in
    record { answer = t.0; output = t.1 }
