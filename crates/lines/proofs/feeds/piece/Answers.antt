use mathlib.Core.Path.{sym}
use native.Mathlib.Omega.{arith}
use lib.ListN.{replicate}
use lib.Seq.{length-take-le}
use Rattle.streams.specs.Feeds.{piece_of, piece_out}
use Rattle.streams.proofs.FeedAnswers.{after_end}
use Rattle.lines.proofs.Runs.{no_newline}
use Rattle.lines.proofs.Delivered.{unfinished_piece, block_held, block_taken, piece_delivered}
use Rattle.lines.proofs.feeds.piece.Goals as goal

pub returns-then-state : goal.returns-then-state
unfolding piece_of piece_out
returns-then-state c =
    let a = c.args in
    let t = after_end a.state _ _ a.out.now c.if-state.true c.refused.ensures in
    record { answer = t.0; output = t.1 }

pub returns-then-is_none : goal.returns-then-is_none
returns-then-is_none c =
    let a = c.args in
    let t = unfinished_piece (record { site = a.site.now; house = a.house.now }) a.state a.text.now a.out.now c.if-state.false (no_newline a.text.now _ c.newline_in.ensures c.if-is_none.ensures) (c.unfinished.ensures _) in
    record { answer = t.0; output = t.1 }

pub slice_bounds-answers-end : goal.slice_bounds-answers-end
slice_bounds-answers-end c =
    let a = c.args in omega (arith, block_held _ a.state.feed a.text.now (replicate 4096 0) c.feed-fed.ensures.answer c.feed-fed.ensures.output)

pub slice_bounds-deliver-end : goal.slice_bounds-deliver-end
slice_bounds-deliver-end c =
    let a = c.args in
    sym (length-take-le _ _ (omega (arith, block_held _ a.state.feed a.text.now (replicate 4096 0) c.feed-fed.ensures.answer c.feed-fed.ensures.output)))

pub slice_bounds-deliver-count : goal.slice_bounds-deliver-count
slice_bounds-deliver-count c =
    let a = c.args in block_taken _ a.state.feed a.text.now (replicate 4096 0) c.feed-fed.ensures.answer c.feed-fed.ensures.output

pub slice_bounds-deliver-start : goal.slice_bounds-deliver-start
slice_bounds-deliver-start c =
    let a = c.args in block_taken _ a.state.feed a.text.now (replicate 4096 0) c.feed-fed.ensures.answer c.feed-fed.ensures.output

pub returns : goal.returns
returns c =
    let a = c.args in
    let given = c.deliver.ensures in
    let t = piece_delivered _ a.state a.text.now (replicate 4096 0) a.out.now c.feed-fed.ensures.answer c.feed-fed.ensures.output given.answer given.output in
    record { answer = t.0; output = t.1 }
