use mathlib.Core.Path.{sym}
use lib.Seq.{length-take-le}
use Rattle.streams.specs.Feeds.{end_of, end_out}
use Rattle.streams.proofs.FeedAnswers.{after_end}
use Rattle.lines.proofs.Delivered.{last_within, end_delivered}
use Rattle.lines.proofs.feeds.end.Goals as goal

pub returns-then-state : goal.returns-then-state
unfolding end_of end_out
returns-then-state c =
    let a = c.args in
    let t = after_end a.state _ _ a.out.now c.if-state.true c.refused.ensures in
    record { answer = t.0; output = t.1 }

pub slice_bounds-text-end : goal.slice_bounds-text-end
slice_bounds-text-end c = last_within c.args.state c.end-last.result c.end-last.ensures

pub slice_bounds-deliver-end : goal.slice_bounds-deliver-end
slice_bounds-deliver-end c = sym (length-take-le _ _ (last_within c.args.state c.end-last.result c.end-last.ensures))

pub returns : goal.returns
returns c =
    let a = c.args in
    let given = c.deliver.ensures in
    let t = end_delivered a.state c.end-last.result c.end-last.ensures _ a.out.now c.line_start-next.ensures given.answer given.output in
    record { answer = t.0; output = t.1 }
