use mathlib.Core.Path.{sym, ◌∙◌}
use Rattle.grammar.specs.Text.{newline}
use Rattle.answers.specs.ReplyLength.{reply_room}
use Rattle.streams.specs.Stream.{unfinished}
use Rattle.lines.proofs.Ending.{ended_begun, ended_none}
use Rattle.lines.proofs.stream.end.Goals as goal

pub returns-then-begun : goal.returns-then-begun
unfolding newline reply_room unfinished
returns-then-begun c =
    let fed = c.feed-last in
    ended_begun c.args.state (sym c.begun.ensures ∙ c.if-begun.true) fed.ensures.answer fed.ensures.output

pub returns : goal.returns
unfolding reply_room unfinished
returns c = sym (ended_none c.args.state (sym c.begun.ensures ∙ c.if-begun.false))
