use mathlib.Core.Path.{sym}
use Rattle.lines.proofs.feeds.unfinished.Goals as goal

pub returns : goal.returns
returns c = λ n. sym (c.keep-extent.ensures n c.args.state.session)
