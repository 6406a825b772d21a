use mathlib.Core.Path.{sym, ◌∙◌}
use Rattle.grammar.proofs.LineEnds.{closed_some}
use Rattle.parser.proofs.parse.text_length.Goals as goal

pub overflow_sub-result : goal.overflow_sub-result
overflow_sub-result c = closed_some c.args.line.now (sym c.requires ∙ c.if-closed.true)
