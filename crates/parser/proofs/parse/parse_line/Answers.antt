use mathlib.Core.Path.{sym}
use native.Mathlib.Omega.{arith}
use lib.Seq.{length-take-le}
use Rattle.grammar.proofs.LineEnds.{text_within}
use Rattle.parser.proofs.LineTexts.{line_text}
use Rattle.parser.proofs.parse.parse_line.Goals as goal

pub slice_bounds-text-end : goal.slice_bounds-text-end
slice_bounds-text-end c =
    let line = c.args.line.now in
    sym (length-take-le _ line (omega (arith, text_within line, c.text_length-n.ensures, c.min.ensures)))

pub returns : goal.returns
returns c =
    rw (line_text _ _ c.args.line.now _ _ c.text_length-n.ensures c.min.ensures, ← c.is_closed-closed.ensures) c.parse_text.ensures
