use mathlib.Core.Path.{sym, ◌∙◌}
use Rattle.grammar.specs.Parse.{longest}
use Rattle.lines.proofs.Runs.{ended_carried, ended_whole}
use Rattle.lines.proofs.pieces.parse_ended.Goals as goal
use Rattle.lines.proofs.pieces.parse_ended.Goals.{then-carried, else-carried}

pub returns : goal.returns
unfolding longest
returns c =
    let a = c.args in
    let carried = ended_carried _ a.device a.kept.now a.used a.long a.piece.now c.if-carried.kept c.if-carried.ended c.line_of-line.ensures c.start_of.ensures c.parse_text.ensures in
    let whole = ended_whole _ a.device a.kept.now a.used a.long a.piece.now c.if-carried.kept c.if-carried.ended c.line_of-line.ensures c.start_of.ensures c.parse_text.ensures in
    elim c.if-carried.branch [
      | then-carried way ↦ carried way.if-carried.true (rw (way.kept-is, way.ended-is) way.keep-ended.ensures)
      | else-carried way ↦
          whole way.if-carried.false (sym c.begun-carried.ensures ∙ way.if-carried.false) (rw way.kept-is at c.if-carried.array_long) c.requires way.ended-is
    ]
