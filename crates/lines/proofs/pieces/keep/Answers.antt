use Rattle.requests.specs.Choice.{either}
use Rattle.grammar.specs.Parse.{longest}
use Rattle.lines.proofs.Runs.{keep_piece}
use Rattle.lines.proofs.pieces.keep.Goals as goal

pub returns-then-long : goal.returns-then-long
unfolding longest either
returns-then-long c =
    let a = c.args in
    λ n s. keep_piece s a.kept.now a.used a.long a.piece.now c.min-from.ensures c.min-n.ensures n c.requires c.put_bytes.ensures (rw c.if-long.true)

pub returns-else-long : goal.returns-else-long
unfolding longest either
returns-else-long c =
    let a = c.args in
    λ n s. keep_piece s a.kept.now a.used a.long a.piece.now c.min-from.ensures c.min-n.ensures n c.requires c.put_bytes.ensures (rw c.if-long.false)
