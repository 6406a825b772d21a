use Rattle.search.specs.Rows.{set_row}
use Rattle.queue_rows.proofs.Places.{numbers_put}
use Rattle.queue_rows.proofs.rows.put_numbers.Goals as goal

pub returns : goal.returns
unfolding set_row
returns c =
    let a = c.args in
    numbers_put a.ids.now a.rows.now a.at a.id a.kind a.a a.b a.c c.requires.at_bound c.requires.sized
