use Rattle.search.specs.Rows.{request_at}
use Rattle.queue_rows.specs.Rows.{entry_at}
use Rattle.queue_rows.proofs.Places.{place_is}
use Rattle.queue_rows.proofs.rows.copy_entry.Goals as goal

pub returns : goal.returns
unfolding entry_at request_at
returns c =
    let a = c.args in
    rw (place_is a.ids.now a.rows.now 16 a.from c.requires.from_bound.0) c.put_numbers.ensures
