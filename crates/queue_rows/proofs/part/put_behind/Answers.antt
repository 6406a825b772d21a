use native.Mathlib.Omega.{arith}
use lib.ListN.{take}
use Rattle.search.specs.Rows.{request_at}
use Rattle.queue_rows.specs.Rows.{entry_at, queue_in}
use Rattle.queue_rows.proofs.Places.{queue_length}
use Rattle.queue_rows.proofs.Parting.{entries_next}
use Rattle.queue_rows.proofs.part.put_behind.Goals as goal

pub loop-j-preserved : goal.loop-j-preserved
unfolding entry_at request_at
loop-j-preserved c =
    let l = c.loop-j in
    let v = l.invariant in
    let a = c.args in
    let room = c.requires.count_bound in
    let put = c.put_numbers.ensures in
    let size = queue_length l.ids l.rows in
    (put.size, omega arith, rw put.queue (entries_next (take a.front (queue_in a.ids.now a.rows.now)) (queue_in l.ids l.rows) a.taken_ids.now a.taken_rows.now a.front l.j (omega arith) v.2))
