use mathlib.Core.Path.{◌≡◌, sym}
use native.Mathlib.Numerals.{add-one}
use native.Mathlib.Omega.{arith}
use lib.Seq.{take-suc, take-suc-set}
use Rattle.sessions.specs.Sessions.{vacant}
use Rattle.queue_rows.specs.Rows.{queue_in}
use Rattle.queue_rows.proofs.Places.{queue_length}
use Rattle.queue_rows.proofs.HeadSessions.{in_whole}
use Rattle.queue_rows.proofs.packing.pack.Goals as goal

pub loop-i-preserved : goal.loop-i-preserved
unfolding vacant
loop-i-preserved c =
    let l = c.loop-i in
    let v = l.invariant in
    let q = c.args.session.queue in
    let put = c.put_entry.ensures in (
      v.0,
      put.size,
      omega arith,
      rw (put.queue, add-one l.i, take-suc-set (queue_in l.ids l.rows) l.i _ (omega (arith, queue_length l.ids l.rows)), v.3)
          (sym (take-suc q l.i vacant (omega arith))),
    )

pub returns : goal.returns
returns c =
    let l = c.loop-i in
    let v = l.invariant in
    let all : l.i ≡ 16 = omega arith in
    record { rows_after = in_whole c.args.session l.ids l.rows v.0 (rw all at v.3); sized = v.1 }
