use mathlib.Core.Path.{◌≡◌, sym, ◌∙◌}
use native.Mathlib.Omega.{arith}
use lib.ListN.{take, length-take}
use lib.Seq.{get_or-take}
use Rattle.requests.proofs.Windows.{take_next}
use Rattle.sessions.specs.Sessions.{vacant}
use Rattle.planner.proofs.Queues.{padded_none, padded_push}
use Rattle.queue_rows.specs.Rows.{entry_at, queue_in}
use Rattle.queue_rows.proofs.Places.{queue_length, place_is}
use Rattle.queue_rows.proofs.HeadSessions.{in_places}
use Rattle.queue_rows.proofs.packing.unpack.Goals as goal

pub loop-i-init : goal.loop-i-init
loop-i-init c =
    let n = c.places_of-n.ensures in
    (omega arith, omega arith, rw c.vacant-queue.ensures (sym padded_none))

pub loop-i-preserved : goal.loop-i-preserved
unfolding entry_at
loop-i-preserved c =
    let l = c.loop-i in
    let v = l.invariant in
    let a = c.args in
    let q = queue_in a.ids.now a.rows.now in
    let size = queue_length a.ids.now a.rows.now in
    let is = place_is a.ids.now a.rows.now 16 l.i (omega arith) in (
      v.0,
      omega arith,
      rw (v.2, c.request_in.ensures, get_or-take c.places_of-n.result a.ids.now l.i 0 (omega arith), take_next q l.i vacant (omega arith), is) (padded_push (take l.i q) l.i _ (sym (length-take l.i q ∙ omega arith)) (omega arith)),
    )

pub returns : goal.returns
returns c =
    let l = c.loop-i in
    let a = c.args in
    let all : l.i ≡ c.places_of-n.result = omega arith in
    rw (l.invariant.2, all) (in_places a.head a.ids.now a.rows.now _ c.places_of-n.ensures)
