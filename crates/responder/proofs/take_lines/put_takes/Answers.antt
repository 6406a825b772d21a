use mathlib.Core.Path.{◌∙◌}
use mathlib.Core.List.{flat_map}
use Prim.Native.Nat.{◌+◌}
use native.Mathlib.Omega.{arith}
use lib.ListN.{drop, length-drop}
use lib.Seq.{get_or-drop}
use Rattle.plans.specs.Packed.{places_from}
use Rattle.sessions.specs.Turns.{requests_of, assign}
use Rattle.sessions.specs.Sessions.{vacant}
use Rattle.planner.specs.Selections.{planned}
use Rattle.queue_rows.specs.Rows.{entry_at, queue_in}
use Rattle.queue_rows.proofs.Places.{queue_length, place_is}
use Rattle.responder.proofs.Putting.{put_nothing, put_length, then}
use Rattle.responder.proofs.LineTexts.{takes_next, takes_length}
use Rattle.responder.proofs.take_lines.put_takes.Goals as goal

pub loop-i-init : goal.loop-i-init
unfolding flat_map planned assign requests_of places_from
loop-i-init c = put_nothing _ _

pub put_assigned-next-requires : goal.put_assigned-next-requires
put_assigned-next-requires c =
    let l = c.loop-i in
    let a = c.args in
    let room = c.requires.2 in
    let place = l.invariant.place in
    omega (arith, put_length l.invariant, takes_length a.code (drop a.front (queue_in a.ids.now a.rows.now)) l.i)

pub loop-i-preserved : goal.loop-i-preserved
unfolding entry_at
loop-i-preserved c =
    let l = c.loop-i in
    let a = c.args in
    let room = c.requires.1 in
    let q = queue_in a.ids.now a.rows.now in
    let size = queue_length a.ids.now a.rows.now in
    let is = get_or-drop a.front q l.i vacant ∙ place_is a.ids.now a.rows.now 16 (a.front + l.i) (omega arith) in
    rw (takes_next a.code (drop a.front q) l.i (rw length-drop (omega arith)), is, ← c.request_in.ensures, ← c.assigned_to.ensures) (then l.invariant c.put_assigned-next.ensures)
