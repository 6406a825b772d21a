use mathlib.Core.Path.{◌≡◌, refl, ap, sym, ◌∙◌}
use Prim.Native.Nat.{◌+◌}
use native.Mathlib.Omega.{arith}
use lib.ListN.{take, get_or, length-take}
use Rattle.requests.specs.declared.Entry.{Entry}
use Rattle.requests.proofs.Windows.{take_next}
use Rattle.sessions.specs.Sessions.{vacant}
use Rattle.planner.specs.Selections.{Searched}
use Rattle.planner.proofs.Selecting.{left_none, taken_room, left_takes, left_passes}
use Rattle.queue_rows.specs.Rows.{queue_in}
use Rattle.queue_rows.proofs.Places.{queue_length, id_is, request_is}
use Rattle.queue_rows.proofs.Parting.{parted_none, parted_takes, parted_passes, same_here, same_later, same_put}
use Rattle.queue_rows.proofs.part.part.Goals as goal
use Rattle.queue_rows.proofs.part.part.Goals.{After-plan_with-found, in-None, in-Some}

pub loop-at-init : goal.loop-at-init
loop-at-init c =
    let a = c.args in
    (c.requires.n_bound, c.requires.sized, omega arith, refl, parted_none a.setup _ _ _ c.requires.taken_ids_len.0 c.requires.taken_ids_len.1, λ fits. left_none a.setup _ (c.left_at_first-left.ensures fits))

-- the request read is that of the entry
read : (c : After-plan_with-found) → c.request_in-next.result ≡ (get_or (queue_in c.args.ids.now c.args.rows.now) c.loop-at.at vacant).request
read c =
    let l = c.loop-at in
    let a = c.args in
    c.request_in-next.ensures ∙ sym (request_is l.ids l.rows l.at (omega arith))
    ∙ ap (λ (e : Entry). e.request) (same_here (queue_in a.ids.now a.rows.now) (queue_in l.ids l.rows) l.at l.invariant.3)

pub bounds-taken_ids-count : goal.bounds-taken_ids-count
bounds-taken_ids-count c =
    let l = c.loop-at in
    let a = c.args in
    let q = queue_in a.ids.now a.rows.now in
    let r = read (goal.at.bounds-taken_ids-count c).After-plan_with-found in
    let searched : Searched a.setup l.taken_rows l.count (get_or q l.at vacant).request c.plan_with-found.new.rows c.in-Some.extended.code = rw (← r) c.in-Some.ensures.searched in
    let room = (taken_room (take l.at q) l.invariant.4.rows_taken (get_or q l.at vacant) searched c.in-Some.ensures.left_value_2.0).1 in
    let size = l.invariant.4.ids_size in
    omega arith

pub loop-at-preserved : goal.loop-at-preserved
loop-at-preserved c =
    let l = c.loop-at in
    let v = l.invariant in
    let a = c.args in
    let q = queue_in a.ids.now a.rows.now in
    let m = queue_in l.ids l.rows in
    let e = get_or q l.at vacant in
    let r = read (goal.at.loop-at-preserved c).After-plan_with-found in
    let size = queue_length a.ids.now a.rows.now in
    let sizes = queue_length l.ids l.rows in
    let counted : l.rest + l.count ≡ l.at = v.4.all ∙ length-take l.at q ∙ omega arith in
    let here = same_here q m l.at v.3 in
    let next = take_next q l.at vacant (omega arith) in
    let id-here : get_or l.ids l.at 0 ≡ e.id = sym (id_is l.ids l.rows l.at (omega arith)) ∙ ap (λ (x : Entry). x.id) here in
    elim c.match-found.branch [
      | in-None w ↦
          let found : Searched a.setup l.taken_rows l.count e.request c.plan_with-found.new.rows 0 = rw (← r) w.in-None.ensures.searched in
          rw (w.ids-is, w.rows-is, w.taken_ids-is, w.left-is, w.code-is, w.count-is, w.rest-is) (
            v.0,
            w.copy_entry.ensures.size,
            omega arith,
            rw w.copy_entry.ensures.queue (same_put q m l.at v.3 l.rest _ (omega arith)),
            rw (w.copy_entry.ensures.queue, here, next) (parted_passes v.4 e found refl (omega arith)),
            rw next (left_passes (take l.at q) v.4.rows_taken e found v.5 refl),
          )
      | in-Some w ↦
          let more = w.in-Some.ensures.left_value_2 in
          let found : Searched a.setup l.taken_rows l.count e.request c.plan_with-found.new.rows w.in-Some.extended.code = rw (← r) w.in-Some.ensures.searched in
          rw (w.ids-is, w.rows-is, w.taken_ids-is, w.left-is, w.code-is, w.count-is, w.rest-is) (
            v.0,
            v.1,
            omega arith,
            same_later q m l.at v.3,
            rw (next, id-here) (parted_takes v.4 e found more.0),
            rw next (left_takes (take l.at q) v.4.rows_taken e found v.5 (rw (← r) more.1) more.0),
          )
    ]
