use mathlib.Core.Path.{◌≡◌, refl}
use Prim.Native.Nat.{◌<◌}
use native.Mathlib.Omega.{arith}
use lib.ListN.{length, take, get_or}
use Rattle.sessions.specs.Sessions.{vacant}
use Rattle.requests.proofs.Windows.{length_mapped, take_next}
use Rattle.planner.proofs.Selecting.{selected_none, selected_takes, selected_passes, taken_room, left_none, left_takes, left_passes}
use Rattle.std.proofs.Common.{rules}
use Rattle.planner.proofs.select.select.Goals as goal
use Rattle.planner.proofs.select.select.Goals.{in-None, in-Some}

pub loop-at-init : goal.loop-at-init
loop-at-init c =
    let length-16 : length c.args.session.queue ≡ 16 = search (length_mapped, rules) in
    let s = c.args.session in
    (length-16, c.requires.0, omega arith, omega arith, selected_none s.setup s.queue _ _ _ c.requires.1 c.requires.2, λ fits. left_none s.setup _ (c.left_at_first-left.ensures fits))

pub bounds-taken-count : goal.bounds-taken-count
unfolding vacant
bounds-taken-count c =
    let room : c.loop-at.count < 8 = let q = c.args.session.queue in
    (taken_room (take c.loop-at.at q) c.loop-at.invariant.4.rows_taken (get_or q c.loop-at.at vacant) c.in-Some.ensures.searched c.in-Some.ensures.left_value_2.0).1 in
    let r = room in omega arith

pub loop-at-preserved : goal.loop-at-preserved
unfolding vacant
loop-at-preserved c =
    let v = c.loop-at.invariant in
    let q = c.args.session.queue in
    let i = c.loop-at.at in
    let next = take_next q i vacant (omega arith) in
    elim c.match-found.branch [
      | in-None w ↦
          let searched = w.in-None.ensures.searched in
          rw (w.taken-is, w.passed-is, w.left-is, w.code-is, w.count-is, w.rest-is) (
            v.0,
            searched.size,
            omega arith,
            omega arith,
            rw next (selected_passes v.4 i searched refl (omega arith) (omega arith)),
            rw next (left_passes (take i q) v.4.rows_taken (get_or q i vacant) searched v.5 refl),
          )
      | in-Some w ↦
          let searched = w.in-Some.ensures.searched in
          let found = w.in-Some.ensures.left_value_2 in
          rw (w.taken-is, w.passed-is, w.left-is, w.code-is, w.count-is, w.rest-is) (
            v.0,
            searched.size,
            omega arith,
            omega arith,
            rw next (selected_takes v.4 i searched found.0 (omega arith) (omega arith)),
            rw next (left_takes (take i q) v.4.rows_taken (get_or q i vacant) searched v.5 found.1 found.0),
          )
    ]
