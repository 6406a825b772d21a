use mathlib.Core.Path.{◌≡◌}
use mathlib.Core.List.{[], ◌∷◌, ◌++◌, append_assoc}
use Prim.Native.Nat.{◌+◌}
use native.Mathlib.Omega.{arith}
use lib.ListN.{length, get_or, length-append}
use Rattle.sessions.specs.Sessions.{vacant}
use Rattle.planner.specs.Selections.{entries_at}
use Rattle.planner.proofs.Queues.{padded_push}
use Rattle.planner.proofs.Assigning.{entries_length, entries_next}
use Rattle.planner.proofs.requeue.place_behind.Goals as goal

pub loop-i-preserved : goal.loop-i-preserved
unfolding vacant
loop-i-preserved c = λ es size filled.
    let a = c.args in
    let i = c.loop-i.i in
    let so_far = entries_at a.from.now i a.places.now in
    let e = get_or a.from.now (get_or a.places.now i 0) vacant in
    let k : a.len + i ≡ length (es ++ so_far) = rw (length-append, entries_length a.from.now i a.places.now (omega arith)) (omega (arith, size)) in
    rw (c.loop-i.invariant es size filled, entries_next a.from.now i a.places.now (omega arith), ← append_assoc es so_far (e ∷ []))
    (padded_push (es ++ so_far) (a.len + i) e k (omega arith))
