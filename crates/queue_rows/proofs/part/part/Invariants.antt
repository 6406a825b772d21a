use mathlib.Core.Path.{◌≡◌}
use Prim.Native.Nat.{◌-◌, ◌≤◌, ◌<◌}
use lib.ListN.{take, drop}
use Rattle.plans.specs.Reach.{left_of}
use Rattle.sessions.specs.Turns.{requests_of, taken}
use Rattle.queue_rows.specs.Rows.{Sized, queue_in}
use Rattle.queue_rows.specs.Parting.{Parted}
use Rattle.queue_rows.proofs.part.part.Given as goal

abbrev pub invariant-loop-at : goal.invariant-loop-at
invariant-loop-at l =
    (l.n ≤ 16) × Sized l.ids l.rows × (l.at ≤ l.n) × (drop l.at (queue_in l.ids l.rows) ≡ drop l.at (queue_in l.initial.ids l.initial.rows))
    × Parted l.setup (take l.at (queue_in l.initial.ids l.initial.rows)) (queue_in l.ids l.rows) l.taken_ids l.taken_rows (record { code = l.code; count = l.count; rest = l.rest })
    × (l.setup.usable.0 < 64 → l.left ≡ left_of l.setup (requests_of (taken l.setup (take l.at (queue_in l.initial.ids l.initial.rows)))))

abbrev pub decreases-loop-at : goal.decreases-loop-at
decreases-loop-at l = l.n - l.at
