use mathlib.Core.Path.{◌≡◌}
use Prim.Native.Nat.{◌+◌, ◌-◌, ◌≤◌, ◌<◌}
use lib.ListN.{length, take}
use Rattle.plans.specs.Reach.{left_of}
use Rattle.sessions.specs.Turns.{requests_of, taken as taken_by_lem}
use Rattle.planner.specs.Selections.{Selected}
use Rattle.planner.proofs.select.select.Given as goal

abbrev pub invariant-loop-at : goal.invariant-loop-at
invariant-loop-at l =
    (length l.session.queue ≡ 16) × (length l.rows ≡ 32) × (l.at ≤ l.n) × (l.count + l.rest ≡ l.at)
    × Selected l.session.setup l.session.queue (take l.at l.session.queue) l.rows l.taken l.passed (record { code = l.code; count = l.count; rest = l.rest })
    × (l.session.setup.usable.0 < 64 → l.left ≡ left_of l.session.setup (requests_of (taken_by_lem l.session.setup (take l.at l.session.queue))))

abbrev pub decreases-loop-at : goal.decreases-loop-at
decreases-loop-at l = l.n - l.at
