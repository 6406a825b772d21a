use mathlib.Core.Path.{◌≡◌}
use Rattle.requests.specs.Devices.{capacity}
use Rattle.sessions.specs.Sessions.{unassigned}
use Rattle.planner.specs.Selections.{in_array, entries_at, planned}
use Rattle.planner.proofs.turn.plan_at.Given as goal

abbrev pub invariant-loop-j : goal.invariant-loop-j
invariant-loop-j l = l.plan ≡ in_array capacity unassigned (planned l.code (entries_at l.queue l.j l.places))
