use Rattle.std.proofs.Common.{◌≡◌, take}
use Rattle.requests.specs.Devices.{capacity}
use Rattle.sessions.specs.Sessions.{unassigned}
use Rattle.planner.specs.Selections.{in_array, planned}
use Rattle.lent_planner.proofs.Choice.assigned.Given as goal

abbrev pub invariant-loop-j : goal.invariant-loop-j
invariant-loop-j l = l.plan ≡ in_array capacity unassigned (planned l.self.plan (take l.j l.self.taken))
