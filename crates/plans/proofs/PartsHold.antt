-- A part of a plan, the length of a plan, and room beside a plan, each by its law. Assumes nothing.
use Rattle.plans.specs.Parts.{Parts}
use Rattle.plans.proofs.PartialPlans.{part_planned}
use Rattle.plans.proofs.PlanLengthHolds.{at_most}
use Rattle.plans.proofs.FreeEvents.{room_beside}

pub parts : Parts
parts = record { part = part_planned; at_most = at_most; room = room_beside }
