use mathlib.Core.Path.{◌≡◌}
use Prim.Native.Nat.{◌≤◌, min}
use Rattle.requests.specs.Devices.{capacity}
use Rattle.registers.proofs.PlanSteps.{settings_from}
use Rattle.registers.proofs.plan_settings.settings_in.Given as goal

abbrev pub invariant-loop-i : goal.invariant-loop-i
invariant-loop-i l = (l.i ≤ min l.count capacity) × (l.settings ≡ settings_from l.setup l.code l.rows (min l.count capacity) l.i)
