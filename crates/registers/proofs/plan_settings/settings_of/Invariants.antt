use mathlib.Core.Path.{◌≡◌}
use Prim.Native.Nat.{min, ◌≤◌}
use lib.ListN.{length, take, drop}
use Rattle.layouts.specs.Settings.{settings_of}
use Rattle.registers.proofs.plan_settings.settings_of.Given as goal

abbrev pub invariant-loop-i : goal.invariant-loop-i
invariant-loop-i l =
    (length l.requests ≡ 8)
    × (length l.places ≡ 8)
    × (l.i ≤ min l.count 8)
    × (l.settings ≡ settings_of l.setup (drop l.i (take l.count l.requests)) (drop l.i (take l.count l.places)))
