use mathlib.Core.Path.{◌≡◌}
use Prim.Native.Nat.{◌≤◌}
use Rattle.requests.specs.Devices.{size}
use Rattle.checks.proofs.set.size_of.Given as goal

abbrev pub invariant-loop-counter : goal.invariant-loop-counter
invariant-loop-counter l = (l.size ≤ l.counter) × (l.size ≡ size l.counter l.set)
