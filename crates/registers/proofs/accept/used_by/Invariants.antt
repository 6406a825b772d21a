use mathlib.Core.Path.{◌≡◌}
use mathlib.Core.Bool.{not}
use Prim.Native.Nat.{◌-◌}
use lib.Dec.{eqb}
use lib.ListN.{get_or}
use Rattle.requests.specs.Devices.{counter_count}
use Rattle.layouts.specs.Settings.{set_from}
use Rattle.registers.proofs.accept.used_by.Given as goal

abbrev pub invariant-loop-counter : goal.invariant-loop-counter
invariant-loop-counter l =
    l.bits ≡ set_from (counter_count l.fn.device - l.counter) l.counter (λ k. not (eqb (get_or l.words k 0) 0))
