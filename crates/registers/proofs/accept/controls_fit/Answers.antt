use mathlib.Core.Path.{◌∙◌}
use native.Mathlib.Omega.{arith}
use lib.ListN.{take}
use Rattle.std.proofs.Common.{rules, tests}
use Rattle.std.proofs.lemmas.Iterator.{YieldsList-from_slice}
use Rattle.std.proofs.lemmas.Iterator.Search.{all_from_yields_List}
use Rattle.requests.specs.Devices.{counter_count, capacity}
use Rattle.plans.proofs.PlanLengthHolds.{plan_length}
use Rattle.layouts.specs.Read.{control_fits}
use Rattle.registers.proofs.Ranges.{all_taken}
use Rattle.registers.proofs.accept.controls_fit.Goals as goal

pub returns : goal.returns
unfolding capacity
returns c =
    let a = c.args in
    let n = counter_count a.setup.device in
    let small = plan_length.device_at_most a.setup.device in
    all_from_yields_List (control_fits a.setup) _ _ _ c.all.ensures.ran (YieldsList-from_slice (take n a.words.now) cc) (λ x b q k. search (rules, tests))
    ∙ all_taken a.words.now 0 n (control_fits a.setup) (omega arith)
