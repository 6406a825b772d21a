use mathlib.Core.Path.{refl, ◌∙◌}
use Prim.Native.Nat.{◌<◌}
use native.Mathlib.Omega.{arith}
use lib.ListN.{get_or}
use Rattle.std.proofs.Common.{rules, tests}
use Rattle.std.proofs.lemmas.Iterator.{YieldsList-from_range, serves_from_Range}
use Rattle.std.proofs.lemmas.Iterator.Search.{all_from_yields_List}
use Rattle.requests.specs.Devices.{capacity, counter_count}
use Rattle.plans.proofs.PlanLengthHolds.{plan_length}
use Rattle.layouts.specs.Read.{rule_fits}
use Rattle.registers.proofs.Ranges.{all_below}
use Rattle.registers.proofs.precise.rules_fit.Goals as goal

pub all-requires-clause-callable : goal.all-requires-clause-callable
all-requires-clause-callable c =
    let small = plan_length.device_at_most c.args.setup.device in
    serves_from_Range (λ x q k. search (rules, tests))
    (λ x low high. let inside : x < capacity = omega (arith, c.counter_count.ensures) in λ _ _ _ _ _ _ _. inside)

pub returns : goal.returns
returns c =
    let a = c.args in
    all_from_yields_List (rule_fits a.setup (λ k. get_or a.words.now k 0)) _ _ _ c.all.ensures.ran
    (YieldsList-from_range 0 c.counter_count.result (counter_count a.setup.device) refl (omega (arith, c.counter_count.ensures))) (λ x b q k. search (rules, tests))
    ∙ all_below (counter_count a.setup.device) _
