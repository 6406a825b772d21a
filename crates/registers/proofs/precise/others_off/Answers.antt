use mathlib.Core.Path.{refl, ◌∙◌}
use Prim.Native.Nat.{◌<◌}
use native.Mathlib.Omega.{arith}
use lib.Dec.{eqb}
use lib.ListN.{get_or}
use Rattle.std.proofs.Common.{rules, tests}
use Rattle.std.proofs.lemmas.Iterator.{YieldsList-from_range, serves_from_Range}
use Rattle.std.proofs.lemmas.Iterator.Search.{all_from_yields_List}
use Rattle.requests.specs.Choice.{either}
use Rattle.requests.specs.Devices.{counter_count, capacity}
use Rattle.plans.proofs.PlanLengthHolds.{plan_length}
use Rattle.registers.proofs.Ranges.{all_below}
use Rattle.registers.proofs.precise.others_off.Goals as goal

pub all-requires-clause-callable : goal.all-requires-clause-callable
all-requires-clause-callable c =
    let small = plan_length.device_at_most c.args.device in
    serves_from_Range (λ x q k. search (rules, tests))
    (λ x low high. let inside : x < capacity = omega (arith, c.counter_count.ensures) in λ _ _ _ _ _ _ _. inside)

pub returns : goal.returns
returns c =
    let a = c.args in
    all_from_yields_List (λ k. either (eqb k a.allowed) (eqb (get_or a.words.now k 0) 0)) _ _ _ c.all.ensures.ran
    (YieldsList-from_range 0 c.counter_count.result (counter_count a.device) refl (omega (arith, c.counter_count.ensures))) (λ x b q k. search (rules, tests))
    ∙ all_below (counter_count a.device) _
