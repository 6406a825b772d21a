use mathlib.Core.Path.{sym, ◌∙◌}
use native.Mathlib.Omega.{arith}
use Rattle.plans.specs.Narrowed.{only_counter}
use Rattle.search.proofs.CounterBits.{shifted, has_below}
use Rattle.search.proofs.ruled.only_counter.Goals as goal

pub overflow_shl-result : goal.overflow_shl-result
overflow_shl-result c =
    let a = c.args in
    has_below 64 a.set a.k (omega arith) (sym c.has.ensures ∙ c.if-has.true)

pub returns-then-has : goal.returns-then-has
unfolding only_counter
returns-then-has c =
    let a = c.args in
    let on = sym c.has.ensures ∙ c.if-has.true in
    rw (shifted a.k (omega (arith, has_below 64 a.set a.k (omega arith) on)), on)
