use mathlib.Core.Path.{sym, ◌∙◌}
use native.Mathlib.Omega.{arith}
use Rattle.grammar.proofs.Decimals.{decimal_only}
use Rattle.scanner.proofs.numbers.core_number.Goals as goal

pub overflow_add-result : goal.overflow_add-result
overflow_add-result c = let told = decimal_only _ _ (sym c.decimal.ensures ∙ c.in_ok-core.was) in omega (arith, told.0)
