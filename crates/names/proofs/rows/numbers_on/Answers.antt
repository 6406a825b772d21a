use mathlib.Core.Path.{sym, ◌∙◌}
use native.Mathlib.Omega.{arith}
use Rattle.names.proofs.RowReading.{digits_fit}
use Rattle.names.proofs.rows.numbers_on.Goals as goal

pub overflow_cast-result : goal.overflow_cast-result
overflow_cast-result c = let fits = digits_fit _ _ (sym c.number_at.ensures ∙ c.in_ok-code.was) in omega arith

pub overflow_cast-result-2 : goal.overflow_cast-result-2
overflow_cast-result-2 c = let fits = digits_fit _ _ (sym c.number_at-2.ensures ∙ c.in_ok-mask.was) in omega arith
