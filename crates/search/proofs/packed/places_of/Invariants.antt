use mathlib.Core.Path.{◌≡◌}
use Rattle.search.specs.Rows.{rows_from}
use Rattle.plans.specs.Packed.{places_from}
use Rattle.search.specs.Found.{given}
use Rattle.search.proofs.packed.places_of.Given as goal

abbrev pub invariant-loop-i : goal.invariant-loop-i
invariant-loop-i l = l.places ≡ given (places_from l.code 0 (rows_from l.rows 0 l.i))
