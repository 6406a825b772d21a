use mathlib.Core.Path.{◌≡◌}
use mathlib.Core.List.{map}
use lib.ListN.{length}
use Rattle.plans.specs.Narrowed.{narrowed}
use Rattle.search.specs.Rows.{rows_from}
use Rattle.search.proofs.ruled.narrow_rows.Given as goal

abbrev pub invariant-loop-i : goal.invariant-loop-i
invariant-loop-i l = (length l.others ≡ 32) × (rows_from l.others 0 l.i ≡ map (narrowed l.device) (rows_from l.rows 0 l.i))
