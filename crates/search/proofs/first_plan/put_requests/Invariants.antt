use mathlib.Core.Path.{◌≡◌}
use lib.ListN.{length, take}
use Rattle.search.specs.Rows.{rows_from}
use Rattle.search.proofs.first_plan.put_requests.Given as goal

abbrev pub invariant-loop-i : goal.invariant-loop-i
invariant-loop-i l = (length l.rows ≡ 32) × (rows_from l.rows 0 l.i ≡ take l.i l.requests)
