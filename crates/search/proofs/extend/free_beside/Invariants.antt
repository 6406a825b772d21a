use Rattle.plans.specs.Legal.{counters}
use Rattle.search.specs.Rows.{rows_from}
use Rattle.plans.specs.Packed.{places_from}
use Rattle.search.specs.Beside.{Without}
use Rattle.search.proofs.extend.free_beside.Given as goal

abbrev pub invariant-loop-i : goal.invariant-loop-i
invariant-loop-i l = Without l.initial.free (counters (places_from l.code 0 (rows_from l.rows 0 l.i))) l.free
