-- The list of the eight rows is cut to the requests that count (`rows_listed`), and the answer is read at i.
use Rattle.std.proofs.Common.{◌≡◌, refl, arith}
use Rattle.plans.specs.Search.{first_plan}
use Rattle.search.specs.Rows.{rows_from}
use Rattle.search.specs.Found.{nothing, found_of}
use Rattle.bench.specs.Numbers.{setup_for, place_number}
use Rattle.bench.proofs.Listed.{rows_listed, digits_few}
use Rattle.bench.proofs.rattle_first_plan.Goals as goal
use Rattle.bench.proofs.rattle_first_plan.Goals.{After-first_plan}

-- the answer is that of the requests in the rows
answered : (c : After-first_plan) → c.first_plan.result ≡ found_of (first_plan (setup_for c.args.usable) (rows_from c.args.rows.now 0 c.args.count))
answered c =
    rw (
      c.setup_for-setup.ensures,
      rows_listed c.args.rows.now c.args.count _ _ _ _ _ _ _ _ (omega arith)
          c.request_at.ensures c.request_at-2.ensures c.request_at-3.ensures c.request_at-4.ensures
          c.request_at-5.ensures c.request_at-6.ensures c.request_at-7.ensures c.request_at-8.ensures,
    )
    at c.first_plan.ensures

pub overflow_add-result : goal.overflow_add-result
overflow_add-result c = omega (arith, digits_few _ _ c.digits_of.ensures)

pub returns-in-Some : goal.returns-in-Some
unfolding nothing place_number
returns-in-Some c =
    rw (← answered (goal.at.returns-in-Some c).After-first_plan, c.in-Some.is, c.digits_of.ensures) refl

pub returns-in-None : goal.returns-in-None
unfolding place_number
returns-in-None c =
    rw (← answered (goal.at.returns-in-None c).After-first_plan, c.in-None.is) refl
