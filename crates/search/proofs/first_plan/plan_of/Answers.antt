use Rattle.plans.specs.Search.{first_plan}
use Rattle.search.proofs.Giving.{found_none, found_some}
use Rattle.search.proofs.first_plan.plan_of.Goals as goal

pub returns-then-code-eq0 : goal.returns-then-code-eq0
returns-then-code-eq0 c =
    let a = c.args in
    found_none c.plan_rows-code.result (first_plan a.setup a.requests.now) (rw c.put_requests.ensures at c.plan_rows-code.ensures) c.if-code-eq0.true

pub returns : goal.returns
returns c =
    let a = c.args in
    found_some a.setup a.requests.now c.plan_rows-code.result c.places_of.result
    (rw c.put_requests.ensures at c.plan_rows-code.ensures) c.if-code-eq0.false (rw c.put_requests.ensures at c.places_of.ensures)
