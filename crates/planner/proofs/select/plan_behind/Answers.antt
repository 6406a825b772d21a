use native.Mathlib.Omega.{arith}
use Rattle.search.proofs.RuledRows.{plan_alike}
use Rattle.planner.proofs.Searching.{searched_extended, searched_crowded, searched_rows, beside_few, code_few}
use Rattle.planner.proofs.select.plan_behind.Goals as goal

pub with_counter-requires : goal.with_counter-requires
with_counter-requires c =
    let a = c.args in
    let few = c.requires.count_bound.0 in
    (omega (arith, few), beside_few (rw c.in-Some.is at c.counter_beside-counter.ensures), code_few a.setup a.rows.now a.count a.code c.requires.code_value.0 (omega (arith, few)))

pub returns-in-Some : goal.returns-in-Some
returns-in-Some c =
    let a = c.args in
    searched_extended a.setup a.rows.now a.count a.request _ c.put_request.ensures.rows_after c.put_request.ensures.at_after c.requires.count_bound.1
    a.code c.requires.code_value.0 c.requires.code_value.1 _ (rw c.in-Some.is at c.counter_beside-counter.ensures) _ c.with_counter.ensures

pub returns-then-has_rules : goal.returns-then-has_rules
returns-then-has_rules c =
    let a = c.args in
    searched_rows a.setup a.rows.now a.count a.request _ c.put_request.ensures.rows_after c.put_request.ensures.at_after c.requires.count_bound.1 _ (plan_alike a.setup _ _ c.plan_ruled.ensures)

pub returns-then-crowded_by_last : goal.returns-then-crowded_by_last
returns-then-crowded_by_last c =
    let a = c.args in
    searched_crowded a.setup a.rows.now a.count a.request _ c.put_request.ensures.rows_after c.put_request.ensures.at_after c.requires.count_bound.1 (c.crowded_by_last.ensures c.if-crowded_by_last.true)

pub returns : goal.returns
returns c =
    let a = c.args in
    searched_rows a.setup a.rows.now a.count a.request _ c.put_request.ensures.rows_after c.put_request.ensures.at_after c.requires.count_bound.1 _ c.plan_unruled.ensures
