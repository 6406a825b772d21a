use mathlib.Core.Path.{◌≡◌, ap, sym, ◌∙◌}
use native.Mathlib.Omega.{arith}
use lib.ListN.{length}
use lib.Seq.{length-take-le}
use borrow.Author.Tests.{eqb-true}
use Rattle.names.proofs.Newlines.{top_within, top_and_rest, no_row}
use Rattle.names.proofs.lists.RowsIterator.next.Goals as goal

pub returns-then-is_empty-clause-steps : goal.returns-then-is_empty-clause-steps
returns-then-is_empty-clause-steps c =
    let list = c.args.self.now.rest.now in
    let none : length list ≡ 0 = eqb-true (length list) 0 (sym c.is_empty.ensures ∙ c.if-is_empty.true) in
    let e = no_row list 0 (omega arith) in
    (e, e)

pub overflow_add-end : goal.overflow_add-end
overflow_add-end c =
    let within = top_within c.args.self.now.rest.now c.first_end-end.result (sym c.is_empty.ensures ∙ c.if-is_empty.false) c.first_end-end.ensures in
    omega (arith, within)

pub slice_bounds-result-end : goal.slice_bounds-result-end
slice_bounds-result-end c =
    sym (length-take-le _ _ (top_within c.args.self.now.rest.now c.first_end-end.result (sym c.is_empty.ensures ∙ c.if-is_empty.false) c.first_end-end.ensures))

pub returns-clause-steps : goal.returns-clause-steps
returns-clause-steps c =
    top_and_rest c.args.self.now.rest.now c.first_end-end.result (sym c.is_empty.ensures ∙ c.if-is_empty.false) c.first_end-end.ensures c.min.result c.min.ensures

pub returns-clause-goes : goal.returns-clause-goes
returns-clause-goes c =
    let row =
    top_and_rest c.args.self.now.rest.now c.first_end-end.result (sym c.is_empty.ensures ∙ c.if-is_empty.false) c.first_end-end.ensures c.min.result
    c.min.ensures in
    record { on = λ _. (tt, tt, omega (arith, ap length row)); keeps = tt; rests = λ _. tt }
