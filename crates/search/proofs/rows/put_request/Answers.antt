use mathlib.Core.Path.{◌∙◌}
use native.Mathlib.Omega.{arith}
use Rattle.search.specs.Rows.{set_row}
use Rattle.search.proofs.RequestRows.{row_here}
use Rattle.search.proofs.rows.put_request.Goals as goal

pub returns-clause-at_after : goal.returns-clause-at_after
unfolding set_row
returns-clause-at_after c =
    let a = c.args in
    let r = c.row_of-row.result in
    row_here a.rows.now a.at r.kind r.a r.b r.c (omega (arith, c.requires.1)) ∙ c.row_of-row.ensures.c_value
