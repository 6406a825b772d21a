use mathlib.Core.Path.{sym, ◌∙◌}
use Rattle.sessions.proofs.TableAnswers.{open_order, open_refused, open_with_lem}
use Rattle.planner.proofs.open.open.Goals as goal

pub returns-then-opened : goal.returns-then-opened
returns-then-opened c = let a = c.args in open_order a.session a.opening c.if-opened.true

pub returns-in-Err : goal.returns-in-Err
returns-in-Err c =
    let a = c.args in
    open_refused a.session a.opening _ c.if-opened.false (sym c.setup_of.ensures ∙ c.in-Err.is)

pub returns-in-Ok : goal.returns-in-Ok
returns-in-Ok c =
    let a = c.args in
    rw c.opened_with.ensures (open_with_lem a.session a.opening _ c.if-opened.false (sym c.setup_of.ensures ∙ c.in-Ok.is))
