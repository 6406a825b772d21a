use Rattle.std.specs.Prelude.{Ok}
use mathlib.Core.Path.{refl, sym, ap, ◌∙◌}
use Rattle.sessions.specs.declared.Session.{Session}
use Rattle.sessions.proofs.TableAnswers.{open_order, open_refused, open_with_lem}
use Rattle.queue_rows.specs.Heads.{session_in, answered_in}
use Rattle.queue_rows.proofs.HeadSessions.{in_after}
use Rattle.queue_rows.proofs.open.open.Goals as goal

pub returns-then-opened : goal.returns-then-opened
unfolding answered_in session_in
returns-then-opened c = λ ids rows. let a = c.args in open_order (session_in a.head ids rows) a.opening c.if-opened.true

pub returns-in-Err : goal.returns-in-Err
unfolding answered_in session_in
returns-in-Err c =
    λ ids rows.
    let a = c.args in
    open_refused (session_in a.head ids rows) a.opening _ c.if-opened.false (sym c.setup_of.ensures ∙ c.in-Err.is)

pub returns-in-Ok : goal.returns-in-Ok
unfolding answered_in session_in
returns-in-Ok c =
    λ ids rows.
    let a = c.args in
    ap (λ (s : Session). record { answer = Ok tt; session = s }) (in_after _ _ 0 ids rows _ refl refl refl)
    ∙ open_with_lem (session_in a.head ids rows) a.opening _ c.if-opened.false (sym c.setup_of.ensures ∙ c.in-Ok.is)
