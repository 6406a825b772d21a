use mathlib.Core.Path.{sym, ◌∙◌}
use Rattle.requests.proofs.Openings.{opened_some, opened_none}
use Rattle.layouts.proofs.ReaderAnswers.{read_unopened, read_accepted, read_not_left}
use Rattle.registers.proofs.reader.read.Goals as goal

pub returns-then-not-accepts : goal.returns-then-not-accepts
returns-then-not-accepts c =
    let a = c.args in
    let with = opened_some a.opening _ (sym c.setup_of.ensures ∙ c.in-Ok.is) in
    sym (read_not_left a.opening _ a.values with (sym c.accepts.ensures ∙ c.if-not-accepts.true))

pub returns : goal.returns
returns c =
    let a = c.args in
    let with = opened_some a.opening _ (sym c.setup_of.ensures ∙ c.in-Ok.is) in
    c.reading_of.ensures ∙ sym (read_accepted a.opening _ a.values with (sym c.accepts.ensures ∙ c.if-not-accepts.false))

pub returns-in_default : goal.returns-in_default
returns-in_default c =
    let a = c.args in
    let refused = opened_none a.opening _ (sym c.setup_of.ensures ∙ c.in_default.is) in
    sym (read_unopened a.opening a.values refused.0)
