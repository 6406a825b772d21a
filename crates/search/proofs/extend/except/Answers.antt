use mathlib.Core.Path.{sym, ◌∙◌}
use Rattle.search.proofs.FreeBeside.{without_one, without_none}
use Rattle.search.proofs.extend.except.Goals as goal

pub returns-then-has : goal.returns-then-has
returns-then-has c =
    let a = c.args in
    rw c.without.ensures (without_one a.set a.k (sym c.has.ensures ∙ c.if-has.true))

pub returns : goal.returns
returns c = let a = c.args in without_none a.set a.k (sym c.has.ensures ∙ c.if-has.false)
