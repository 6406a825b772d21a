use mathlib.Core.Path.{sym, ◌∙◌}
use Rattle.names.proofs.Searching.{lists_bad}
use Rattle.names.proofs.look_up.look_up.Goals as goal

pub returns : goal.returns
returns c =
    let a = c.args in
    sym (lists_bad (record { site = a.site.now; house = a.house.now }) a.name.now (sym c.lists_formed.ensures ∙ c.if-lists_formed.false))
