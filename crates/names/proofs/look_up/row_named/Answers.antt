use mathlib.Core.Path.{sym, ◌∙◌}
use Rattle.std.proofs.Common.{rules}
use Rattle.names.specs.Lists.{lists_of, row_texts}
use Rattle.names.specs.LookUp.{top_row}
use Rattle.names.proofs.Searching.{lists_good, one_of_two}
use Rattle.names.proofs.look_up.row_named.Goals as goal

pub returns : goal.returns
returns c =
    let a = c.args in
    one_of_two c.row_in.result c.or_else.result (top_row a.name.now (row_texts a.lists.now.site.now)) (top_row a.name.now (row_texts a.lists.now.house.now)) c.row_in.ensures
    c.or_else.ensures (λ p. search rules)
    ∙ sym (lists_good (lists_of a.lists.now) a.name.now c.requires)
