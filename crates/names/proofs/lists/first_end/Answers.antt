use mathlib.Core.Path.{◌∙◌}
use Rattle.std.proofs.Common.{rules, tests, eqb}
use Rattle.std.proofs.lemmas.Iterator.{YieldsList-from_slice}
use Rattle.std.proofs.lemmas.Iterator.Search.{position_from_yields_List}
use Rattle.names.proofs.Newlines.{newline_at}
use Rattle.names.proofs.lists.first_end.Goals as goal

pub returns : goal.returns
returns c =
    let list = c.args.list.now in
    let place =
    position_from_yields_List (λ b. eqb b 10) _ _ c.position.result c.position.ensures.ran (YieldsList-from_slice list cc)
    (λ x b q k. search (rules, tests)) in
    c.unwrap_or.ensures ∙ newline_at list c.position.result place
