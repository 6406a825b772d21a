use mathlib.Core.Path.{ap, ◌∙◌}
use Rattle.std.proofs.Common.{rules, tests}
use Rattle.std.proofs.lemmas.Iterator.Consumers.{YieldsList-from_first}
use Rattle.std.proofs.lemmas.Iterator.Search.{find_from_yields_List}
use Rattle.names.specs.Rows.{has_name}
use Rattle.names.specs.Lists.{row_texts}
use Rattle.names.proofs.Searching.{first_named}
use Rattle.names.proofs.look_up.row_in.Goals as goal

pub returns : goal.returns
returns c =
    let list = c.args.list.now in
    let name = c.args.name.now in
    find_from_yields_List (has_name name) c.find.new.self _ c.find.result c.find.ensures.ran
    (YieldsList-from_first (λ x. x.now) (λ s. row_texts s.rest.now) {s = c.of.result} (row_texts list) (ap row_texts c.of.ensures))
    (λ x b q k. search (rules, tests))
    ∙ first_named name (row_texts list)
