use mathlib.Core.Path.{ap, sym, ◌∙◌}
use Rattle.std.proofs.Common.{rules, tests}
use Rattle.std.proofs.lemmas.Iterator.Consumers.{YieldsList-from_first}
use Rattle.std.proofs.lemmas.Iterator.Search.{all_from_yields_List}
use Rattle.names.specs.Rows.{row_of, is_formed}
use Rattle.names.specs.Lists.{row_texts}
use Rattle.names.proofs.Searching.{all_rows, list_ended, list_open}
use Rattle.names.proofs.lists.list_formed.Goals as goal

pub returns-then-is_ended : goal.returns-then-is_ended
returns-then-is_ended c =
    let list = c.args.list.now in
    let all =
    all_from_yields_List (λ t. is_formed (row_of t)) c.all.new.self _ c.all.result c.all.ensures.ran
    (YieldsList-from_first (λ x. x.now) (λ s. row_texts s.rest.now) {s = c.of.result} (row_texts list) (ap row_texts c.of.ensures)) (λ x b q k. search (rules, tests)) in
    all ∙ all_rows (row_texts list) ∙ sym (list_ended list (sym c.is_ended.ensures ∙ c.if-is_ended.true))

pub returns-else-is_ended : goal.returns-else-is_ended
returns-else-is_ended c = c.if-is_ended.false ∙ sym (list_open c.args.list.now (sym c.is_ended.ensures ∙ c.if-is_ended.false))
