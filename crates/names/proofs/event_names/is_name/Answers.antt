use mathlib.Core.Path.{sym, ◌∙◌}
use mathlib.Core.Logic.{◌≢◌, ⊎_elim}
use native.Mathlib.Omega.{arith}
use lib.ListN.{length}
use borrow.Author.Tests.{eqb-false, eqb-true}
use Rattle.std.proofs.Common.{rules, tests}
use Rattle.std.proofs.lemmas.Iterator.{YieldsList-from_slice}
use Rattle.std.proofs.lemmas.Iterator.Search.{all_from_yields_List}
use Rattle.names.specs.EventNames.{name_byte}
use Rattle.names.proofs.NameLoops.{all_name_bytes, no_name, long_name, short_name}
use Rattle.names.proofs.event_names.is_name.Goals as goal

pub returns-then-is_empty : goal.returns-then-is_empty
returns-then-is_empty c =
    let f = c.args.field.now in
    ⊎_elim
    (λ e. sym (no_name f (eqb-true (length f) 0 (sym c.is_empty.ensures ∙ e))))
    (λ long. sym (long_name f long.1))
    c.then-is_empty.either

pub returns : goal.returns
returns c =
    let f = c.args.field.now in
    let all = all_from_yields_List name_byte _ _ _ c.all.ensures.ran (YieldsList-from_slice f cc) (λ x b q k. search (rules, tests)) in
    let some : length f ≢ 0 = eqb-false (length f) 0 (sym c.is_empty.ensures ∙ c.if-is_empty.false) in
    all ∙ all_name_bytes f ∙ sym (short_name f some (omega arith))
