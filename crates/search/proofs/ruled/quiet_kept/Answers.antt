use mathlib.Core.Path.{sym, ap, ◌∙◌}
use lib.Dec.{eqb}
use borrow.Author.Tests.{ne_eqb}
use Rattle.requests.specs.declared.CounterSet.{CounterSet}
use Rattle.search.specs.Counters.{with_counters}
use Rattle.search.specs.Rows.{rows_from}
use Rattle.search.proofs.RequestRows.{rows_length}
use Rattle.search.proofs.RuledRows.{kept_none, kept_one, kept_more}
use Rattle.search.proofs.ruled.quiet_kept.Goals as goal

pub returns-then-not-any_lone : goal.returns-then-not-any_lone
returns-then-not-any_lone c =
    let a = c.args in
    let none = c.if-not-any_lone.true in
    rw none (sym (kept_none (with_counters a.device a.usable) (rows_from a.rows.now 0 a.count) (sym c.any_lone.ensures ∙ none)))

pub returns-then-count-eq1 : goal.returns-then-count-eq1
returns-then-count-eq1 c =
    let a = c.args in
    let all = ap (λ (x : CounterSet). x.0) c.all_counters.ensures in
    ap (eqb a.usable.0) all
    ∙ sym (kept_one (with_counters a.device a.usable) (rows_from a.rows.now 0 a.count) (sym c.any_lone.ensures ∙ c.if-not-any_lone.false) (rows_length a.rows.now 0 a.count ∙ c.if-count-eq1.true))

pub returns-else-count-eq1 : goal.returns-else-count-eq1
returns-else-count-eq1 c =
    let a = c.args in
    ne_eqb a.count 1 c.if-count-eq1.false
    ∙ sym (kept_more (with_counters a.device a.usable) (rows_from a.rows.now 0 a.count) (sym c.any_lone.ensures ∙ c.if-not-any_lone.false) (λ one. c.if-count-eq1.false (sym (rows_length a.rows.now 0 a.count) ∙ one)))
