use mathlib.Core.Path.{◌≡◌, sym, ◌∙◌}
use mathlib.Core.Bool.{true, false}
use borrow.Author.Tests.{eq-eqb, ne_eqb}
use Rattle.lent_planner.specs.Surveys.{may_count, ended, spoiled}
use Rattle.lent_planner.proofs.SurveySteps.{step_broken, step_ended, step_counted, step_spoiled, count_left}
use Rattle.lent_planner.proofs.Survey.step.Goals as goal

pub returns-then-self : goal.returns-then-self
returns-then-self c = sym (step_broken _ _ _ c.if-self.true)

pub returns-then-e-eq0 : goal.returns-then-e-eq0
unfolding ended
returns-then-e-eq0 c = rw c.all_zero.ensures (sym (step_ended _ _ _ c.if-self.false (eq-eqb _ _ c.if-e-eq0.true)))

pub take-requires : goal.take-requires
take-requires c =
    let m : may_count _ _ _ ≡ true = sym c.may_count.ensures ∙ c.if-may_count.true in
    count_left _ _ _ m

pub returns-then-may_count : goal.returns-then-may_count
returns-then-may_count c =
    let m : may_count _ _ _ ≡ true = sym c.may_count.ensures ∙ c.if-may_count.true in
    rw (c.count.ensures, c.take.ensures) (sym (step_counted _ _ _ c.if-self.false (ne_eqb _ _ c.if-e-eq0.false) m))

pub returns-else-may_count : goal.returns-else-may_count
unfolding spoiled
returns-else-may_count c =
    let m : may_count _ _ _ ≡ false = sym c.may_count.ensures ∙ c.if-may_count.false in
    sym (step_spoiled _ _ _ c.if-self.false (ne_eqb _ _ c.if-e-eq0.false) m)
