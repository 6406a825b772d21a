use Rattle.std.proofs.Common.{ℕ, List, ◌+◌, ◌≤◌, drop, refl, ap, sym, ◌∙◌, subst, arith}
use lib.ListN.{drop_of_length-le}
use Rattle.requests.specs.declared.Entry.{Entry}
use Rattle.sessions.specs.Sessions.{vacant}
use Rattle.lent_planner.specs.Surveys.{fresh, survey_from, surveyed}
use Rattle.lent_planner.specs.declared.Survey.{Survey}
use Rattle.lent_planner.proofs.SurveySteps.{len_next}
use Rattle.lent_planner.proofs.Drops.{drop_next}
use Rattle.lent_planner.proofs.rules.survey.Goals as goal

pub loop-e-init : goal.loop-e-init
unfolding surveyed fresh
loop-e-init c =
    rw (c.fresh-t.ensures, c.all-left.ensures) (record { counted = omega arith; rest = refl })

pub loop-e-preserved : goal.loop-e-preserved
unfolding survey_from vacant
loop-e-preserved c =
    let i : ℕ = c.loop-e.e-index in
    let rows : List Entry = c.args.rows.now in
    record {
      counted = subst (λ (p : Survey × List ℕ). p.0.len ≤ i + 1) (sym c.step.ensures) (len_next c.loop-e.left.words c.loop-e.t _ i c.loop-e.invariant.counted);
      rest =
          ap (λ (p : Survey × List ℕ). survey_from p.1 p.0 (drop (i + 1) rows)) c.step.ensures
          ∙ ap (survey_from c.loop-e.left.words c.loop-e.t) (sym (drop_next vacant rows i c.loop-e-test.true))
          ∙ c.loop-e.invariant.rest;
    }

pub returns : goal.returns
unfolding survey_from
returns c =
    ap (survey_from c.loop-e.left.words c.loop-e.t) (sym (drop_of_length-le c.args.rows.now c.loop-e-test.false)) ∙ c.loop-e.invariant.rest
