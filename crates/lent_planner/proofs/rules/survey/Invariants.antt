use Rattle.std.proofs.Common.{◌≡◌, ◌≤◌, drop}
use Rattle.lent_planner.specs.Surveys.{fresh, survey_from, surveyed}
use Rattle.lent_planner.proofs.rules.survey.Given as goal

abbrev pub invariant-loop-e : goal.invariant-loop-e
invariant-loop-e l = record {
  counted : l.t.len ≤ l.e-index;
  rest : survey_from l.left.words l.t (drop l.e-index l.rows) ≡ surveyed (fresh l.fn.setup l.fn.id) l.rows;
}
