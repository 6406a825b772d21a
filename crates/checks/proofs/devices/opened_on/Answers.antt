use mathlib.Core.Path.{sym, ◌∙◌}
use Rattle.std.proofs.Common.{rules}
use Rattle.requests.specs.Devices.{opened_on}
use Rattle.requests.proofs.AnswerTests.{answer_some}
use Rattle.checks.proofs.devices.opened_on.Goals as goal

pub returns-in_err-opening_answer : goal.returns-in_err-opening_answer
unfolding opened_on
returns-in_err-opening_answer c = rw (answer_some _ _ (sym c.opening_answer.ensures ∙ c.in_err-opening_answer.was)) (search rules)
