-- The session of 16 requests does what the plain queue does. Assumes nothing.
--     faithful           it is a faithful machine, so
--     agreement          it agrees with the plain queue
--     plans-completed    and answers one plan for each completed turn
use mathlib.Core.Path.{◌≡◌, ap, ◌∙◌}
use Rattle.requests.specs.Refusals.{answer_for}
use Rattle.sessions.specs.Calls.{Call, Plain, not_open_lem}
use Rattle.sessions.specs.Table.{refusal}
use Rattle.sessions.specs.Plain.{step}
use Rattle.sessions.specs.Sessions.{queue_limit, plain_of, refused_by, answer_to}
use Rattle.sessions.specs.Agreement.{Agreement}
use Rattle.sessions.specs.Completed.{small_session, PlansCompleted}
use Rattle.sessions.specs.declared.Session.{Session}
use Rattle.sessions.proofs.TableAnswers.{plain_closed}
use Rattle.sessions.proofs.Agreed.{answer_is, next_is}
use Rattle.sessions.proofs.Answers.{turn_plan_is}
use Rattle.sessions.proofs.Faithful.{Faithful, agrees, one_plan_each}

-- the session stands for the plain queue
abbrev pub Stands : Session → Plain → Type 0
Stands s p = plain_of s ≡ p

answers : (s : Session) (p : Plain) → Stands s p → (c : Call) → answer_to s c ≡ answer_for (refusal queue_limit p c)
unfolding refused_by
answers s p same c = answer_is s c ∙ ap (λ (x : Plain). answer_for (refusal queue_limit x c)) same

pub faithful : Faithful small_session queue_limit Stands
faithful =
    record {
      answers = answers;
      next = λ s p same c. next_is s c ∙ ap (λ (x : Plain). step queue_limit x c) same;
      plans = λ s t q same room accepted. turn_plan_is s t q same room accepted;
    }

pub agreement : Agreement
agreement s closed = agrees small_session queue_limit Stands faithful plain_of (λ x p same. same) s not_open_lem (plain_closed s closed)

pub plans_completed : PlansCompleted
plans_completed s closed = one_plan_each small_session queue_limit Stands faithful s not_open_lem (plain_closed s closed)
