use Rattle.std.specs.Prelude.{ℕ, Option, None, Some, ok_or, is_some}
use mathlib.Core.Path.{◌≡◌, sym}
use mathlib.Core.Bool.{true, false}
use Rattle.requests.specs.declared.Refusal.TheVariants.{CallOrder, IdNotWaiting}
use Rattle.requests.specs.Refusals.{answer_for}
use Rattle.sessions.specs.Calls.{Drop, waits}
use Rattle.sessions.specs.Table.{outside_ids}
use Rattle.sessions.specs.Sessions.{queue_limit, queued, refused_by}
use Rattle.sessions.specs.declared.Session.{Session}
use Rattle.sessions.proofs.TableAnswers.{drop_closed, drop_not_waiting, drop_accepted, answer_closed, answer_opened}
use Rattle.planner.specs.Answering.{session_with, answer_in}
use Rattle.planner.proofs.drop.drop_place.Goals as goal

-- an opened session answers by whether there is a place
found : (s : Session) (id : ℕ) → s.opened ≡ true → outside_ids id ≡ false → (place : Option ℕ) → is_some place ≡ waits id (queued s)
    → answer_in (ok_or place IdNotWaiting) ≡ answer_for (refused_by s (Drop id))
unfolding answer_for
found s id open-already inside None w = answer_opened s (Drop id) (Some IdNotWaiting) open-already (drop_not_waiting queue_limit s.setup (queued s) id inside (sym w))
found s id open-already inside (Some at) w = answer_opened s (Drop id) None open-already (drop_accepted queue_limit s.setup (queued s) id inside (sym w))

pub returns-then-not-opened-clause-answer : goal.returns-then-not-opened-clause-answer
unfolding answer_for
returns-then-not-opened-clause-answer c id setup len queue size inside waiting =
    answer_closed (session_with c.args.opened setup len queue) (Drop id) (Some CallOrder) (c.if-not-opened.true) (drop_closed queue_limit id)

pub returns-clause-answer : goal.returns-clause-answer
unfolding answer_for
returns-clause-answer c id setup len queue size inside waiting =
    rw c.ok_or.ensures.value (found (session_with c.args.opened setup len queue) id (c.if-not-opened.false) inside c.args.place waiting)
