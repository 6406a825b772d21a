use Rattle.std.specs.Prelude.{None, Some}
use mathlib.Core.Path.{◌≡◌, sym, ◌∙◌}
use mathlib.Core.List.{[], ◌∷◌}
use mathlib.Core.Bool.{true, false}
use borrow.Author.Tests.{le-leb, lt-leb}
use native.Mathlib.Omega.{arith}
use lib.Dec.{leb}
use lib.ListN.{length, length-take}
use Rattle.requests.specs.declared.Refusal.TheVariants.{CallOrder, IdWaiting, NoPlanAlone, QueueFull}
use Rattle.requests.specs.Refusals.{answer_for}
use Rattle.requests.specs.Checks.{request_refusal}
use Rattle.plans.specs.Search.{has_plan_lem}
use Rattle.sessions.specs.Calls.{Add, waits}
use Rattle.sessions.specs.Sessions.{queue_limit, queued}
use Rattle.requests.proofs.AnswerTests.{answer_none, answer_some}
use Rattle.sessions.proofs.TableAnswers.{add_closed, add_waiting, add_ill_formed, add_no_plan, add_full, add_accepted, answer_closed, answer_opened}
use Rattle.std.proofs.lemmas.Result.{err_from_is_err_and}
use Rattle.planner.specs.Answering.{session_with}
use Rattle.planner.proofs.add.add_answer.Goals as goal

pub returns-then-not-opened : goal.returns-then-not-opened
unfolding answer_for
returns-then-not-opened c id queue size inside waiting =
    let a = c.args in
    answer_closed (session_with a.opened a.setup a.len queue) (Add id a.request) (Some CallOrder) (c.if-not-opened.true) (add_closed queue_limit id a.request)

pub returns-then-waiting : goal.returns-then-waiting
unfolding answer_for
returns-then-waiting c id queue size inside waiting =
    let a = c.args in
    let s = session_with a.opened a.setup a.len queue in
    let w : waits id (queued s) ≡ true = sym waiting ∙ c.if-waiting.true in
    answer_opened s (Add id a.request) (Some IdWaiting) (c.if-not-opened.false) (add_waiting queue_limit s.setup (queued s) id a.request inside w)

pub returns-in_err-request_refusal : goal.returns-in_err-request_refusal
unfolding answer_for
returns-in_err-request_refusal c id queue size inside waiting =
    let late : let a = c.args in (a.opened ≡ true) × (a.waiting ≡ false) = (c.if-not-opened.false, c.if-waiting.false) in
    let a = c.args in
    let s = session_with a.opened a.setup a.len queue in
    let f = late in
    let e = answer_some (request_refusal s.setup a.request) _ (sym c.request_refusal.ensures ∙ c.in_err-request_refusal.was) in
    let p = err_from_is_err_and c.from_residual.result c.from_residual.ensures.1 in
    rw (p.1, p.2) (answer_opened s (Add id a.request) (Some _) f.0 (add_ill_formed queue_limit s.setup (queued s) id a.request inside (sym waiting ∙ f.1) _ e))

pub returns-then-not-plans_alone : goal.returns-then-not-plans_alone
unfolding answer_for
returns-then-not-plans_alone c id queue size inside waiting =
    let late : let a = c.args in (a.opened ≡ true) × (a.waiting ≡ false) = (c.if-not-opened.false, c.if-waiting.false) in
    let formed : let a = c.args in request_refusal a.setup a.request ≡ None = answer_none _ (sym c.request_refusal.ensures ∙ c.in_ok-request_refusal.was) in
    let a = c.args in
    let s = session_with a.opened a.setup a.len queue in
    let f = late in
    let n : has_plan_lem s.setup (a.request ∷ []) ≡ false = sym c.plans_alone.ensures ∙ c.if-not-plans_alone.true in
    answer_opened s (Add id a.request) (Some NoPlanAlone) f.0 (add_no_plan queue_limit s.setup (queued s) id a.request inside (sym waiting ∙ f.1) formed n)

pub returns-then-len-ge-QUEUE_LIMIT : goal.returns-then-len-ge-QUEUE_LIMIT
unfolding answer_for queue_limit queued
returns-then-len-ge-QUEUE_LIMIT c id queue size inside waiting =
    let late : let a = c.args in (a.opened ≡ true) × (a.waiting ≡ false) = (c.if-not-opened.false, c.if-waiting.false) in
    let formed : let a = c.args in request_refusal a.setup a.request ≡ None = answer_none _ (sym c.request_refusal.ensures ∙ c.in_ok-request_refusal.was) in
    let a = c.args in
    let s = session_with a.opened a.setup a.len queue in
    let f = late in
    let n : has_plan_lem s.setup (a.request ∷ []) ≡ true = sym c.plans_alone.ensures ∙ c.if-not-plans_alone.false in
    let k : leb 16 (length (queued s)) ≡ true = le-leb 16 (length (queued s)) (rw length-take (omega arith)) in
    answer_opened s (Add id a.request) (Some QueueFull) f.0 (add_full queue_limit s.setup (queued s) id a.request inside (sym waiting ∙ f.1) formed n k)

pub returns : goal.returns
unfolding answer_for queue_limit queued
returns c id queue size inside waiting =
    let late : let a = c.args in (a.opened ≡ true) × (a.waiting ≡ false) = (c.if-not-opened.false, c.if-waiting.false) in
    let formed : let a = c.args in request_refusal a.setup a.request ≡ None = answer_none _ (sym c.request_refusal.ensures ∙ c.in_ok-request_refusal.was) in
    let a = c.args in
    let s = session_with a.opened a.setup a.len queue in
    let f = late in
    let n : has_plan_lem s.setup (a.request ∷ []) ≡ true = sym c.plans_alone.ensures ∙ c.if-not-plans_alone.false in
    let k : leb 16 (length (queued s)) ≡ false = lt-leb 16 (length (queued s)) (rw length-take (omega arith)) in
    answer_opened s (Add id a.request) None f.0 (add_accepted queue_limit s.setup (queued s) id a.request inside (sym waiting ∙ f.1) formed n k)
