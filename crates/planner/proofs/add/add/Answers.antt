use mathlib.Core.Path.{◌≡◌, refl, sym, ap, ◌∙◌}
use mathlib.Core.List.{[], ◌∷◌, ◌++◌}
use Prim.Native.Nat.{◌+◌, ◌-◌, ◌≤◌}
use borrow.Rule.Slice.PartMut.{put_mid}
use native.Mathlib.Numerals.{add-one}
use native.Mathlib.Omega.{arith}
use lib.ListN.{length, take, set, length-append, length-set, length-take}
use lib.Seq.{take-suc-set}
use Rattle.std.specs.Prelude.{Ok}
use Rattle.requests.specs.declared.Entry.{Entry}
use Rattle.sessions.specs.declared.Session.{Session}
use Rattle.requests.specs.Refusals.{answer_for}
use Rattle.sessions.specs.Calls.{Add}
use Rattle.sessions.specs.Sessions.{queued, session_of, refused_by, add_of}
use Rattle.requests.proofs.Windows.{length_mapped, take_min}
use Rattle.sessions.proofs.TableAnswers.{answered_refused, answered_accepted, add_room, add_closed}
use Rattle.planner.proofs.Queues.{placed_answer, session_vacated, refused_answered, accepted_opened}
use Rattle.std.specs.Option.{is_some}
use Rattle.std.proofs.Common.{rules}
use Rattle.planner.proofs.add.add.Goals as goal
use Rattle.planner.proofs.add.add.Goals.{After-add_answer-answer}

answer_is : (c : After-add_answer-answer) → c.add_answer-answer.result ≡ answer_for (refused_by c.args.session (Add c.args.id c.args.request))
answer_is c =
    let a = c.args in
    let size : length a.session.queue ≡ 16 = search (length_mapped, rules) in
    placed_answer a.session c.bounded-n.result a.id (Add a.id a.request) c.is_some-waiting.result _ (c.add_answer-answer.ensures a.id)
    (c.is_some-waiting.ensures ∙ ap is_some c.place_of.ensures) c.bounded-n.ensures size (sym c.outside_ids.ensures ∙ c.if-outside_ids.false)

room : (c : After-add_answer-answer) → c.add_answer-answer.result ≡ Ok tt → c.bounded-n.result ≤ 15
unfolding queued
room c h =
    let a = c.args in
    let size : length a.session.queue ≡ 16 = search (length_mapped, rules) in
    omega (arith, add_room a.session a.id a.request (sym (answer_is c) ∙ h), length-take a.session.len a.session.queue, size, c.bounded-n.ensures)

pub returns-then-outside_ids : goal.returns-then-outside_ids
unfolding add_of
returns-then-outside_ids c =
    let a = c.args in
    refused_answered ((c.bad_id_refusal-refusal.ensures a.session refl a.id (sym c.outside_ids.ensures ∙ c.if-outside_ids.true)).0 a.request) a.session _

pub bounds-queue-n : goal.bounds-queue-n
bounds-queue-n c = omega (arith, room (goal.at.bounds-queue-n c).After-add_answer-answer c.in-Ok.is)

pub slice_bounds-vacate-count : goal.slice_bounds-vacate-count
slice_bounds-vacate-count c = omega (arith, room (goal.at.slice_bounds-vacate-count c).After-add_answer-answer c.in-Ok.is)

pub slice_bounds-queue-start : goal.slice_bounds-queue-start
slice_bounds-queue-start c = let few = room (goal.at.slice_bounds-queue-start c).After-add_answer-answer c.in-Ok.is in search rules

pub returns-in-Ok : goal.returns-in-Ok
unfolding add_of queued
returns-in-Ok c =
    let a = c.args in
    let s = a.session in
    let n = c.bounded-n.result in
    let size : length s.queue ≡ 16 = search (length_mapped, rules) in
    let answer = c.add_answer-answer.result in
    let answer_is : answer ≡ answer_for (refused_by s (Add a.id a.request)) = answer_is (goal.at.returns-in-Ok c).After-add_answer-answer in
    let few = room (goal.at.returns-in-Ok c).After-add_answer-answer c.in-Ok.is in
    let e : Entry = record { id = a.id; request = a.request } in
    let q = queued s ++ (e ∷ []) in
    let pushed : take (n + 1) (set s.queue n e) ≡ q =
    rw (add-one n, take-suc-set s.queue n e (omega arith), take_min s.queue s.len n (omega (arith, c.bounded-n.ensures))) in
    let count : n + 1 ≡ length q = simp (length-append, length-take) (omega (arith, c.bounded-n.ensures)) in
    let after : Session = record { opened = s.opened; setup = s.setup; queue = put_mid (n + 1) (16 - (n + 1)) (set s.queue n e) c.vacate.new.places; len = n + 1 } in
    let made : after ≡ session_of s.setup q = session_vacated after q (set s.queue n e) c.vacate.new.places
    (accepted_opened s (Add a.id a.request) (add_closed _ a.id a.request) (sym answer_is ∙ c.in-Ok.is))
    count pushed (omega arith) (rw length-set size) c.vacate.ensures refl in
    ap (λ (x : Session). record { answer = answer; session = x }) made ∙ answered_accepted answer (refused_by s (Add a.id a.request)) answer_is s (session_of s.setup q) c.in-Ok.is

pub returns-in_default : goal.returns-in_default
unfolding add_of
returns-in_default c =
    let a = c.args in
    answered_refused c.add_answer-answer.result (refused_by a.session (Add a.id a.request)) (answer_is (goal.at.returns-in_default c).After-add_answer-answer) a.session _ _ c.in_default.is
