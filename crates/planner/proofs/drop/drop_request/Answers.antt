use mathlib.Core.Path.{◌≡◌, refl, sym, ap, ◌∙◌}
use mathlib.Core.List.{◌++◌}
use Prim.Native.Nat.{◌-◌, ◌≤◌}
use borrow.Rule.Slice.PartMut.{put_mid}
use native.Mathlib.Omega.{arith}
use lib.ListN.{length, take, drop, length-append, length-take, length-drop}
use Rattle.std.proofs.lemmas.List.{take-append-le}
use Rattle.requests.specs.Refusals.{answer_for}
use Rattle.requests.proofs.Windows.{length_mapped, take_min}
use Rattle.sessions.specs.declared.Session.{Session}
use Rattle.sessions.specs.Calls.{Drop}
use Rattle.sessions.specs.Plain.{removed}
use Rattle.sessions.specs.Sessions.{queued, session_of, refused_by, drop_of}
use Rattle.sessions.proofs.TableAnswers.{answered_refused, answered_accepted, drop_closed}
use Rattle.planner.proofs.Queues.{placed_kept, placed_answer, session_vacated, refused_answered, accepted_opened}
use Rattle.std.specs.Prelude.{Ok, Err, is_some}
use Rattle.planner.specs.Answering.{answer_in}
use Rattle.std.proofs.Common.{rules}
use Rattle.planner.proofs.drop.drop_request.Goals as goal
use Rattle.planner.proofs.drop.drop_request.Goals.{in-Err, in-Ok}

pub returns-then-outside_ids : goal.returns-then-outside_ids
unfolding drop_of
returns-then-outside_ids c =
    let a = c.args in
    refused_answered (c.bad_id_refusal-refusal.ensures a.session refl a.id (sym c.outside_ids.ensures ∙ c.if-outside_ids.true)).1 a.session _

pub close_up-len-requires-clause-kept : goal.close_up-len-requires-clause-kept
close_up-len-requires-clause-kept c =
    let a = c.args in
    (placed_kept a.id (take c.bounded-n.result a.session.queue) c.in-Ok.at (sym c.place_of.ensures ∙ c.in-Ok.ensures.place)).1

pub returns : goal.returns
unfolding drop_of queued
returns c =
    let a = c.args in
    let s = a.session in
    let n = c.bounded-n.result in
    let size : length s.queue ≡ 16 = search (length_mapped, rules) in
    let x = refused_by s (Drop a.id) in
    let answer_is : answer_in c.drop_place.result ≡ answer_for x =
    placed_answer s n a.id (Drop a.id) (is_some c.place_of.result) (answer_in c.drop_place.result) (c.drop_place.ensures.answer a.id s.setup s.len)
    (ap is_some c.place_of.ensures) c.bounded-n.ensures size (sym c.outside_ids.ensures ∙ c.if-outside_ids.false) in
    elim c.match-drop_place.branch [
      | in-Err w ↦
          let is : Err w.in-Err.refusal ≡ answer_for x = sym (ap answer_in w.in-Err.is) ∙ answer_is in
          rw (c.with_queue-session.ensures, w.queue-is, w.len-is, w.answer-is) (answered_refused (Err w.in-Err.refusal) x is s _ _ refl)
      | in-Ok w ↦
          let is : Ok tt ≡ answer_for x = sym (ap answer_in w.in-Ok.is) ∙ answer_is in
          let closed = w.close_up-len in
          let all : take n s.queue ≡ queued s = take_min s.queue s.len n (omega (arith, c.bounded-n.ensures)) in
          let k = closed.result in
          let l = closed.new.queue ++ drop n s.queue in
          let q = removed a.id (queued s) in
          let count : k ≡ length q = rw all at closed.ensures.count in
          let few : k ≤ length closed.new.queue = omega (arith, ap length closed.ensures.front, length-take k closed.new.queue, closed.ensures.count) in
          let front : take k l ≡ q = take-append-le k closed.new.queue (drop n s.queue) few ∙ rw all at closed.ensures.front in
          let whole : length l ≡ 16 = simp (length-append, length-drop) (omega (arith, closed.ensures.len, length-take n s.queue, c.bounded-n.ensures)) in
          let after : Session = record { opened = s.opened; setup = s.setup; queue = put_mid k (16 - k) l w.vacate.new.places; len = k } in
          let made : after ≡ session_of s.setup q = session_vacated after q l w.vacate.new.places
          (accepted_opened s (Drop a.id) (drop_closed _ a.id) (sym is))
          count front (omega (arith, few, closed.ensures.len, length-take n s.queue, c.bounded-n.ensures)) whole w.vacate.ensures refl in
          rw (c.with_queue-session.ensures, w.queue-is, w.len-is, w.answer-is) (ap (λ (y : Session). record { answer = Ok tt; session = y }) made
          ∙ answered_accepted (Ok tt) x is s (session_of s.setup q) refl)
    ]
