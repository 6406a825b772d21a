-- What an accepted turn of a session answers. Assumes nothing.
--     not-refused    it is refused by no row of the table
--     turn-plan-is, turn-count-is, turn-slice-is, turn-next-is    the plan, the number of writes, the slice and the session afterwards
use Rattle.std.specs.Prelude.{Option, None, Some, Ok}
use mathlib.Core.Path.{◌≡◌, refl, ap, ◌∙◌}
use mathlib.Core.List.{List}
use Prim.Native.Nat.{ℕ, ◌-◌}
use native.Mathlib.Omega.{arith}
use lib.ListN.{length, replicate}
use lib.Seq.{take_at}
use Rattle.requests.specs.declared.Setup.{Setup}
use Rattle.requests.specs.declared.Entry.{Entry}
use Rattle.requests.specs.declared.Refusal.{Refusal}
use Rattle.requests.specs.Refusals.{answer_for}
use Rattle.requests.specs.Devices.{capacity}
use Rattle.layouts.specs.Writes.{filled}
use Rattle.sessions.specs.Turns.{taken, turned, places_of, assign, writes_of}
use Rattle.sessions.specs.Calls.{Turn, Plain, opened}
use Rattle.sessions.specs.Table.{refusal}
use Rattle.sessions.specs.Plain.{on_queue, change, step}
use Rattle.sessions.specs.Sessions.{queue_limit, queued, plain_of, refused_by, session_of, unassigned, turn_answer, turn_of, turn_slice, plan_of, answer_to, next_session}
use Rattle.sessions.specs.declared.Session.{Session}
use Rattle.sessions.specs.declared.Assigned.{Assigned}
use Rattle.sessions.specs.declared.TurnAnswered.{TurnAnswered}
use Rattle.sessions.proofs.Agreed.{stands_for, answer_is, next_is}
use Rattle.sessions.proofs.Steps.{step_accepted}

-- an accepted answer comes from no row
pub not_refused : (session : Session) (room : ℕ) → (turn_of session room).answer ≡ (Ok tt) → refused_by session (Turn room) ≡ None
unfolding answer_to answer_for
not_refused session room e = go (refused_by session (Turn room)) refl
  where
    go : (x : Option Refusal) → refused_by session (Turn room) ≡ x → refused_by session (Turn room) ≡ None
    go None h = h
    go (Some x) h = let k : answer_for (Some x) ≡ (Ok tt) = cc (answer_is session (Turn room)) in let z : ◌≡◌ {A = ℕ} 0 1 = cc in absurd (omega arith)

module _ (session : Session) (s : Setup) (q : List Entry) (same : plain_of session ≡ opened s q) where
  -- the same said of the session's setup and queue, and of those of the plain queue
  in_plain : {A : Type 0} (f : Setup → List Entry → A) → f session.setup (queued session) ≡ f s q
  in_plain f = let t = stands_for session s q same in ap (λ (x : Setup). f x (queued session)) t.0 ∙ ap (f s) t.1

  module _ (room : ℕ) (accepted : refusal queue_limit (opened s q) (Turn room) ≡ None) where
    no_row : refused_by session (Turn room) ≡ None
    unfolding refused_by
    no_row = rw same accepted

    -- the plan of the entries taken, and the number of its writes
    turn_is : turn_of session room
        ≡ turn_answer (answer_for None) (session_of session.setup (turned session.setup (queued session)))
        (assign (taken session.setup (queued session)) (places_of session.setup (taken session.setup (queued session))))
        (length (writes_of session.setup (taken session.setup (queued session))))
    unfolding turn_of
    turn_is = rw (no_row, turn_of)

    pub turn_plan_is : plan_of (turn_of session room) ≡ assign (taken s q) (places_of s (taken s q))
    unfolding plan_of turn_answer
    turn_plan_is =
        let es : List Entry = taken session.setup (queued session) in
        let plan : List Assigned = assign es (places_of session.setup es) in
        ap plan_of turn_is
        ∙ take_at plan (replicate (capacity - length plan) unassigned) (length plan) refl
        ∙ in_plain (λ (x : Setup) (l : List Entry). assign (taken x l) (places_of x (taken x l)))

    pub turn_count_is : (turn_of session room).writes ≡ length (writes_of s (taken s q))
    unfolding turn_answer
    turn_count_is = ap (λ (a : TurnAnswered). a.writes) turn_is ∙ in_plain (λ (x : Setup) (l : List Entry). length (writes_of x (taken x l)))

    pub turn_next_is : plain_of (turn_of session room).session ≡ opened s (turned s q)
    unfolding next_session change on_queue
    turn_next_is = next_is session (Turn room) ∙ ap (λ (p : Plain). step queue_limit p (Turn room)) same ∙ step_accepted queue_limit (opened s q) (Turn room) accepted

  pub turn_slice_is : (slice : List ℕ) → refusal queue_limit (opened s q) (Turn (length slice)) ≡ None → turn_slice session slice ≡ filled (writes_of s (taken s q)) slice
  unfolding turn_slice
  turn_slice_is slice accepted =
      let stored : turn_slice session slice ≡ filled (writes_of session.setup (taken session.setup (queued session))) slice = rw (no_row (length slice) accepted) in
      stored ∙ in_plain (λ (x : Setup) (l : List Entry). filled (writes_of x (taken x l)) slice)
