-- What a turn of a lent session answers, and what refused calls leave. Assumes nothing.
--     turn-plan-is, turn-count-is, turn-slice-is             the plan, the number of writes and the slice of an accepted turn
--     refused-plan-is, refused-count-is, refused-slice-is    and of a refused one
--     lent-unchanged                                         what a refused call leaves, and an open session
use Rattle.std.proofs.lemmas.Option.{none-some}
use Rattle.std.specs.Prelude.{Option, None, Some, Err}
use mathlib.Core.Path.{◌≡◌, refl, ap, sym, subst, ◌∙◌}
use mathlib.Core.Logic.{◌⊎◌, inl, inr}
use mathlib.Core.List.{List, []}
use mathlib.Core.Bool.{true, false, not}
use Prim.Native.Nat.{ℕ, ◌-◌}
use lib.ListN.{length, replicate}
use lib.Seq.{take_at}
use Rattle.requests.specs.declared.Setup.{Setup}
use Rattle.requests.specs.declared.Entry.{Entry}
use Rattle.requests.specs.declared.Refusal.{Refusal}
use Rattle.requests.specs.declared.Refusal.TheVariants.{CallOrder}
use Rattle.requests.specs.Refusals.{answer_for}
use Rattle.requests.specs.Devices.{capacity, setup_of}
use Rattle.requests.proofs.AnswerTests.{answer_some}
use Rattle.requests.proofs.Openings.{opening_is}
use Rattle.layouts.specs.Writes.{filled}
use Rattle.sessions.specs.Turns.{taken, places_of, assign, writes_of}
use Rattle.sessions.specs.Calls.{Call, Open, Add, Drop, Turn, Turns}
use Rattle.sessions.specs.Sessions.{unassigned}
use Rattle.sessions.specs.declared.Assigned.{Assigned}
use Rattle.lent_sessions.specs.Records.{standing}
use Rattle.lent_sessions.specs.Lent.{new_lent, out_of_order_lem, lent_refusal, lent_changed, lent_after, lent_turn, lent_turned, lent_slice, lent_plan}
use Rattle.lent_sessions.specs.Histories.{State, lent_answer, next_session, next_lent, IsOpened, Reached, new, call}
use Rattle.lent_sessions.specs.LentUnchanged.{LentUnchanged}
use Rattle.lent_sessions.specs.declared.LentSession.{LentSession}
use Rattle.lent_sessions.specs.declared.LentTurned.{LentTurned}
use Rattle.lent_sessions.proofs.LentCalls.{order_first, answer_by, session_by_lem, next_by, rows_refused, session_accepted, opens_with}

-- ---- an accepted turn

module _ (s : LentSession) (rows : List Entry) (room : ℕ) (accepted : lent_refusal s rows (Turn room) ≡ None) where
  abbrev es : List Entry
  es = taken s.setup (standing rows)

  pub turn_is : lent_turned s rows room ≡ lent_turn (answer_for None) s (assign es (places_of s.setup es)) (length (writes_of s.setup es))
  unfolding lent_turned
  turn_is = rw (accepted, lent_turned)

  pub turn_plan_is : lent_plan (lent_turned s rows room) ≡ assign es (places_of s.setup es)
  unfolding lent_plan lent_turn
  turn_plan_is =
      let plan : List Assigned = assign es (places_of s.setup es) in
      ap lent_plan turn_is ∙ take_at plan (replicate (capacity - length plan) unassigned) (length plan) refl

  pub turn_count_is : (lent_turned s rows room).writes ≡ length (writes_of s.setup es)
  unfolding lent_turn
  turn_count_is = ap (λ (a : LentTurned). a.writes) turn_is

pub turn_slice_is : (s : LentSession) (rows : List Entry) (slice : List ℕ) → lent_refusal s rows (Turn (length slice)) ≡ None
    → lent_slice s rows slice ≡ filled (writes_of s.setup (taken s.setup (standing rows))) slice
unfolding lent_slice
turn_slice_is s rows slice h = rw h

-- ---- a refused turn

module _ (s : LentSession) (rows : List Entry) (room : ℕ) (x : Refusal) (refused : lent_refusal s rows (Turn room) ≡ Some x) where
  pub refused_is : lent_turned s rows room ≡ lent_turn (answer_for (Some x)) s [] 0
  unfolding lent_turned
  refused_is = rw (refused, lent_turned)

  pub refused_plan_is : lent_plan (lent_turned s rows room) ≡ []
  unfolding lent_plan lent_turn
  refused_plan_is = ap lent_plan refused_is

  pub refused_count_is : (lent_turned s rows room).writes ≡ 0
  unfolding lent_turn
  refused_count_is = ap (λ (a : LentTurned). a.writes) refused_is

pub refused_slice_is : (s : LentSession) (rows : List Entry) (slice : List ℕ) (x : Refusal) → lent_refusal s rows (Turn (length slice)) ≡ Some x → lent_slice s rows slice ≡ slice
unfolding lent_slice
refused_slice_is s rows slice x h = rw h

-- ---- what a refused call leaves

pub refused_by_lem : (x : State) (c : Call) (r : Refusal) → lent_answer x c ≡ Err r → lent_refusal x.0 x.1 c ≡ Some r
refused_by_lem x c r e = answer_some (lent_refusal x.0 x.1 c) r (sym (answer_by x c) ∙ e)

unchanged : (x : State) (c : Call) (r : Refusal) → lent_answer x c ≡ Err r → next_lent x c ≡ x
unchanged (s, rows) c r e =
    let t = rows_refused s rows c r (refused_by_lem (s, rows) c r e) in
    next_by s rows c ∙ rw (t.0, t.1)

-- ---- the session

-- by which row a call is refused, an open session stays
stays_open : (s : LentSession) (rows : List Entry) (c : Call) → s.opened ≡ true → (x : Option Refusal) → lent_refusal s rows c ≡ x → lent_after s rows c ≡ s
unfolding lent_changed out_of_order_lem
stays_open s rows c h (Some x) e = (rows_refused s rows c x e).0
stays_open s rows (Open o) h None e = absurd (none-some CallOrder (sym e ∙ order_first s rows (Open o) h))
stays_open s rows (Add id r) h None e = session_accepted s rows (Add id r) e
stays_open s rows (Drop id) h None e = session_accepted s rows (Drop id) e
stays_open s rows (Turn room) h None e = session_accepted s rows (Turn room) e
stays_open s rows (Turns n room places) h None e = session_accepted s rows (Turns n room places) e

session_stays : (s : LentSession) (rows : List Entry) (c : Call) → s.opened ≡ true → next_session (s, rows) c ≡ s
session_stays s rows c h = session_by_lem s rows c ∙ stays_open s rows c h (lent_refusal s rows c) refl

closed_still : {a b : LentSession} → a ≡ b → b.opened ≡ false → a.opened ≡ false
closed_still e h = rw e h

-- a call of a session that is not open
opened_by_lem : (s : LentSession) (rows : List Entry) (c : Call) → s.opened ≡ false → (x : Option Refusal) → lent_refusal s rows c ≡ x
    → ((lent_after s rows c).opened ≡ false) ⊎ IsOpened (lent_after s rows c)
unfolding out_of_order_lem lent_changed
opened_by_lem s rows c h (Some x) e = inl (closed_still (rows_refused s rows c x e).0 h)
opened_by_lem s rows (Open o) h None e = opens_good (setup_of o) refl
  where
    opens_good : (y : Option Setup) → setup_of o ≡ y → ((lent_after s rows (Open o)).opened ≡ false) ⊎ IsOpened (lent_after s rows (Open o))
    opens_good None k = inl (closed_still {b = s} (session_accepted s rows (Open o) e ∙ rw (k, lent_changed)) h)
    opens_good (Some t) k = inr (subst IsOpened (sym (opens_with s rows o t e k)) (record { is_open = refl; setup = ap setup_of (opening_is o t k) ∙ k }))
opened_by_lem s rows (Add id r) h None e = absurd (none-some CallOrder (sym e ∙ order_first s rows (Add id r) (ap not h)))
opened_by_lem s rows (Drop id) h None e = absurd (none-some CallOrder (sym e ∙ order_first s rows (Drop id) (ap not h)))
opened_by_lem s rows (Turn room) h None e = absurd (none-some CallOrder (sym e ∙ order_first s rows (Turn room) (ap not h)))
opened_by_lem s rows (Turns n room places) h None e = absurd (none-some CallOrder (sym e ∙ order_first s rows (Turns n room places) (ap not h)))

new_closed : new_lent.opened ≡ false
unfolding new_lent
new_closed = refl

reached_is : (s : LentSession) → Reached s → (s.opened ≡ false) ⊎ IsOpened s
reached_is s new = inl new_closed
reached_is t (call {s} r rows c) = go (reached_is s r)
  where
    go : (s.opened ≡ false) ⊎ IsOpened s → ((next_session (s, rows) c).opened ≡ false) ⊎ IsOpened (next_session (s, rows) c)
    go (inl h) = rw (session_by_lem s rows c) (opened_by_lem s rows c h (lent_refusal s rows c) refl)
    go (inr o) = inr (subst IsOpened (sym (session_stays s rows c o.is_open)) o)

pub lent_unchanged : LentUnchanged
unfolding lent_answer
lent_unchanged =
    record {
      state = unchanged;
      slice = λ s rows numbers r e. refused_slice_is s rows numbers r (refused_by_lem (s, rows) (Turn (length numbers)) r e);
      plan = λ s rows room r e. refused_plan_is s rows room r (refused_by_lem (s, rows) (Turn room) r e);
      writes = λ s rows room r e. refused_count_is s rows room r (refused_by_lem (s, rows) (Turn room) r e);
      new = new_closed;
      session = session_stays;
      reached = reached_is;
    }
