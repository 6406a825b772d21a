-- A lent session of 16 records and a small session do the same on the same queue. Assumes nothing.
use Rattle.std.proofs.lemmas.Option.{none-some}
use Rattle.std.specs.Prelude.{Option, None, Some, Ok, Err}
use mathlib.Core.Path.{◌≡◌, refl, ap, ap₂, sym, ◌∙◌}
use mathlib.Core.List.{List, [], ◌∷◌}
use mathlib.Core.Bool.{Bool, true, false}
use Prim.Native.Nat.{ℕ}
use native.Mathlib.Omega.{arith}
use lib.ListN.{length}
use Rattle.requests.specs.declared.Entry.{Entry}
use Rattle.requests.specs.declared.Refusal.{Refusal}
use Rattle.requests.specs.declared.Refusal.TheVariants.{CallOrder}
use Rattle.requests.specs.Refusals.{answer_for}
use Rattle.requests.proofs.AnswerTests.{answer_none}
use Rattle.sessions.specs.Calls.{Call, Turn, Plain, opened, waiting}
use Rattle.sessions.specs.Table.{refusal}
use Rattle.sessions.specs.Plain.{change, step, run}
use Rattle.sessions.specs.Sessions.{queue_limit, new_session, plain_of, refused_by, turn_of, turn_slice, plan_of, answer_to, next_session, session_after}
use Rattle.sessions.specs.Completed.{state_after}
use Rattle.sessions.specs.Agreement.{Agrees}
use Rattle.sessions.specs.declared.Session.{Session}
use Rattle.sessions.proofs.Agreed.{answer_is, next_is}
use Rattle.sessions.proofs.Refused.{unchanged}
use Rattle.sessions.proofs.Answers.{turn_plan_is, turn_count_is, turn_slice_is}
use Rattle.sessions.proofs.TableAnswers.{turn_closed}
use Rattle.sessions.proofs.Faithful.{agrees, stands_after}
use Rattle.lent_sessions.specs.Records.{records_of, standing}
use Rattle.lent_sessions.specs.Lent.{new_lent, plain_with, lent_refusal, lent_turned, lent_slice, lent_plan}
use Rattle.lent_sessions.specs.Histories.{State, lent_answer, next_lent, plain_in, lent_session, InOrder, Lends, closed}
use Rattle.lent_sessions.specs.SameAsSmall.{Alike, SameAsSmall}
use Rattle.lent_sessions.specs.declared.LentSession.{LentSession}
use Rattle.lent_sessions.proofs.LentCalls.{with_closed, with_opened, in_order, refused_as, answer_by, rows_accepted, lends_next, count_next}
use Rattle.lent_sessions.proofs.LentCalls as calls
use Rattle.lent_sessions.proofs.LentUnchanged as lent
use Rattle.lent_sessions.proofs.LentHistories.{Stands, faithful}

-- ---- any number of records

module _ (x : State) (l : Lends x.0 x.1) where
  abbrev n : ℕ
  n = length x.1

  at_first : Stands n x (plain_in x)
  at_first = record { lent = l; plain = refl; count = refl }

  agreed : Agrees lent_session plain_in n (plain_in x) x
  agreed = agrees lent_session n (Stands n) (faithful n) plain_in (λ y p w. w.plain) x (plain_in x) at_first

  afterwards : (cs : List Call) → Stands n (state_after lent_session x cs) (run n (plain_in x) cs)
  afterwards cs = stands_after lent_session n (Stands n) (faithful n) x (plain_in x) at_first cs

answers_as : (x : State) → InOrder x.0 x.1 → (c : Call) → lent_answer x c ≡ answer_for (refusal (length x.1) (plain_in x) c)
answers_as (s, rows) l c = answer_by (s, rows) c ∙ ap answer_for (refused_as s rows l c)

rows_left : (x : State) (c : Call) → lent_answer x c ≡ (Ok tt) → (next_lent x c).1 ≡ records_of (length x.1) (waiting (change (plain_in x) c))
rows_left (s, rows) c e = rows_accepted s rows c (answer_none (lent_refusal s rows c) (sym (answer_by (s, rows) c) ∙ e))

-- ---- 16 of them

begins : (rows : List Entry) → length rows ≡ 16 → Alike (new_lent, rows) new_session
unfolding new_lent new_session plain_of plain_with queue_limit
begins rows e = record { lent = closed refl (omega (arith, e), omega (arith, e)); size = e; same = refl }

module _ (s : LentSession) (rows : List Entry) (small : Session) (alike : Alike (s, rows) small) where
  -- the two refuse a call by one row
  one_row : (c : Call) → lent_refusal s rows c ≡ refused_by small c
  unfolding refused_by
  one_row c = refused_as s rows (in_order alike.lent) c ∙ ap₂ (λ (k : ℕ) (p : Plain). refusal k p c) alike.size (sym alike.same)

  answer : (c : Call) → lent_answer (s, rows) c ≡ answer_to small c
  answer c = answer_by (s, rows) c ∙ ap answer_for (one_row c) ∙ sym (answer_is small c)

  next : (c : Call) → Alike (next_lent (s, rows) c) (next_session small c)
  next c =
      record {
        lent = lends_next s rows alike.lent c;
        size = count_next s rows alike.lent c ∙ alike.size;
        same = next_is small c ∙ ap₂ (λ (k : ℕ) (p : Plain). step k p c) (sym alike.size) alike.same ∙ sym (calls.next_is s rows alike.lent c);
      }

  -- a session that accepts a turn is open
  open_turn : (room : ℕ) → refused_by small (Turn room) ≡ None → s.opened ≡ true
  unfolding refused_by
  open_turn room h = go s.opened refl
    where
      go : (b : Bool) → s.opened ≡ b → b ≡ true
      go true e = refl
      go false e =
          absurd (none-some CallOrder (sym h ∙ ap (λ (p : Plain). refusal queue_limit p (Turn room)) (alike.same ∙ with_closed s rows e) ∙ turn_closed queue_limit room))

  module _ (room : ℕ) where
    stands : refused_by small (Turn room) ≡ None → plain_of small ≡ opened s.setup (standing rows)
    stands h = alike.same ∙ with_opened s rows (open_turn room h)

    plain_accepts : refused_by small (Turn room) ≡ None → refusal queue_limit (opened s.setup (standing rows)) (Turn room) ≡ None
    unfolding refused_by
    plain_accepts h = ap (λ (p : Plain). refusal queue_limit p (Turn room)) (sym (stands h)) ∙ h

    refused_answer : (x : Refusal) → refused_by small (Turn room) ≡ Some x → (turn_of small room).answer ≡ Err x
    unfolding answer_to answer_for
    refused_answer x h = answer_is small (Turn room) ∙ ap answer_for h

    plan : lent_plan (lent_turned s rows room) ≡ plan_of (turn_of small room)
    plan = go (refused_by small (Turn room)) refl
      where
        go : (x : Option Refusal) → refused_by small (Turn room) ≡ x → lent_plan (lent_turned s rows room) ≡ plan_of (turn_of small room)
        go None h = lent.turn_plan_is s rows room (one_row (Turn room) ∙ h) ∙ sym (turn_plan_is small s.setup (standing rows) (stands h) room (plain_accepts h))
        go (Some x) h = lent.refused_plan_is s rows room x (one_row (Turn room) ∙ h) ∙ sym (unchanged.plan small room x (refused_answer x h))

    writes : (lent_turned s rows room).writes ≡ (turn_of small room).writes
    writes = go (refused_by small (Turn room)) refl
      where
        go : (x : Option Refusal) → refused_by small (Turn room) ≡ x → (lent_turned s rows room).writes ≡ (turn_of small room).writes
        go None h = lent.turn_count_is s rows room (one_row (Turn room) ∙ h) ∙ sym (turn_count_is small s.setup (standing rows) (stands h) room (plain_accepts h))
        go (Some x) h = lent.refused_count_is s rows room x (one_row (Turn room) ∙ h) ∙ sym (unchanged.writes small room x (refused_answer x h))

  slice_is : (slice : List ℕ) → lent_slice s rows slice ≡ turn_slice small slice
  slice_is slice = go (refused_by small (Turn (length slice))) refl
    where
      go : (x : Option Refusal) → refused_by small (Turn (length slice)) ≡ x → lent_slice s rows slice ≡ turn_slice small slice
      go None h =
          lent.turn_slice_is s rows slice (one_row (Turn (length slice)) ∙ h)
          ∙ sym (turn_slice_is small s.setup (standing rows) (stands (length slice) h) slice (plain_accepts (length slice) h))
      go (Some x) h = lent.refused_slice_is s rows slice x (one_row (Turn (length slice)) ∙ h) ∙ sym (unchanged.slice small slice x (refused_answer (length slice) x h))

alike_after : (x : State) (small : Session) → Alike x small → (cs : List Call) → Alike (state_after lent_session x cs) (session_after small cs)
unfolding session_after
alike_after x small a [] = a
alike_after x small a (c ∷ cs) = alike_after (next_lent x c) (next_session small c) (next x.0 x.1 small a c) cs

pub same_as_small : SameAsSmall
same_as_small =
    record {
      answered = answers_as;
      left = rows_left;
      agrees = agreed;
      lends = λ x l cs. (afterwards x l cs).lent;
      size = λ x l cs. (afterwards x l cs).count;
      begins = begins;
      calls = alike_after;
      answer = λ x small a. answer x.0 x.1 small a;
      next = λ x small a. next x.0 x.1 small a;
      plan = λ x small a. plan x.0 x.1 small a;
      writes = λ x small a. writes x.0 x.1 small a;
      slice = λ x small a. slice_is x.0 x.1 small a;
    }
