-- A lent session does what the plain queue does, with as many places as there are records. Assumes nothing.
--     Stands, faithful    it is a faithful machine, so
--     lent-demand3        it keeps the promise of demand 3
--     lent-shorter        and the shorter one
use Rattle.std.specs.Prelude.{None}
use mathlib.Core.Path.{◌≡◌, refl, ap, ap₂, sym, ◌∙◌}
use mathlib.Core.List.{List}
use mathlib.Core.Bool.{Bool, true, false}
use Prim.Native.Nat.{ℕ}
use native.Mathlib.Omega.{arith}
use lib.ListN.{length}
use Rattle.requests.specs.declared.Setup.{Setup}
use Rattle.requests.specs.declared.Entry.{Entry}
use Rattle.requests.specs.Refusals.{answer_for}
use Rattle.sessions.specs.Turns.{taken, places_of, assign}
use Rattle.sessions.specs.Calls.{Call, Turn, Plain, not_open_lem, opened}
use Rattle.sessions.specs.Table.{refusal}
use Rattle.sessions.specs.Plain.{step}
use Rattle.sessions.specs.Sound.{Sound}
use Rattle.sessions.proofs.Faithful.{Faithful, plan_for, one_plan_each}
use Rattle.sessions.proofs.Demand3.{promises}
use Rattle.sessions.proofs.ShorterPromise.{shorter_promises}
use Rattle.lent_sessions.specs.Records.{standing}
use Rattle.lent_sessions.specs.RowRules.{IsCount, SoundRows}
use Rattle.lent_sessions.specs.Lent.{plain_with, lent_turned, lent_plan}
use Rattle.lent_sessions.specs.Histories.{State, lent_answer, next_lent, plain_in, lent_session, IsOpened, Lends, closed, kept}
use Rattle.lent_sessions.specs.LentDemand3.{LentDemand3}
use Rattle.lent_sessions.specs.LentShorterPromise.{LentShorterPromise}
use Rattle.lent_sessions.specs.declared.LentSession.{LentSession}
use Rattle.lent_sessions.proofs.RowRules.{row_rules}
use Rattle.lent_sessions.proofs.LentCalls.{with_closed, with_opened, in_order, refused_as, sound_of, answer_by, next_is, lends_next, count_next}
use Rattle.lent_sessions.proofs.LentUnchanged.{turn_plan_is}

-- n records that may be lent, and stand for the plain queue
pub record Stands (n : ℕ) (x : State) (p : Plain) : Type 0 where
  pub lent : Lends x.0 x.1
  pub plain : plain_in x ≡ p
  pub count : length x.1 ≡ n

-- a session that stands for an open queue has its setup and that queue
stands_for : (s : LentSession) (rows : List Entry) (t : Setup) (q : List Entry) → plain_with s rows ≡ opened t q → (s.setup ≡ t) × (standing rows ≡ q)
stands_for s rows t q e = go s.opened refl
  where
    go : (b : Bool) → s.opened ≡ b → (s.setup ≡ t) × (standing rows ≡ q)
    go true h = let k : opened s.setup (standing rows) ≡ opened t q = sym (with_opened s rows h) ∙ e in (cc, cc)
    go false h = let k : not_open_lem ≡ opened t q = sym (with_closed s rows h) ∙ e in let z : ◌≡◌ {A = ℕ} 0 1 = cc in absurd (omega arith)

module _ (n : ℕ) where
  answers : (x : State) (p : Plain) → Stands n x p → (c : Call) → lent_answer x c ≡ answer_for (refusal n p c)
  answers (s, rows) p w c =
      answer_by (s, rows) c
      ∙ ap answer_for (refused_as s rows (in_order w.lent) c ∙ ap₂ (λ (k : ℕ) (y : Plain). refusal k y c) w.count w.plain)

  next : (x : State) (p : Plain) → Stands n x p → (c : Call) → Stands n (next_lent x c) (step n p c)
  next (s, rows) p w c =
      record {
        lent = lends_next s rows w.lent c;
        plain = next_is s rows w.lent c ∙ ap₂ (λ (k : ℕ) (y : Plain). step k y c) w.count w.plain;
        count = count_next s rows w.lent c ∙ w.count;
      }

  plans : (x : State) (t : Setup) (q : List Entry) → Stands n x (opened t q) → (room : ℕ) → refusal n (opened t q) (Turn room) ≡ None
      → lent_plan (lent_turned x.0 x.1 room) ≡ plan_for t q
  plans (s, rows) t q w room h =
      let same = stands_for s rows t q w.plain in
      turn_plan_is s rows room (refused_as s rows (in_order w.lent) (Turn room) ∙ ap₂ (λ (k : ℕ) (p : Plain). refusal k p (Turn room)) w.count w.plain ∙ h)
      ∙ ap₂ (λ (u : Setup) (l : List Entry). assign (taken u l) (places_of u (taken u l))) same.0 same.1

  pub faithful : Faithful lent_session n (Stands n)
  faithful = record { answers = answers; next = next; plans = plans }

-- ---- the two starts

pub stands_start : (s : LentSession) (rows : List Entry) → s.opened ≡ false → IsCount (length rows) → Stands (length rows) (s, rows) not_open_lem
stands_start s rows h c = record { lent = closed h c; plain = with_closed s rows h; count = refl }

pub stands_rows : (s : LentSession) (rows : List Entry) → IsOpened s → (k : SoundRows s.setup rows) → Stands (length rows) (s, rows) (opened s.setup k.queue)
stands_rows s rows o k =
    record { lent = kept o k; plain = with_opened s rows o.is_open ∙ ap (opened s.setup) (sym (row_rules.stands s.setup rows k)); count = refl }

pub sound_rows_lem : (s : LentSession) (rows : List Entry) → IsOpened s → (k : SoundRows s.setup rows) → Sound (length rows) s.setup k.queue
sound_rows_lem s rows o k = rw (row_rules.stands s.setup rows k) (sound_of s rows o k)

pub lent_demand3 : LentDemand3
lent_demand3 =
    record {
      from_start = λ s rows h c. promises lent_session (length rows) (Stands (length rows)) (faithful (length rows)) (s, rows) not_open_lem (stands_start s rows h c) tt;
      from_rows = λ s rows o k.
          promises lent_session (length rows) (Stands (length rows)) (faithful (length rows)) (s, rows) (opened s.setup k.queue) (stands_rows s rows o k) (sound_rows_lem s rows o k);
      plans_start = λ s rows h c. one_plan_each lent_session (length rows) (Stands (length rows)) (faithful (length rows)) (s, rows) not_open_lem (stands_start s rows h c);
      plans_rows = λ s rows o k.
          one_plan_each lent_session (length rows) (Stands (length rows)) (faithful (length rows)) (s, rows) (opened s.setup k.queue) (stands_rows s rows o k);
    }

pub lent_shorter : LentShorterPromise
lent_shorter =
    record {
      from_start = λ s rows h c. shorter_promises lent_session (length rows) (Stands (length rows)) (faithful (length rows)) (s, rows) not_open_lem (stands_start s rows h c) tt;
      from_rows = λ s rows o k.
          shorter_promises lent_session (length rows) (Stands (length rows)) (faithful (length rows)) (s, rows) (opened s.setup k.queue) (stands_rows s rows o k) (sound_rows_lem s rows o k);
    }
