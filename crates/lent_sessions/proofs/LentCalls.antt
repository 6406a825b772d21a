-- The calls of a lent session, by the refusal table of the plain queue. Assumes nothing.
--     refused-as                     where records may be lent, a call is refused by the row that refuses it on the plain queue
--     sound-of, rows-of              sound rows are a sound queue in records, and back
--     answer-by, session-by, next-by     the answer to a call, and what it leaves, by the row that refuses it
--     next-is, lends-next, count-next    one call keeps the session and its records standing for the plain queue, and the records sound
use Rattle.std.proofs.lemmas.Option.{none-some}
use Rattle.std.specs.Prelude.{Option, None, Some}
use mathlib.Core.Path.{◌≡◌, refl, ap, sym, subst, ◌∙◌}
use mathlib.Core.List.{List, [], ◌∷◌, ◌++◌}
use mathlib.Core.Bool.{Bool, true, false, not, false≢true}
use Prim.Native.Nat.{ℕ, ◌-◌, ◌≤◌}
use native.Mathlib.Omega.{arith}
use lib.ListN.{length, replicate, length-append, length-replicate}
use borrow.Author.Tests.{not-true}
use Rattle.requests.specs.declared.Opening.{Opening}
use Rattle.requests.specs.declared.Setup.{Setup}
use Rattle.requests.specs.declared.Entry.{Entry}
use Rattle.requests.specs.declared.Refusal.{Refusal}
use Rattle.requests.specs.declared.Refusal.TheVariants.{CallOrder, BadOpening}
use Rattle.requests.specs.Refusals.{answer_for}
use Rattle.requests.specs.Choice.{Row, first_holding}
use Rattle.requests.specs.Devices.{setup_of}
use Rattle.sessions.specs.Turns.{turned, turned_times}
use Rattle.sessions.specs.Calls.{Call, Open, Add, Drop, Turn, Turns, Plain, not_open_lem, opened, waiting}
use Rattle.sessions.specs.Table.{refusal}
use Rattle.sessions.specs.Plain.{removed, change, on_queue, step}
use Rattle.sessions.specs.Sessions.{vacant}
use Rattle.sessions.specs.Sound.{Sound}
use Rattle.sessions.proofs.Steps.{step_accepted, step_refused}
use Rattle.sessions.proofs.Accepted.{accepted_open}
use Rattle.sessions.proofs.SoundKept.{SoundIn, sound_step}
use Rattle.sessions.proofs.TableAnswers.{open_again, add_closed, drop_closed, turn_closed, turns_closed}
use Rattle.lent_sessions.specs.Records.{records_of, standing}
use Rattle.lent_sessions.specs.RowRules.{IsCount, SoundRows}
use Rattle.lent_sessions.specs.Lent.{plain_with, out_of_order_lem, bad_rows, lent_table, lent_refusal, rows_after, lent_changed, lent_after, lent_answered, lent_turn, lent_turned}
use Rattle.lent_sessions.specs.Histories.{State, lent_answer, next_session, next_lent, plain_in, InOrder, before, since, IsOpened, Lends, closed, kept}
use Rattle.lent_sessions.specs.declared.LentSession.{LentSession}
use Rattle.lent_sessions.proofs.RowRules.{standing_placed, row_rules}

-- ---- the plain queue of a lent session

pub with_closed : (s : LentSession) (rows : List Entry) → s.opened ≡ false → plain_with s rows ≡ not_open_lem
unfolding plain_with
with_closed s rows h = rw (h, plain_with)

pub with_opened : (s : LentSession) (rows : List Entry) → s.opened ≡ true → plain_with s rows ≡ opened s.setup (standing rows)
unfolding plain_with
with_opened s rows h = rw (h, plain_with)

-- ---- the table

module _ {A : Type 0} where
  pub first_row : (b : Bool) (x : A) (rows : List (Row A)) → b ≡ true → first_holding ((b, x) ∷ rows) ≡ Some x
  unfolding first_holding
  first_row b x rows h = rw (h, first_holding)

  pub later_row : (b : Bool) (x : A) (rows : List (Row A)) → b ≡ false → first_holding ((b, x) ∷ rows) ≡ first_holding rows
  unfolding first_holding
  later_row b x rows h = rw (h, first_holding)

-- 2 comes first
pub order_first : (s : LentSession) (rows : List Entry) (c : Call) → out_of_order_lem s c ≡ true → lent_refusal s rows c ≡ Some CallOrder
unfolding lent_refusal lent_table
order_first s rows c h = first_row (out_of_order_lem s c) CallOrder _ h

-- 3 for the records comes next
pub rows_next : (s : LentSession) (rows : List Entry) (c : Call) → out_of_order_lem s c ≡ false → bad_rows s.setup rows c ≡ true → lent_refusal s rows c ≡ Some BadOpening
unfolding lent_refusal lent_table
rows_next s rows c h b = later_row (out_of_order_lem s c) CallOrder _ h ∙ first_row (bad_rows s.setup rows c) BadOpening _ b

-- then the table of the plain queue
pub table_last : (s : LentSession) (rows : List Entry) (c : Call) → out_of_order_lem s c ≡ false → bad_rows s.setup rows c ≡ false
    → lent_refusal s rows c ≡ refusal (length rows) (plain_with s rows) c
unfolding lent_refusal lent_table refusal
table_last s rows c h b = later_row (out_of_order_lem s c) CallOrder _ h ∙ later_row (bad_rows s.setup rows c) BadOpening _ b

-- the plain queue refuses with 2 where the session does
pub plain_order : (limit : ℕ) (s : LentSession) (rows : List Entry) (c : Call) → out_of_order_lem s c ≡ true → refusal limit (plain_with s rows) c ≡ Some CallOrder
unfolding out_of_order_lem
plain_order limit s rows (Open o) h = rw (with_opened s rows h) (open_again limit s.setup (standing rows) o)
plain_order limit s rows (Add id r) h = rw (with_closed s rows (not-true s.opened h)) (add_closed limit id r)
plain_order limit s rows (Drop id) h = rw (with_closed s rows (not-true s.opened h)) (drop_closed limit id)
plain_order limit s rows (Turn room) h = rw (with_closed s rows (not-true s.opened h)) (turn_closed limit room)
plain_order limit s rows (Turns n room places) h = rw (with_closed s rows (not-true s.opened h)) (turns_closed limit n room places)

-- the records of a call that is in order
rows_fine : (s : LentSession) (rows : List Entry) → InOrder s rows → (c : Call) → out_of_order_lem s c ≡ false → bad_rows s.setup rows c ≡ false
unfolding bad_rows out_of_order_lem
rows_fine s rows (before h n) (Open o) e = ap not (row_rules.counts (length rows) n)
rows_fine s rows (before h n) (Add id r) e = absurd (false≢true (sym (sym (ap not h) ∙ e)))
rows_fine s rows (before h n) (Drop id) e = absurd (false≢true (sym (sym (ap not h) ∙ e)))
rows_fine s rows (before h n) (Turn room) e = absurd (false≢true (sym (sym (ap not h) ∙ e)))
rows_fine s rows (before h n) (Turns k room places) e = absurd (false≢true (sym (sym (ap not h) ∙ e)))
rows_fine s rows (since o k) (Open p) e = absurd (false≢true (sym e ∙ o))
rows_fine s rows (since o k) (Add id r) e = ap not (row_rules.holds s.setup rows k)
rows_fine s rows (since o k) (Drop id) e = ap not (row_rules.holds s.setup rows k)
rows_fine s rows (since o k) (Turn room) e = ap not (row_rules.holds s.setup rows k)
rows_fine s rows (since o k) (Turns n room places) e = ap not (row_rules.holds s.setup rows k)

pub refused_as : (s : LentSession) (rows : List Entry) → InOrder s rows → (c : Call) → lent_refusal s rows c ≡ refusal (length rows) (plain_with s rows) c
refused_as s rows l c = go (out_of_order_lem s c) refl
  where
    go : (b : Bool) → out_of_order_lem s c ≡ b → lent_refusal s rows c ≡ refusal (length rows) (plain_with s rows) c
    go true h = order_first s rows c h ∙ sym (plain_order (length rows) s rows c h)
    go false h = table_last s rows c h (rows_fine s rows l c h)

pub in_order : {s : LentSession} {rows : List Entry} → Lends s rows → InOrder s rows
in_order (closed h n) = before h n
in_order (kept o k) = since o.is_open k

-- ---- sound rows and sound queues

pub length_records : (n : ℕ) (q : List Entry) → length q ≤ n → length (records_of n q) ≡ n
unfolding records_of
length_records n q l = omega (arith, length-append q (replicate (n - length q) vacant), length-replicate (n - length q) vacant)

pub sound_of : (s : LentSession) (rows : List Entry) → IsOpened s → SoundRows s.setup rows → Sound (length rows) s.setup (standing rows)
unfolding vacant
sound_of s rows o k =
    let same : k.queue ≡ standing rows = row_rules.stands s.setup rows k in
    rw (← same) (record {
      setup = o.setup;
      within = omega (arith, ap length k.placed, length-append k.queue (replicate k.free vacant));
      distinct = k.distinct;
      ids = k.ids;
      formed = k.formed;
      alone = k.alone;
    })

pub rows_of : (n : ℕ) (t : Setup) (q : List Entry) → IsCount n → Sound n t q → SoundRows t (records_of n q)
unfolding records_of vacant
rows_of n t q c k =
    record {
      number = rw (length_records n q k.within) c;
      queue = q;
      free = n - length q;
      placed = refl;
      distinct = k.distinct;
      ids = k.ids;
      formed = k.formed;
      alone = k.alone;
    }

pub standing_records : (n : ℕ) (t : Setup) (q : List Entry) → Sound n t q → standing (records_of n q) ≡ q
unfolding records_of
standing_records n t q k = standing_placed t (n - length q) q k.ids

-- ---- one call

-- what a turn answers, by the row that refuses it
turn_by : (s : LentSession) (rows : List Entry) (room : ℕ) (x : Option Refusal) → lent_refusal s rows (Turn room) ≡ x
    → ((lent_turned s rows room).answer ≡ answer_for x) × ((lent_turned s rows room).session ≡ s)
unfolding lent_turned lent_turn
turn_by s rows room None e = (rw (e, lent_turned), rw (e, lent_turned))
turn_by s rows room (Some x) e = (rw (e, lent_turned), rw (e, lent_turned))

pub answer_by : (x : State) (c : Call) → lent_answer x c ≡ answer_for (lent_refusal x.0 x.1 c)
unfolding lent_answer lent_answered
answer_by (s, rows) (Open o) = refl
answer_by (s, rows) (Add id r) = refl
answer_by (s, rows) (Drop id) = refl
answer_by (s, rows) (Turn room) = (turn_by s rows room (lent_refusal s rows (Turn room)) refl).0
answer_by (s, rows) (Turns n room places) = refl

-- add, drop and turn leave the session as it is, refused or not
turn_after : (s : LentSession) (rows : List Entry) (room : ℕ) (x : Option Refusal) → lent_refusal s rows (Turn room) ≡ x → s ≡ lent_after s rows (Turn room)
unfolding lent_after lent_changed
turn_after s rows room None e = rw e
turn_after s rows room (Some x) e = rw e

pub session_by_lem : (s : LentSession) (rows : List Entry) (c : Call) → next_session (s, rows) c ≡ lent_after s rows c
unfolding next_session lent_answered
session_by_lem s rows (Open o) = refl
session_by_lem s rows (Add id r) = refl
session_by_lem s rows (Drop id) = refl
session_by_lem s rows (Turn room) = (turn_by s rows room (lent_refusal s rows (Turn room)) refl).1 ∙ turn_after s rows room (lent_refusal s rows (Turn room)) refl
session_by_lem s rows (Turns n room places) = refl

pub next_by : (s : LentSession) (rows : List Entry) (c : Call) → next_lent (s, rows) c ≡ (lent_after s rows c, rows_after s rows c)
next_by s rows c = ap (λ (t : LentSession). (t, rows_after s rows c)) (session_by_lem s rows c)

pub rows_refused : (s : LentSession) (rows : List Entry) (c : Call) (x : Refusal) → lent_refusal s rows c ≡ Some x → (lent_after s rows c ≡ s) × (rows_after s rows c ≡ rows)
unfolding lent_after rows_after
rows_refused s rows c x h = (rw h, rw h)

pub rows_accepted : (s : LentSession) (rows : List Entry) (c : Call) → lent_refusal s rows c ≡ None → rows_after s rows c ≡ records_of (length rows) (waiting (change (plain_with s rows) c))
unfolding rows_after
rows_accepted s rows c h = rw h

pub session_accepted : (s : LentSession) (rows : List Entry) (c : Call) → lent_refusal s rows c ≡ None → lent_after s rows c ≡ lent_changed s c
unfolding lent_after
session_accepted s rows c h = rw h

pub opens_with : (s : LentSession) (rows : List Entry) (o : Opening) (t : Setup) → lent_refusal s rows (Open o) ≡ None → setup_of o ≡ Some t
    → lent_after s rows (Open o) ≡ record { opened = true; setup = t }
unfolding lent_changed
opens_with s rows o t h e = session_accepted s rows (Open o) h ∙ rw (e, lent_changed)

-- what a call leaves, and what that stands for
record Left (s : LentSession) (rows : List Entry) (c : Call) : Type 0 where
  stands : plain_with (lent_after s rows c) (rows_after s rows c) ≡ step (length rows) (plain_with s rows) c
  lends : Lends (lent_after s rows c) (rows_after s rows c)
  count : length (rows_after s rows c) ≡ length rows

left_refused : (s : LentSession) (rows : List Entry) → Lends s rows → (c : Call) (x : Refusal) → lent_refusal s rows c ≡ Some x → Left s rows c
left_refused s rows l c x h =
    let t = rows_refused s rows c x h in
    let r : refusal (length rows) (plain_with s rows) c ≡ Some x = sym (refused_as s rows (in_order l) c) ∙ h in
    record {
      stands = rw (t.0, t.1) (sym (step_refused (length rows) (plain_with s rows) c x r));
      lends = rw (t.0, t.1) l;
      count = ap length t.1;
    }

-- an accepted add, drop or turn of a session that is open
left_queue : (s : LentSession) (rows : List Entry) → IsOpened s → SoundRows s.setup rows → (c : Call) (q : List Entry) → lent_refusal s rows c ≡ None
    → lent_after s rows c ≡ s → change (opened s.setup (standing rows)) c ≡ opened s.setup q → Left s rows c
unfolding waiting
left_queue s rows o k c q h stays made =
    let n : ℕ = length rows in
    let plain : plain_with s rows ≡ opened s.setup (standing rows) = with_opened s rows o.is_open in
    let next : step n (opened s.setup (standing rows)) c ≡ opened s.setup q =
    step_accepted n (opened s.setup (standing rows)) c (ap (λ (p : Plain). refusal n p c) (sym plain) ∙ sym (refused_as s rows (in_order (kept o k)) c) ∙ h) ∙ made in
    let sound : Sound n s.setup q = subst (SoundIn n) next (sound_step n (opened s.setup (standing rows)) c (sound_of s rows o k)) in
    let rows_are : rows_after s rows c ≡ records_of n q = rows_accepted s rows c h ∙ ap (λ (p : Plain). records_of n (waiting (change p c))) plain ∙ ap (λ (p : Plain). records_of n (waiting p)) made in
    record {
      stands = rw (stays, rows_are) (with_opened s (records_of n q) o.is_open ∙ ap (opened s.setup) (standing_records n s.setup q sound) ∙ sym next ∙ ap (λ (p : Plain). step n p c) (sym plain));
      lends = rw (stays, rows_are) (kept o (rows_of n s.setup q k.number sound));
      count = ap length rows_are ∙ length_records n q sound.within;
    }

-- an accepted open
left_open : (s : LentSession) (rows : List Entry) → s.opened ≡ false → IsCount (length rows) → (o : Opening) → lent_refusal s rows (Open o) ≡ None → Left s rows (Open o)
unfolding change waiting
left_open s rows h n o accepted =
    let k : ℕ = length rows in
    let plain : plain_with s rows ≡ not_open_lem = with_closed s rows h in
    let ok : refusal k not_open_lem (Open o) ≡ None = ap (λ (p : Plain). refusal k p (Open o)) (sym plain) ∙ sym (refused_as s rows (before h n) (Open o)) ∙ accepted in
    let found = accepted_open k o ok in
    let t : Setup = found.0 in
    let opening : setup_of o ≡ Some t = found.1 in
    let made : change not_open_lem (Open o) ≡ opened t [] = rw (opening, change) in
    let session-is : lent_after s rows (Open o) ≡ record { opened = true; setup = t } = opens_with s rows o t accepted opening in
    let rows_are : rows_after s rows (Open o) ≡ records_of k [] = rows_accepted s rows (Open o) accepted ∙ ap (λ (p : Plain). records_of k (waiting (change p (Open o)))) plain ∙ ap (λ (p : Plain). records_of k (waiting p)) made in
    let sound : Sound k t [] = subst (SoundIn k) (step_accepted k not_open_lem (Open o) ok ∙ made) (sound_step k not_open_lem (Open o) tt) in
    record {
      stands = rw (session-is, rows_are) (with_opened (record { opened = true; setup = t }) (records_of k []) refl ∙ ap (opened t) (standing_records k t [] sound) ∙ sym made ∙ sym (step_accepted k not_open_lem (Open o) ok) ∙ ap (λ (p : Plain). step k p (Open o)) (sym plain));
      lends = rw (session-is, rows_are) (kept (record { is_open = refl; setup = sound.setup }) (rows_of k t [] n sound));
      count = ap length rows_are ∙ length_records k [] sound.within;
    }

no_order : (s : LentSession) (rows : List Entry) (c : Call) → out_of_order_lem s c ≡ true → lent_refusal s rows c ≡ None → ⊥
no_order s rows c h e = none-some CallOrder (sym e ∙ order_first s rows c h)

left_accepted : (s : LentSession) (rows : List Entry) → Lends s rows → (c : Call) → lent_refusal s rows c ≡ None → Left s rows c
unfolding out_of_order_lem change on_queue lent_changed
left_accepted s rows (closed h n) (Open o) e = left_open s rows h n o e
left_accepted s rows (closed h n) (Add id r) e = absurd (no_order s rows (Add id r) (ap not h) e)
left_accepted s rows (closed h n) (Drop id) e = absurd (no_order s rows (Drop id) (ap not h) e)
left_accepted s rows (closed h n) (Turn room) e = absurd (no_order s rows (Turn room) (ap not h) e)
left_accepted s rows (closed h n) (Turns k room places) e = absurd (no_order s rows (Turns k room places) (ap not h) e)
left_accepted s rows (kept o k) (Open p) e = absurd (no_order s rows (Open p) o.is_open e)
left_accepted s rows (kept o k) (Add id r) e =
    left_queue s rows o k (Add id r) (standing rows ++ record { id = id; request = r } ∷ []) e (session_accepted s rows (Add id r) e) refl
left_accepted s rows (kept o k) (Drop id) e = left_queue s rows o k (Drop id) (removed id (standing rows)) e (session_accepted s rows (Drop id) e) refl
left_accepted s rows (kept o k) (Turn room) e = left_queue s rows o k (Turn room) (turned s.setup (standing rows)) e (session_accepted s rows (Turn room) e) refl
left_accepted s rows (kept o k) (Turns n room places) e =
    left_queue s rows o k (Turns n room places) (turned_times s.setup n (standing rows)) e (session_accepted s rows (Turns n room places) e) refl

left : (s : LentSession) (rows : List Entry) → Lends s rows → (c : Call) → Left s rows c
left s rows l c = go (lent_refusal s rows c) refl
  where
    go : (x : Option Refusal) → lent_refusal s rows c ≡ x → Left s rows c
    go (Some x) h = left_refused s rows l c x h
    go None h = left_accepted s rows l c h

module _ (s : LentSession) (rows : List Entry) (l : Lends s rows) (c : Call) where
  pub next_is : plain_in (next_lent (s, rows) c) ≡ step (length rows) (plain_with s rows) c
  next_is = rw (session_by_lem s rows c) (left s rows l c).stands

  pub lends_next : Lends (next_lent (s, rows) c).0 (next_lent (s, rows) c).1
  lends_next = rw (session_by_lem s rows c) (left s rows l c).lends

  pub count_next : length (next_lent (s, rows) c).1 ≡ length rows
  count_next = (left s rows l c).count
