-- What is refused for the records' sake. Assumes nothing.
use Rattle.std.specs.Prelude.{Option, None, Some, Ok, Err}
use mathlib.Core.Path.{◌≡◌, refl, ap, ◌∙◌}
use mathlib.Core.List.{List, [], ◌∷◌, foldl}
use mathlib.Core.Bool.{true, false, not}
use mathlib.Mathlib.Data.Bool.Basic.{eq-false_of_not-eq-true}
use Prim.Native.Nat.{ℕ, ◌-◌}
use native.Mathlib.Omega.{arith}
use lib.ListN.{length, replicate}
use Rattle.requests.specs.declared.Opening.{Opening}
use Rattle.requests.specs.declared.Setup.{Setup}
use Rattle.requests.specs.declared.Entry.{Entry}
use Rattle.requests.specs.declared.Refusal.{Refusal}
use Rattle.requests.specs.declared.Refusal.TheVariants.{CallOrder, BadOpening}
use Rattle.requests.specs.Refusals.{answer_for}
use Rattle.requests.specs.Devices.{setup_of}
use Rattle.sessions.specs.Calls.{Call, Open, Add, Drop, Turn, Turns, Plain, not_open_lem, opened, waiting}
use Rattle.sessions.specs.Table.{refusal}
use Rattle.sessions.specs.Plain.{change}
use Rattle.sessions.specs.Sessions.{vacant}
use Rattle.sessions.specs.Completed.{state_after}
use Rattle.sessions.proofs.TableAnswers.{open_accepted}
use Rattle.lent_sessions.specs.Records.{is_count, records_of, sound_rows}
use Rattle.lent_sessions.specs.RowRules.{IsCount, Vacant, SoundRows}
use Rattle.lent_sessions.specs.Lent.{plain_with, out_of_order_lem, bad_rows, lent_refusal, rows_after}
use Rattle.lent_sessions.specs.Histories.{State, lent_answer, next_lent, lent_session}
use Rattle.lent_sessions.specs.BrokenRows.{UsesQueue, adds, drops, turns, BrokenRows}
use Rattle.lent_sessions.specs.declared.LentSession.{LentSession}
use Rattle.lent_sessions.proofs.RowRules.{row_rules}
use Rattle.lent_sessions.proofs.LentUnchanged.{lent_unchanged}
use Rattle.lent_sessions.proofs.LentCalls.{with_closed, order_first, rows_next, table_last, answer_by, next_by, rows_accepted, opens_with}

-- ---- the records

pub answered_so : (x : State) (c : Call) (r : Option Refusal) → lent_refusal x.0 x.1 c ≡ r → lent_answer x c ≡ answer_for r
answered_so x c r h = answer_by x c ∙ ap answer_for h

-- 2, of every call but open
unopened : (s : LentSession) (rows : List Entry) (c : Call) → out_of_order_lem s c ≡ true → lent_answer (s, rows) c ≡ Err CallOrder
unfolding answer_for
unopened s rows c h = answered_so (s, rows) c (Some CallOrder) (order_first s rows c h)

before : (s : LentSession) (rows : List Entry) → s.opened ≡ false → (c : Call) → UsesQueue c → lent_answer (s, rows) c ≡ Err CallOrder
unfolding out_of_order_lem
before s rows h c adds = unopened s rows c (ap not h)
before s rows h c drops = unopened s rows c (ap not h)
before s rows h c turns = unopened s rows c (ap not h)

again : (s : LentSession) (rows : List Entry) → s.opened ≡ true → (o : Opening) → lent_answer (s, rows) (Open o) ≡ Err CallOrder
unfolding out_of_order_lem
again s rows h o = unopened s rows (Open o) h

not_sound : (s : LentSession) (rows : List Entry) → ¬ SoundRows s.setup rows → not (sound_rows s.setup rows) ≡ true
not_sound s rows n = ap not (eq-false_of_not-eq-true {b = sound_rows s.setup rows} (λ h. n (row_rules.sound s.setup rows h)))

not_count : (n : ℕ) → ¬ IsCount n → not (is_count n) ≡ true
not_count n out = ap not (eq-false_of_not-eq-true {b = is_count n} (λ c. out (row_rules.count n c)))

-- 3, for the records
spoiled : (s : LentSession) (rows : List Entry) (c : Call) → out_of_order_lem s c ≡ false → bad_rows s.setup rows c ≡ true → lent_answer (s, rows) c ≡ Err BadOpening
unfolding answer_for
spoiled s rows c h b = answered_so (s, rows) c (Some BadOpening) (rows_next s rows c h b)

broken : (s : LentSession) (rows : List Entry) → s.opened ≡ true → ¬ SoundRows s.setup rows → (c : Call) → UsesQueue c → lent_answer (s, rows) c ≡ Err BadOpening
unfolding out_of_order_lem bad_rows
broken s rows h n c adds = spoiled s rows c (ap not h) (not_sound s rows n)
broken s rows h n c drops = spoiled s rows c (ap not h) (not_sound s rows n)
broken s rows h n c turns = spoiled s rows c (ap not h) (not_sound s rows n)

too_many : (s : LentSession) (rows : List Entry) → s.opened ≡ false → ¬ IsCount (length rows) → (o : Opening) → lent_answer (s, rows) (Open o) ≡ Err BadOpening
unfolding out_of_order_lem bad_rows
too_many s rows h n o = spoiled s rows (Open o) h (not_count (length rows) n)

-- no queue in n records
pub no_records : (n : ℕ) → records_of n [] ≡ replicate n vacant
unfolding records_of
no_records n = ap (λ (k : ℕ). replicate k vacant) (less n)
  where
    less : (k : ℕ) → k - 0 ≡ k
    less k = omega arith

opens : (s : LentSession) (rows : List Entry) → s.opened ≡ false → IsCount (length rows) → (o : Opening) (t : Setup) → setup_of o ≡ Some t
    → (lent_answer (s, rows) (Open o) ≡ Ok tt) × (next_lent (s, rows) (Open o) ≡ (record { opened = true; setup = t }, replicate (length rows) Vacant))
unfolding answer_for out_of_order_lem bad_rows change waiting vacant
opens s rows h n o t e =
    let plain : plain_with s rows ≡ not_open_lem = with_closed s rows h in
    let accepted : lent_refusal s rows (Open o) ≡ None =
    table_last s rows (Open o) h (ap not (row_rules.counts (length rows) n))
    ∙ ap (λ (p : Plain). refusal (length rows) p (Open o)) plain
    ∙ open_accepted (length rows) o t e in
    let made : change not_open_lem (Open o) ≡ opened t [] = rw (e, change) in (
      answered_so (s, rows) (Open o) None accepted,
      next_by s rows (Open o)
          ∙ ap (λ (x : LentSession). (x, rows_after s rows (Open o))) (opens_with s rows o t accepted e)
          ∙ ap (λ (l : List Entry). (record { opened = true; setup = t }, l)) (
          rows_accepted s rows (Open o) accepted
          ∙ ap (λ (p : Plain). records_of (length rows) (waiting (change p (Open o)))) plain
          ∙ ap (λ (p : Plain). records_of (length rows) (waiting p)) made
          ∙ no_records (length rows)
          ),
    )

-- ---- nothing is accepted for ever

stays : (x : State) → ((c : Call) → next_lent x c ≡ x) → (calls : List Call) → state_after lent_session x calls ≡ x
stays x same [] = refl
stays x same (c ∷ cs) = ap (λ (y : State). foldl next_lent y cs) (same c) ∙ stays x same cs

still_broken : (s : LentSession) (rows : List Entry) → s.opened ≡ true → ¬ SoundRows s.setup rows → (calls : List Call) → state_after lent_session (s, rows) calls ≡ (s, rows)
unfolding out_of_order_lem bad_rows
still_broken s rows h n = stays (s, rows) one
  where
    one : (c : Call) → next_lent (s, rows) c ≡ (s, rows)
    one (Open o) = lent_unchanged.state (s, rows) (Open o) CallOrder (again s rows h o)
    one (Add id r) = lent_unchanged.state (s, rows) (Add id r) BadOpening (broken s rows h n (Add id r) adds)
    one (Drop id) = lent_unchanged.state (s, rows) (Drop id) BadOpening (broken s rows h n (Drop id) drops)
    one (Turn room) = lent_unchanged.state (s, rows) (Turn room) BadOpening (broken s rows h n (Turn room) turns)
    one (Turns k room places) = lent_unchanged.state (s, rows) (Turns k room places) BadOpening (spoiled s rows (Turns k room places) (ap not h) (not_sound s rows n))

still_closed : (s : LentSession) (rows : List Entry) → s.opened ≡ false → ¬ IsCount (length rows) → (calls : List Call) → state_after lent_session (s, rows) calls ≡ (s, rows)
unfolding out_of_order_lem
still_closed s rows h n = stays (s, rows) one
  where
    one : (c : Call) → next_lent (s, rows) c ≡ (s, rows)
    one (Open o) = lent_unchanged.state (s, rows) (Open o) BadOpening (too_many s rows h n o)
    one (Add id r) = lent_unchanged.state (s, rows) (Add id r) CallOrder (before s rows h (Add id r) adds)
    one (Drop id) = lent_unchanged.state (s, rows) (Drop id) CallOrder (before s rows h (Drop id) drops)
    one (Turn room) = lent_unchanged.state (s, rows) (Turn room) CallOrder (before s rows h (Turn room) turns)
    one (Turns k room places) = lent_unchanged.state (s, rows) (Turns k room places) CallOrder (unopened s rows (Turns k room places) (ap not h))

pub broken_rows : BrokenRows
broken_rows = record { before = before; again = again; broken = broken; too_many = too_many; opens = opens; still_broken = still_broken; still_closed = still_closed }
