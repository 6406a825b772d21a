-- Decisions, by the row that refuses the call. Assumes nothing.
--     before-row, broken-row, table-row     which row refuses an add, a drop or a turn
--     by-table, for-add, for-drop           an add or a drop that the refusal table refuses, and those that are accepted
--     open-again, open-count, open-by       an open
use mathlib.Core.Path.{◌≡◌, refl, ap, ap₂, sym, subst, ◌∙◌}
use mathlib.Core.List.{List, [], ◌∷◌, ◌++◌}
use mathlib.Core.Bool.{Bool, true, false, not, false≢true}
use Rattle.std.specs.Prelude.{Option, None, Some, is_some, Result, Ok, Err}
use Prim.Native.Nat.{ℕ, ◌+◌, ◌≤◌, ◌<◌}
use native.Mathlib.Omega.{arith}
use lib.ListN.{length, replicate, length-append}
use Rattle.requests.specs.declared.Opening.{Opening}
use Rattle.requests.specs.declared.Setup.{Setup}
use Rattle.requests.specs.declared.Request.{Request}
use Rattle.requests.specs.declared.Entry.{Entry}
use Rattle.requests.specs.declared.Refusal.{Refusal}
use Rattle.requests.specs.declared.Refusal.TheVariants.{CallOrder, BadOpening}
use Rattle.requests.specs.Refusals.{answer_for}
use Rattle.requests.specs.Choice.{both}
use Rattle.requests.specs.Devices.{opened_by, setup_of}
use Rattle.requests.proofs.Tests.{true_both}
use Rattle.sessions.specs.Calls.{Call, Open, Add, Drop, Plain, not_open_lem, opened, waiting, waits}
use Rattle.sessions.specs.Table.{refusal, outside_ids}
use Rattle.sessions.specs.Plain.{removed, on_queue, change}
use Rattle.sessions.specs.Sessions.{vacant}
use Rattle.sessions.specs.DistinctIds.{Distinct}
use Rattle.sessions.proofs.Removed.{removed_one}
use Rattle.lent_sessions.specs.Records.{most_records, is_count, records_of, standing, kept_rules, sound_rows}
use Rattle.lent_sessions.specs.RowRules.{IsCount, SoundRows}
use Rattle.lent_sessions.specs.Lent.{out_of_order_lem, bad_rows, lent_refusal, lent_after, rows_after, lent_changed, lent_answered}
use Rattle.lent_sessions.specs.BrokenRows.{UsesQueue, adds, drops, turns}
use Rattle.lent_planner.specs.Surveys.{fresh, surveyed}
use Rattle.lent_planner.specs.Changes.{Fitting, rearranged, shifted}
use Rattle.lent_planner.specs.declared.Change.{Change}
use Rattle.requests.specs.Answers.{Answer}
use Rattle.lent_planner.specs.Decisions.{Answers, ChecksRows, ChecksAdd, DecidesOpen}
use Rattle.lent_sessions.specs.declared.LentSession.{LentSession}
use Rattle.lent_planner.specs.declared.Survey.{Survey}
use Rattle.lent_sessions.proofs.RowRules.{row_rules}
use Rattle.lent_sessions.proofs.LentCalls.{with_closed, with_opened, order_first, rows_next, table_last, rows_refused, rows_accepted, session_accepted, opens_with, answer_by}
use Rattle.lent_sessions.proofs.BrokenRows.{broken_rows, no_records}
use Rattle.requests.proofs.AnswerTests.{answer_none}
use Rattle.requests.proofs.Openings.{opened_some}
use Rattle.sessions.proofs.TableAnswers as table
use Rattle.lent_planner.proofs.SurveyLaw.{Found, survey_broken, survey_found}
use Rattle.lent_planner.proofs.QueueChanges.{one_added, one_dropped}

-- ---- which row refuses an add, a drop or a turn

module _ (s : LentSession) (rows : List Entry) where
  pub before_row : (c : Call) → UsesQueue c → s.opened ≡ false → lent_refusal s rows c ≡ Some CallOrder
  unfolding out_of_order_lem
  before_row c adds h = order_first s rows c (ap not h)
  before_row c drops h = order_first s rows c (ap not h)
  before_row c turns h = order_first s rows c (ap not h)

  in_order : (c : Call) → UsesQueue c → s.opened ≡ true → out_of_order_lem s c ≡ false
  unfolding out_of_order_lem
  in_order c adds h = ap not h
  in_order c drops h = ap not h
  in_order c turns h = ap not h

  bad_is : (c : Call) → UsesQueue c → bad_rows s.setup rows c ≡ not (sound_rows s.setup rows)
  unfolding bad_rows
  bad_is c adds = refl
  bad_is c drops = refl
  bad_is c turns = refl

  pub broken_row : (c : Call) → UsesQueue c → s.opened ≡ true → sound_rows s.setup rows ≡ false → lent_refusal s rows c ≡ Some BadOpening
  broken_row c u h b = rows_next s rows c (in_order c u h) (bad_is c u ∙ ap not b)

  pub table_row : (c : Call) → UsesQueue c → s.opened ≡ true → sound_rows s.setup rows ≡ true → lent_refusal s rows c ≡ refusal (length rows) (opened s.setup (standing rows)) c
  table_row c u h b =
      table_last s rows c (in_order c u h) (bad_is c u ∙ ap not b) ∙ ap (λ (p : Plain). refusal (length rows) p c) (with_opened s rows h)

  -- by the number of records, and by the pass over them
  pub few_broken : is_count (length rows) ≡ false → sound_rows s.setup rows ≡ false
  unfolding sound_rows both
  few_broken h = rw h

  pub pass_broken : (id : ℕ) (t : Survey) → t ≡ surveyed (fresh s.setup id) rows → is_count (length rows) ≡ true → t.broken ≡ true → sound_rows s.setup rows ≡ false
  unfolding sound_rows both
  pass_broken id t is n b = rw n (flip (kept_rules s.setup rows) (sym (survey_broken s.setup id rows) ∙ ap (λ (x : Survey). x.broken) (sym is) ∙ b))
    where
      flip : (k : Bool) → not k ≡ true → k ≡ false
      flip true h = absurd (false≢true h)
      flip false h = refl

  -- the rules are kept
  pub record Kept (id : ℕ) (t : Survey) : Type 0 where
    pub sound : sound_rows s.setup rows ≡ true
    pub rows_sound : SoundRows s.setup rows
    pub finds : Found s.setup id rows t

  pub pass_kept : (id : ℕ) (t : Survey) → t ≡ surveyed (fresh s.setup id) rows → is_count (length rows) ≡ true → t.broken ≡ false → Kept id t
  unfolding sound_rows
  pass_kept id t is n b =
      let k : kept_rules s.setup rows ≡ true = flip (kept_rules s.setup rows) (sym (survey_broken s.setup id rows) ∙ ap (λ (x : Survey). x.broken) (sym is) ∙ b) in
      let h : sound_rows s.setup rows ≡ true = true_both (is_count (length rows)) (kept_rules s.setup rows) n k in
      record { sound = h; rows_sound = row_rules.sound s.setup rows h; finds = subst (Found s.setup id rows) (sym is) (survey_found s.setup id rows k) }
    where
      flip : (k : Bool) → not k ≡ false → k ≡ true
      flip true h = refl
      flip false h = absurd (false≢true (sym h))

-- the records are the queue with vacant ones after it
pub placed_rows : (s : Setup) (rows : List Entry) (k : SoundRows s rows) → rows ≡ standing rows ++ replicate k.free vacant
unfolding vacant
placed_rows s rows k = k.placed ∙ ap (λ (q : List Entry). q ++ replicate k.free vacant) (row_rules.stands s rows k)

pub few_records : (s : Setup) (rows : List Entry) → SoundRows s rows → length rows ≤ 256
unfolding most_records
few_records s rows k = k.number.1

-- ---- a call that is refused

pub answers_refused : (s : LentSession) (rows : List Entry) (c : Call) (x : Refusal) → lent_refusal s rows c ≡ Some x → Answers s rows c (Err x) rows
unfolding answer_for
answers_refused s rows c x h = (ap answer_for (sym h), sym (rows_refused s rows c x h).1)

-- ---- those that are accepted

-- the change is that of the call with these records
pub record MakesChange (s : LentSession) (rows : List Entry) (c : Call) (d : Change) : Type 0 where
  pub answers : Answers s rows c (Ok tt) (rearranged d rows)
  pub fits : Fitting d (length rows)

answers_accepted : (s : LentSession) (rows : List Entry) (c : Call) (after : List Entry) → lent_refusal s rows c ≡ None → after ≡ rows_after s rows c → Answers s rows c (Ok tt) after
unfolding answer_for
answers_accepted s rows c after h is = (ap answer_for (sym h), is)

-- the records of the next queue
pub next_rows : (s : LentSession) (rows : List Entry) (c : Call) (q : List Entry) → s.opened ≡ true → lent_refusal s rows c ≡ None → change
    (opened s.setup (standing rows)) c ≡ opened s.setup q
    → rows_after s rows c ≡ records_of (length rows) q
unfolding waiting
next_rows s rows c q h accepted made =
    rows_accepted s rows c accepted ∙ ap (λ (p : Plain). records_of (length rows) (waiting (change p c))) (with_opened s rows h) ∙ ap (λ (p : Plain). records_of (length rows) (waiting p)) made

pub makes_add : (s : LentSession) (rows : List Entry) (id : ℕ) (r : Request) (t : Survey) → s.opened ≡ true → Kept s rows id t → refusal (length rows)
    (opened s.setup (standing rows)) (Add id r) ≡ None → t.len < length rows → MakesChange s rows (Add id r) (shifted t.len (t.len + 1) 1 (record { id = id; request = r }))
unfolding change on_queue shifted
makes_add s rows id r t h k none_row room =
    let accepted : lent_refusal s rows (Add id r) ≡ None = table_row s rows (Add id r) adds h k.sound ∙ none_row in
    let q : List Entry = standing rows in
    let e : Entry = record { id = id; request = r } in
    let len : t.len ≡ length q = k.finds.len in
    record {
      answers = answers_accepted s rows (Add id r) _ accepted (ap (λ (n : ℕ). rearranged (shifted n (n + 1) 1 e) rows) len
          ∙ one_added rows q k.rows_sound.free e (placed_rows s.setup rows k.rows_sound) (few_records s.setup rows k.rows_sound) (omega (arith, len, room))
          ∙ sym (next_rows s rows (Add id r) (q ++ e ∷ []) h accepted refl));
      fits = record { from = omega (arith, room); end = omega (arith, room); skip = omega (arith, room) };
    }

pub makes_drop : (s : LentSession) (rows : List Entry) (id : ℕ) (t : Survey) → s.opened ≡ true → Kept s rows id t → refusal (length rows)
    (opened s.setup (standing rows)) (Drop id) ≡ None → (at : ℕ) → t.at ≡ Some at → MakesChange s rows (Drop id) (shifted at t.len 1 vacant)
unfolding change on_queue shifted
makes_drop s rows id t h k none_row at found =
    let accepted : lent_refusal s rows (Drop id) ≡ None = table_row s rows (Drop id) drops h k.sound ∙ none_row in
    let place = k.finds.place at found in
    let a : List Entry = place.0 in
    let e : Entry = place.1 in
    let b : List Entry = place.2 in
    let is : standing rows ≡ a ++ e ∷ b = place.3 in
    let left : removed id (standing rows) ≡ a ++ b =
    ap₂ removed (sym place.4) is ∙ removed_one a b e (subst Distinct (row_rules.stands s.setup rows k.rows_sound ∙ is) k.rows_sound.distinct) in
    let size : length (standing rows) ≤ length rows = omega (arith, ap length (placed_rows s.setup rows k.rows_sound), length-append (standing rows) (replicate k.rows_sound.free vacant)) in
    record {
      answers = answers_accepted s rows (Drop id) _ accepted (ap₂ (λ (i n : ℕ). rearranged (shifted i n 1 vacant) rows) place.5 (k.finds.len ∙ ap length is)
          ∙ one_dropped rows a b e k.rows_sound.free
          (placed_rows s.setup rows k.rows_sound ∙ ap (λ (q : List Entry). q ++ replicate k.rows_sound.free vacant) is)
          (few_records s.setup rows k.rows_sound)
          ∙ ap (records_of (length rows)) (sym left)
          ∙ sym (next_rows s rows (Drop id) (removed id (standing rows)) h accepted refl));
      fits =
          record {
            from = omega (arith, place.5, size, ap length is, length-append a (e ∷ b));
            end = omega (arith, k.finds.len, size);
            skip = k.rows_sound.number.0;
          };
    }

-- ---- with the records in which the pass has found t, where they pass the check

module _ (s : LentSession) (rows : List Entry) (t : Survey) (id : ℕ) (is : t ≡ surveyed (fresh s.setup id) rows) (ok : ChecksRows s (length rows) t (Ok tt)) where
  abbrev q : List Entry
  q = standing rows

  kept : Kept s rows id t
  kept = pass_kept s rows id t is ok.1 ok.2

  pub found_is : waits id q ≡ is_some t.at
  found_is = sym kept.finds.found

  len_is : length q ≡ t.len
  len_is = sym kept.finds.len

  pub by_table : (c : Call) → UsesQueue c → (x : Refusal) → refusal (length rows) (opened s.setup q) c ≡ Some x → Answers s rows c (Err x) rows
  by_table c u x row = answers_refused s rows c x (table_row s rows c u ok.0 kept.sound ∙ row)

  pub add_refused : (r : Request) (x : Refusal) → ChecksAdd s.setup (length rows) t id r (Err x) → Answers s rows (Add id r) (Err x) rows
  add_refused r x row = by_table (Add id r) adds x (row q found_is len_is)

  pub for_add : (r : Request) → ChecksAdd s.setup (length rows) t id r (Ok tt) → MakesChange s rows (Add id r) (shifted t.len (t.len + 1) 1 (record { id = id; request = r }))
  for_add r row = makes_add s rows id r t ok.0 kept (row.0 q found_is len_is) row.1

  pub for_drop : outside_ids id ≡ false → (at : ℕ) → t.at ≡ Some at → MakesChange s rows (Drop id) (shifted at t.len 1 vacant)
  for_drop d at found = makes_drop s rows id t ok.0 kept (table.drop_accepted (length rows) s.setup q id d (found_is ∙ ap (λ (o : Option ℕ). is_some o) found)) at found

-- ---- an open

module _ (s : LentSession) (n : ℕ) (o : Opening) where
  pub open_again : s.opened ≡ true → DecidesOpen s n o (Err CallOrder)
  unfolding out_of_order_lem
  open_again h rows len = order_first s rows (Open o) h

  module _ (h : s.opened ≡ false) where
    pub open_count : is_count n ≡ false → DecidesOpen s n o (Err BadOpening)
    unfolding out_of_order_lem bad_rows
    open_count m rows len = rows_next s rows (Open o) h (ap not (ap is_count len ∙ m))

    module _ (m : is_count n ≡ true) where
      open_bad : (x : Refusal) → opened_by o ≡ Err x → DecidesOpen s n o (Err x)
      unfolding out_of_order_lem bad_rows
      open_bad x e rows len =
          table_last s rows (Open o) h (ap not (ap is_count len ∙ m))
          ∙ ap (λ (p : Plain). refusal (length rows) p (Open o)) (with_closed s rows h)
          ∙ table.open_bad (length rows) o x e

      open_with_lem : (t : Setup) → setup_of o ≡ Some t → DecidesOpen s n o (Ok t)
      unfolding change waiting
      open_with_lem t e rows len =
          let here : is_count (length rows) ≡ true = ap is_count len ∙ m in
          let count : IsCount (length rows) = row_rules.count (length rows) here in
          let accepted : lent_refusal s rows (Open o) ≡ None =
          answer_none (lent_refusal s rows (Open o)) (sym (answer_by (s, rows) (Open o)) ∙ (broken_rows.opens s rows h count o t e).0) in
          let made : change not_open_lem (Open o) ≡ opened t [] = rw (e, change) in (
            accepted,
            opens_with s rows o t accepted e,
            rows_accepted s rows (Open o) accepted
                ∙ ap (λ (p : Plain). records_of (length rows) (waiting (change p (Open o)))) (with_closed s rows h)
                ∙ ap (λ (p : Plain). records_of (length rows) (waiting p)) made
                ∙ no_records (length rows)
                ∙ ap (λ (k : ℕ). replicate k vacant) len,
          )

      pub open_by : (r : Result Setup Refusal) → r ≡ opened_by o → DecidesOpen s n o r
      open_by (Ok t) e = open_with_lem t (opened_some o t (sym e))
      open_by (Err x) e = open_bad x (sym e)

-- ---- the answer with the session

module _ (s : LentSession) (rows : List Entry) (c : Call) where
  pub with_session : (a : Answer) (after : List Entry) → lent_after s rows c ≡ s → Answers s rows c a after → (record { answer = a; session = s } ≡ lent_answered s rows c) × (after ≡ rows_after s rows c)
  unfolding lent_answered
  with_session a after same is = (rw (is.0, same), is.1)

  pub open_refused : (x : Refusal) → lent_refusal s rows c ≡ Some x → (record { answer = Err x; session = s } ≡ lent_answered s rows c) × (rows ≡ rows_after s rows c)
  open_refused x h = with_session (Err x) rows (rows_refused s rows c x h).0 (answers_refused s rows c x h)

  pub open_accepted : (t : LentSession) (after : List Entry) → lent_refusal s rows c ≡ None → lent_after s rows c ≡ t → after ≡ rows_after s rows c
      → (record { answer = Ok tt; session = t } ≡ lent_answered s rows c) × (after ≡ rows_after s rows c)
  unfolding lent_answered answer_for
  open_accepted t after h same is = (rw (h, same), is)

-- add and drop leave the session as it is
module _ (s : LentSession) (rows : List Entry) where
  stays : (c : Call) → lent_changed s c ≡ s → lent_after s rows c ≡ s
  stays c same = go (lent_refusal s rows c) refl
    where
      go : (r : Option Refusal) → lent_refusal s rows c ≡ r → lent_after s rows c ≡ s
      go None h = session_accepted s rows c h ∙ same
      go (Some x) h = (rows_refused s rows c x h).0

  pub add_stays : (id : ℕ) (r : Request) → lent_after s rows (Add id r) ≡ s
  unfolding lent_changed
  add_stays id r = stays (Add id r) refl

  pub drop_stays : (id : ℕ) → lent_after s rows (Drop id) ≡ s
  unfolding lent_changed
  drop_stays id = stays (Drop id) refl
