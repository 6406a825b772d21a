-- Decisions of a turn, by the row that refuses it and by the writer's answer. Assumes nothing.
use mathlib.Core.Path.{◌≡◌, refl, ap, ap₂, sym, ◌∙◌}
use mathlib.Core.List.{List, ◌++◌}
use Prim.Native.Nat.{ℕ, ◌≤◌}
use native.Mathlib.Omega.{arith}
use lib.ListN.{length, take, replicate, length-append}
use Rattle.requests.specs.declared.Setup.{Setup}
use Rattle.requests.specs.declared.Entry.{Entry}
use Rattle.requests.specs.declared.Refusal.{Refusal}
use Rattle.requests.specs.Refusals.{answer_for}
use Rattle.requests.specs.Devices.{capacity}
use Rattle.plans.specs.Packed.{places_from}
use Rattle.search.specs.Rows.{rows_from}
use Rattle.layouts.specs.declared.Settings.{Settings}
use Rattle.layouts.specs.Settings.{settings_of}
use Rattle.layouts.specs.Writes.{writes, writes_for}
use Rattle.layouts.specs.Slices.{too_short, Wrote}
use Rattle.sessions.specs.Turns.{taken, passed, turned, places_of, assign, writes_of}
use Rattle.sessions.specs.Calls.{Turn}
use Rattle.sessions.specs.Plain.{on_queue, change}
use Rattle.sessions.specs.Sessions.{vacant}
use Rattle.sessions.proofs.TakenPlan.{taken_few}
use Rattle.sessions.proofs.TableAnswers.{turn_short, turn_accepted_lem}
use Rattle.planner.specs.Selections.{planned}
use Rattle.planner.proofs.Assigning.{planned_length}
use Rattle.planner.proofs.Turning.{wrote_none, wrote_all}
use Rattle.lent_sessions.specs.Records.{is_count, standing}
use Rattle.lent_sessions.specs.Lent.{rows_after, lent_refusal, lent_turn, lent_turned, lent_slice}
use Rattle.lent_sessions.specs.BrokenRows.{turns}
use Rattle.lent_planner.specs.Changes.{rearranged}
use Rattle.lent_planner.specs.Decisions.{ChecksRows}
use Rattle.std.specs.Prelude.{None, Some, Result, Ok, Err}
use Rattle.lent_planner.specs.Choices.{HasChosen}
use Rattle.lent_planner.specs.Turnings.{turn_refused, turn_accepted, turning, TurnDecidesFor}
use Rattle.lent_sessions.specs.declared.LentSession.{LentSession}
use Rattle.lent_planner.specs.declared.Survey.{Survey}
use Rattle.lent_planner.specs.declared.Choice.{Choice}
use Rattle.lent_sessions.proofs.LentCalls.{rows_refused}
use Rattle.lent_sessions.proofs.LentUnchanged.{turn_is, turn_slice_is, refused_is, refused_slice_is}
use Rattle.lent_planner.proofs.TurnChanges.{one_turn}
use Rattle.lent_planner.proofs.ChoiceLaws.{chosen_places, chosen_entries}
use Rattle.lent_planner.proofs.Deciding.{table_row, pass_kept, placed_rows, few_records, next_rows}

-- ---- what is chosen

module _ {s : Setup} {q : List Entry} {t : Choice} (c : HasChosen s q t) where
  -- the writes are those of the entries taken
  writes_same : (settings : Settings) (n : ℕ) → n ≡ t.count → settings ≡ settings_of s (rows_from t.rows 0 n) (places_from t.plan 0 (rows_from t.rows 0 n))
      → writes_for s settings ≡ writes_of s (taken s q)
  unfolding writes_of writes
  writes_same settings n m e = ap (writes_for s) (e ∙ rw (m, c.rows_taken, chosen_places c))

  -- and the plan is theirs
  plan_same : planned t.plan (take t.count t.taken) ≡ assign (taken s q) (places_of s (taken s q))
  unfolding planned
  plan_same = rw (chosen_entries c, chosen_places c)

  plan_count : t.count ≡ length (assign (taken s q) (places_of s (taken s q)))
  plan_count = c.taken_count ∙ sym (ap length (sym plan_same) ∙ planned_length t.plan (take t.count t.taken) ∙ ap length (chosen_entries c))

-- ---- a turn that is accepted, or finds no room in its slice

module _ (s : LentSession) (n : ℕ) (x : Survey) (t : Choice) (before after : List ℕ) (ok : ChecksRows s n x (Ok tt))
    (settings : Settings) (count : ℕ) (all : count ≡ t.count)
    (of : settings ≡ settings_of s.setup (rows_from t.rows 0 count) (places_from t.plan 0 (rows_from t.rows 0 count))) where
  turn_too_short : (y : Refusal) → Wrote (writes_for s.setup settings) before after (Err y) → TurnDecidesFor s n x t before after (Err y)
  unfolding too_short
  turn_too_short y w rows len is ch =
      let k = pass_kept s rows 0 x is (ap is_count len ∙ ok.1) ok.2 in
      let q : List Entry = standing rows in
      let short = wrote_none (writes_of s.setup (taken s.setup q)) before after y (rw (writes_same ch settings count all of) at w) in
      (table_row s rows (Turn (length before)) turns ok.0 k.sound ∙ turn_short (length rows) s.setup q (length before) short.1 ∙ ap Some (sym short.0), short.2)

  turn_written : (writes : ℕ) → Wrote (writes_for s.setup settings) before after (Ok writes) → TurnDecidesFor s n x t before after (Ok writes)
  unfolding too_short turn_accepted turning lent_turn answer_for change on_queue turned capacity
  turn_written writes w rows len is ch =
      let k = pass_kept s rows 0 x is (ap is_count len ∙ ok.1) ok.2 in
      let q : List Entry = standing rows in
      let es : List Entry = taken s.setup q in
      let written = wrote_all (writes_of s.setup es) before after writes (rw (writes_same ch settings count all of) at w) in
      let accepted : lent_refusal s rows (Turn (length before)) ≡ None =
      table_row s rows (Turn (length before)) turns ok.0 k.sound ∙ turn_accepted_lem (length rows) s.setup q (length before) written.0 in
      let room : length q ≤ length rows = omega (arith, ap length (placed_rows s.setup rows k.rows_sound), length-append q (replicate k.rows_sound.free vacant)) in
      record {
        turned =
            rw (plan_same ch, plan_count ch, written.1) (sym (turn_is s rows (length before) accepted));
        slice = written.2 ∙ sym (turn_slice_is s rows before accepted);
        rows_after_lem =
            ap₂
            (λ (i : ℕ) (u : List ℕ × List Entry). rearranged (record { from = 0; end = i; skip = 0; at = u.0; fresh = u.1 }) rows)
            k.finds.len
            (ap₂ (λ (l : List ℕ) (r : List Entry). (l, r)) ch.at_array ch.taken_array)
            ∙ one_turn s.setup q rows k.rows_sound.free (placed_rows s.setup rows k.rows_sound) (few_records s.setup rows k.rows_sound) (taken_few s.setup q)
            ∙ sym (next_rows s rows (Turn (length before)) (passed s.setup q ++ taken s.setup q) ok.0 accepted refl);
        fits = record { from = omega arith; end = omega (arith, k.finds.len, room); skip = omega arith };
      }

  pub turn_wrote : (r : Result ℕ Refusal) → Wrote (writes_for s.setup settings) before after r → TurnDecidesFor s n x t before after r
  turn_wrote (Ok writes) w = turn_written writes w
  turn_wrote (Err y) w = turn_too_short y w

-- a turn that is refused
pub turn_refuses : (s : LentSession) (rows : List Entry) (before after : List ℕ) (x : Refusal) → lent_refusal s rows (Turn (length before)) ≡ Some x → after ≡ before
    → (turn_refused s x ≡ lent_turned s rows (length before)) × (rows ≡ rows_after s rows (Turn (length before))) × (after ≡ lent_slice s rows before)
unfolding turn_refused answer_for
turn_refuses s rows before after x h same = (sym (refused_is s rows (length before) x h), sym (rows_refused s rows (Turn (length before)) x h).1, same ∙ sym (refused_slice_is s rows before x h))
