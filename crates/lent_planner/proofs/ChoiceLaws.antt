-- What a turn takes, record by record. Assumes nothing.
--     chosen-takes, chosen-passes, chosen-none    one record more, and none
--     chosen-full                                 nothing more is taken once as many are taken as counters are usable
--     passed-over                                 a record that leaves no set of counters is passed over
use mathlib.Core.Path.{◌≡◌, refl, ap, sym, subst, ◌∙◌}
use mathlib.Core.List.{List, [], ◌∷◌, ◌++◌, append-nil, append_assoc}
use Prim.Native.Nat.{ℕ, ◌+◌, ◌-◌, ◌^◌, ◌≤◌, ◌<◌}
use native.Mathlib.Omega.{arith}
use lib.ListN.{length, take, set, replicate, length-append}
use lib.Seq.{take_at}
use Rattle.requests.specs.declared.Setup.{Setup}
use Rattle.requests.specs.declared.Entry.{Entry}
use Rattle.plans.specs.Packed.{code_of, packed, places_from}
use Rattle.plans.specs.Reach.{left_by, left_of}
use Rattle.plans.proofs.ReachHolds.{reach}
use Rattle.requests.specs.Devices.{capacity, counter_count}
use Rattle.plans.specs.Legal.{HasPlan}
use Rattle.plans.specs.Parts.{usable_count}
use Rattle.search.specs.Rows.{rows_from}
use Rattle.search.proofs.RequestRows.{rows_length}
use Rattle.plans.proofs.PlanLengthHolds.{plan_length}
use Rattle.plans.proofs.PartsHold.{parts}
use Rattle.plans.proofs.FirstFound.{first_empty}
use Rattle.sessions.specs.Turns.{requests_of, taken, places_of}
use Rattle.sessions.specs.Sessions.{vacant}
use Rattle.sessions.proofs.TakenPlan.{requests_length}
use Rattle.sessions.proofs.Takes.{taking}
use Rattle.planner.specs.Selections.{in_array, Searched}
use Rattle.planner.proofs.Selecting.{behind, fits_behind, fits_not, taken_room, left_none, left_takes, places_read_lem}
use Rattle.planner.proofs.Searching.{found_plan}
use Rattle.planner.proofs.Arrays.{array_push}
use Rattle.planner.proofs.Assigning.{requests_next}
use Rattle.lent_planner.specs.Changes.{nowhere}
use Rattle.lent_planner.specs.Choices.{marks_after, marks, HasChosen, Ready, LeavesNone, Chose}
use Rattle.lent_planner.specs.declared.Choice.{Choice}
use Rattle.lent_planner.proofs.Marks.{marks_takes, marks_passes, marks_count}

-- ---- a choice, record by record

-- a record that has no plan behind those taken is passed over
chosen_same : {s : Setup} {q : List Entry} {t : Choice} → HasChosen s q t → (e : Entry) → ¬ HasPlan s (requests_of (taken s q ++ (e ∷ []))) → HasChosen s (q ++ (e ∷ [])) t
chosen_same {s} {q} {t} c e h =
    let same = (taking s).taken_not q e h in
    record {
      setup = c.setup;
      usable = c.usable;
      counters = c.counters;
      rows_length = c.rows_length;
      rows_taken = rw same c.rows_taken;
      plan_found = rw same c.plan_found;
      plan_some = c.plan_some;
      left_sets = rw same c.left_sets;
      taken_array = rw same c.taken_array;
      taken_count = rw same c.taken_count;
      taken_usable = c.taken_usable;
      at_array = rw (marks_passes s q e h) c.at_array;
    }

-- no more are taken than a plan has room for
pub chosen_few : {s : Setup} {q : List Entry} {t : Choice} → HasChosen s q t → t.count ≤ 8
unfolding capacity
chosen_few {s} c =
    let u = plan_length.usable_at_most s in
    let d = plan_length.device_at_most s.device in
    omega (arith, c.taken_usable)

-- the same choice with other rows past those taken
unfoldable pub with_rows : Choice → List ℕ → Choice
with_rows t rows =
    record {
      setup = t.setup;
      usable = t.usable;
      counters = t.counters;
      plan = t.plan;
      left = t.left;
      rows = rows;
      taken = t.taken;
      at = t.at;
      count = t.count;
    }

-- the choice with one record more, which stands at place i
unfoldable pub taking_one_lem : Choice → ℕ → Entry → List ℕ → ℕ → ℕ → Choice
taking_one_lem t i e rows found left =
    record {
      setup = t.setup;
      usable = t.usable;
      counters = t.counters;
      plan = found;
      left = left;
      rows = rows;
      taken = set t.taken t.count e;
      at = set t.at t.count i;
      count = t.count + 1;
    }

module _ {s : Setup} {q : List Entry} {t : Choice} (c : HasChosen s q t) (e : Entry) {next : List ℕ} {found : ℕ} (search : Searched s t.rows t.count e.request next found) where
  chosen_passes : found ≡ 0 → HasChosen s (q ++ (e ∷ [])) (with_rows t next)
  unfolding with_rows
  chosen_passes missing =
      let same = chosen_same c e (fits_not q c.rows_taken e search missing) in
      record {
        setup = same.setup;
        usable = same.usable;
        counters = same.counters;
        rows_length = search.size;
        rows_taken = search.kept ∙ same.rows_taken;
        plan_found = same.plan_found;
        plan_some = same.plan_some;
        left_sets = same.left_sets;
        taken_array = same.taken_array;
        taken_count = same.taken_count;
        taken_usable = same.taken_usable;
        at_array = same.at_array;
      }

  chosen_takes : (found ≡ 0 → ⊥) → (less : ℕ) → less ≡ left_by (counter_count s.device) e.request t.left
      → HasChosen s (q ++ (e ∷ [])) (taking_one_lem t (length q) e next found less)
  unfolding capacity taking_one_lem
  chosen_takes exists less w =
      let f = fits_behind q c.rows_taken e search exists in
      let yes = (taking s).taken_fits q e f in
      let room = taken_room q c.rows_taken e search exists in
      record {
        setup = c.setup;
        usable = c.usable;
        counters = c.counters;
        rows_length = search.size;
        rows_taken = rw yes (search.behind exists ∙ behind q c.rows_taken e search);
        plan_found = rw yes (search.answer ∙ rw (behind q c.rows_taken e search));
        plan_some = exists;
        left_sets = left_takes q c.rows_taken e search c.left_sets w exists;
        taken_array = rw (yes, c.taken_array) (array_push 8 vacant (taken s q) t.count e c.taken_count room.1);
        taken_count = rw (yes, length-append, ← c.taken_count);
        taken_usable = omega (arith, room.0);
        at_array = rw (marks_takes s q e f, c.at_array) (array_push 8 nowhere (marks s q) t.count (length q) (c.taken_count ∙ sym (marks_count s q)) room.1);
      }

-- ---- nothing more

module _ {s : Setup} {q : List Entry} {t : Choice} (c : HasChosen s q t) (full : usable_count s ≤ t.count) where
  never : (e : Entry) → ¬ HasPlan s (requests_of (taken s q ++ (e ∷ [])))
  never e h = omega (arith, parts.at_most s _ h, requests_length (taken s q ++ (e ∷ [])), length-append (taken s q) (e ∷ []), c.taken_count, full)

pub chosen_full : {s : Setup} {q : List Entry} {t : Choice} → HasChosen s q t → usable_count s ≤ t.count → (rest : List Entry) → HasChosen s (q ++ rest) t
chosen_full {s} {q} {t} c full [] = subst (λ (l : List Entry). HasChosen s l t) (sym (append-nil q)) c
chosen_full {s} {q} {t} c full (e ∷ rest) = subst (λ (l : List Entry). HasChosen s l t) (append_assoc q (e ∷ []) rest) (chosen_full (chosen_same c e (never c full e)) full rest)

-- ---- a choice that may go on, and one that has not begun

pub chosen_ready : {s : Setup} {q : List Entry} {t : Choice} → HasChosen s q t → Ready t
chosen_ready {s} {q} {t} c =
    let same = c.setup in
    record {
      usable = rw same c.usable;
      counters = rw same c.counters;
      count = rw same c.taken_usable;
      plan_found = rw (same, c.rows_taken) c.plan_found;
      plan_some = c.plan_some;
      left_sets = rw (same, c.rows_taken) c.left_sets;
    }

pub chosen_none : (s : Setup) (usable counters left : ℕ) (rows : List ℕ) → usable ≡ usable_count s → counters ≡ counter_count s.device → (s.usable.0 < 64 → left ≡ 2 ^ s.usable.0) → length rows ≡ 32
    → HasChosen s [] (record {
      setup = s;
      usable = usable;
      counters = counters;
      plan = 1;
      left = left;
      rows = rows;
      taken = in_array capacity vacant [];
      at = in_array capacity nowhere [];
      count = 0;
    })
unfolding marks marks_after rows_from requests_of packed code_of
chosen_none s usable counters left rows u n l h =
    record {
      setup = refl;
      usable = u;
      counters = n;
      rows_length = h;
      rows_taken = rw (taking s).taken_none;
      plan_found = rw ((taking s).taken_none, first_empty s);
      plan_some = λ e. omega (arith, e);
      left_sets = λ small. left_none s left (l small);
      taken_array = rw (taking s).taken_none;
      taken_count = rw (taking s).taken_none;
      taken_usable = omega arith;
      at_array = refl;
    }

-- ---- one step, whatever the choice has gone through

module _ (t : Choice) (e : Entry) (next : List ℕ) (found : ℕ) (search : Searched t.setup t.rows t.count e.request next found) where
  at_setup : {s : Setup} → t.setup ≡ s → Searched s t.rows t.count e.request next found
  at_setup same = subst (λ (x : Setup). Searched x t.rows t.count e.request next found) same search

  -- there is room for one more
  pub step_room : (found ≡ 0 → ⊥) → (t.count < usable_count t.setup) × (t.count < 8)
  unfolding capacity
  step_room exists =
      let s = t.setup in
      let m = parts.at_most s _ (found_plan s _ (λ z. exists (search.answer ∙ z))) in
      let k = length-append (rows_from t.rows 0 t.count) (e.request ∷ []) in
      let r = rows_length t.rows 0 t.count in
      let u = plan_length.usable_at_most s in
      let d = plan_length.device_at_most s.device in
      (omega arith, omega arith)

  pub step_passes : found ≡ 0 → (s : Setup) (q : List Entry) → HasChosen s q t → HasChosen s (q ++ (e ∷ [])) (with_rows t next)
  step_passes missing s q c = chosen_passes c e (at_setup c.setup) missing

  pub step_takes : (found ≡ 0 → ⊥) → (i less : ℕ) → less ≡ left_by (counter_count t.setup.device) e.request t.left
      → (s : Setup) (q : List Entry) → HasChosen s q t → length q ≡ i → HasChosen s (q ++ (e ∷ [])) (taking_one_lem t i e next found less)
  step_takes exists i less w s q c len =
      subst (λ (k : ℕ). HasChosen s (q ++ (e ∷ [])) (taking_one_lem t k e next found less)) len
      (chosen_takes c e (at_setup c.setup) exists less (w ∙ ap (λ (x : Setup). left_by (counter_count x.device) e.request t.left) c.setup))

-- a record that leaves no set of counters has no plan behind those taken
none_behind : {s : Setup} {q : List Entry} {t : Choice} → HasChosen s q t → (e : Entry) → LeavesNone t e → ¬ HasPlan s (requests_of (taken s q ++ (e ∷ [])))
none_behind {s} {q} {t} c e n = reach.unplanned s _ small gone
  where
    small : s.usable.0 < 64
    small = rw (← c.setup) n.usable

    gone : left_of s (requests_of (taken s q ++ (e ∷ []))) ≡ 0
    gone = rw (requests_next, reach.grows s (requests_of (taken s q)) e.request, ← c.left_sets small, ← c.counters) n.none

pub passed_over : (t : Choice) (i : ℕ) (e : Entry) → LeavesNone t e → Chose t i e t
passed_over t i e n s q c len = chosen_same c e (none_behind c e n)

-- ---- the plan of those taken

module _ {s : Setup} {q : List Entry} {t : Choice} (c : HasChosen s q t) where
  pub chosen_places : places_from t.plan 0 (requests_of (taken s q)) ≡ places_of s (taken s q)
  chosen_places = places_read_lem s (taken s q) t.plan c.plan_found c.plan_some

  pub chosen_entries : take t.count t.taken ≡ taken s q
  chosen_entries = ap (λ (l : List Entry). take t.count l) c.taken_array ∙ take_at (taken s q) (replicate (capacity - length (taken s q)) vacant) t.count (sym c.taken_count)
