-- What the loop of a turn has made of the entries that it has gone through, and how one entry more is taken or passed over: by `taking`,
-- since the number that the search answers is 0 exactly where there is no legal plan. Assumes nothing.
use Rattle.std.specs.Prelude.{Some}
use mathlib.Core.Path.{◌≡◌, ap, sym, ◌∙◌}
use Prim.Native.Nat.{ℕ, ◌+◌, ◌^◌, ◌<◌}
use mathlib.Core.List.{List, [], ◌∷◌, ◌++◌}
use native.Mathlib.Decide.{dec_lt}
use native.Mathlib.Omega.{arith}
use lib.ListN.{length, get_or, set, length-append, length-set}
use lib.Seq.{get_or-set_same, get_or-set_other}
use Rattle.requests.specs.declared.Setup.{Setup}
use Rattle.requests.specs.declared.Entry.{Entry}
use Rattle.requests.specs.Devices.{capacity, counter_count}
use Rattle.plans.specs.declared.Place.{Place}
use Rattle.plans.specs.Legal.{HasPlan}
use Rattle.plans.specs.Search.{first_plan}
use Rattle.plans.specs.Parts.{usable_count}
use Rattle.search.specs.Rows.{rows_from}
use Rattle.plans.specs.Packed.{code_of, packed, places_from}
use Rattle.plans.specs.Reach.{left_by, left_from, left_of}
use Rattle.search.proofs.RequestRows.{rows_length}
use Rattle.plans.proofs.ReachHolds.{reach}
use Rattle.search.proofs.Unpacking.{some_packed, plan_unpacked}
use Rattle.plans.proofs.PartsHold.{parts}
use Rattle.plans.proofs.PlanLengthHolds.{plan_length}
use Rattle.plans.proofs.FirstFound.{first_empty}
use Rattle.sessions.specs.Turns.{requests_of, taken, places_of}
use Rattle.sessions.specs.Sessions.{vacant}
use Rattle.planner.specs.declared.Chosen.{Chosen}
use Rattle.planner.specs.Selections.{entries_at, Searched, Selected}
use Rattle.planner.proofs.Assigning.{entries_noted, requests_next}
use Rattle.sessions.proofs.TakenPlan.{requests_length}
use Rattle.sessions.proofs.Takes.{taking}
use Rattle.planner.proofs.Searching.{found_plan, found_none}

-- ---- before the first entry

-- nothing is chosen yet
abbrev pub unchosen : Chosen
unchosen = record { code = 1; count = 0; rest = 0 }

pub selected_none : (s : Setup) (queue : List Entry) (rows ts ps : List ℕ) → length ts ≡ 8 → length ps ≡ 16 → Selected s queue [] rows ts ps unchosen
unfolding rows_from requests_of packed code_of entries_at
selected_none s queue rows ts ps eight sixteen =
    record {
      rows_taken = rw (taking s).taken_none;
      plan_found = rw ((taking s).taken_none, first_empty s);
      plan_some = λ e. omega (arith, e);
      taken_entries = rw (taking s).taken_none;
      taken_usable = omega arith;
      passed_entries = rw (taking s).passed_none;
      within =
          record {
            taken_size = eight;
            passed_size = sixteen;
            few = omega arith;
            all = omega arith;
            taken_inside = λ j h. omega (arith, h);
            passed_inside = λ j h. omega (arith, h);
          };
    }

-- all usable counters are left
pub left_none : (s : Setup) (left : ℕ) → left ≡ 2 ^ s.usable.0 → left ≡ left_of s (requests_of (taken s []))
unfolding left_of left_from requests_of
left_none s left e = rw (taking s).taken_none e

-- ---- one entry more

-- one place more is noted
inside_more : (l : List ℕ) (n i : ℕ) → n < length l → i < 16 → ((j : ℕ) → j < n → get_or l j 0 < 16) → (j : ℕ) → j < n + 1 → get_or (set l n i) j 0 < 16
inside_more l n i room inside so_far j h = go (dec_lt j n)
  where
    go : Dec (j < n) → get_or (set l n i) j 0 < 16
    go (yes front) = rw (get_or-set_other l n j i 0 (λ e. omega arith)) (so_far j front)
    go (no o) = let e : j ≡ n = omega arith in rw (e, get_or-set_same l n i 0 room) inside

-- the entry behind those taken, and what was searched for them with it
module _ {s : Setup} (q : List Entry) {rows : List ℕ} {count : ℕ} (rows_taken : rows_from rows 0 count ≡ requests_of (taken s q)) (e : Entry)
    {next : List ℕ} {found : ℕ} (search : Searched s rows count e.request next found) where
  -- what was searched for is the plan of the entry behind those taken
  pub behind : rows_from rows 0 count ++ (e.request ∷ []) ≡ requests_of (taken s q ++ (e ∷ []))
  behind = rw rows_taken (sym (requests_next (taken s q) e))

  pub fits_behind : (found ≡ 0 → ⊥) → HasPlan s (requests_of (taken s q ++ (e ∷ [])))
  fits_behind exists = found_plan s _ (λ z. exists (search.answer ∙ rw behind z))

  pub fits_not : found ≡ 0 → ¬ HasPlan s (requests_of (taken s q ++ (e ∷ [])))
  fits_not missing = found_none s _ (rw (← behind) (sym search.answer ∙ missing))

  -- there is room for one more
  pub taken_room : (found ≡ 0 → ⊥) → (count < usable_count s) × (count < 8)
  unfolding capacity
  taken_room exists =
      let m = parts.at_most s _ (fits_behind exists) in
      let t : length (taken s q) ≡ count = sym (requests_length (taken s q)) ∙ sym (ap length rows_taken) ∙ rows_length rows 0 count in
      let r : length (requests_of (taken s q ++ (e ∷ []))) ≡ count + 1 = requests_length (taken s q ++ (e ∷ [])) ∙ rw (length-append, t) in
      let u = plan_length.usable_at_most s in
      let d = plan_length.device_at_most s.device in
      (omega arith, omega arith)

  -- the sets of counters that are left
  module _ {left : ℕ} (so_left : s.usable.0 < 64 → left ≡ left_of s (requests_of (taken s q))) where
    pub left_takes : {less : ℕ} → less ≡ left_by (counter_count s.device) e.request left → (found ≡ 0 → ⊥) → s.usable.0 < 64
        → less ≡ left_of s (requests_of (taken s (q ++ (e ∷ []))))
    left_takes w exists fits =
        rw ((taking s).taken_fits q e (fits_behind exists), requests_next, reach.grows s (requests_of (taken s q)) e.request, ← so_left fits) w

    pub left_passes : found ≡ 0 → s.usable.0 < 64 → left ≡ left_of s (requests_of (taken s (q ++ (e ∷ []))))
    left_passes missing fits = rw ((taking s).taken_not q e (fits_not missing)) (so_left fits)

module _ {s : Setup} {queue q : List Entry} {rows ts ps : List ℕ} {c : Chosen} (so_far : Selected s queue q rows ts ps c) (i : ℕ)
    {next : List ℕ} {found : ℕ} (search : Searched s rows c.count (get_or queue i vacant).request next found) where
  abbrev e : Entry
  e = get_or queue i vacant

  pub selected_takes : (found ≡ 0 → ⊥) → i < 16 → c.rest + c.count < 16
      → Selected s queue (q ++ (e ∷ [])) next (set ts c.count i) ps (record { code = found; count = c.count + 1; rest = c.rest })
  selected_takes exists inside more =
      let f = fits_behind q so_far.rows_taken e search exists in
      let yes = (taking s).taken_fits q e f in
      let no = (taking s).passed_fits q e f in
      let room = taken_room q so_far.rows_taken e search exists in
      let w = so_far.within in
      record {
        rows_taken = rw yes (search.behind exists ∙ behind q so_far.rows_taken e search);
        plan_found = rw yes (search.answer ∙ rw (behind q so_far.rows_taken e search));
        plan_some = exists;
        taken_entries = rw (entries_noted queue c.count ts i (omega (arith, w.taken_size, room.1)), so_far.taken_entries) (sym yes);
        taken_usable = omega (arith, room.0);
        passed_entries = rw no so_far.passed_entries;
        within =
            record {
              taken_size = rw length-set w.taken_size;
              passed_size = w.passed_size;
              few = omega (arith, room.1);
              all = omega arith;
              taken_inside = inside_more ts c.count i (omega (arith, w.taken_size, room.1)) inside w.taken_inside;
              passed_inside = w.passed_inside;
            };
      }

  pub selected_passes : found ≡ 0 → i < 16 → c.rest + c.count < 16
      → Selected s queue (q ++ (e ∷ [])) next ts (set ps c.rest i) (record { code = c.code; count = c.count; rest = c.rest + 1 })
  selected_passes missing inside more =
      let f = fits_not q so_far.rows_taken e search missing in
      let no = (taking s).taken_not q e f in
      let yes = (taking s).passed_not q e f in
      let w = so_far.within in
      record {
        rows_taken = rw no (search.kept ∙ so_far.rows_taken);
        plan_found = rw no so_far.plan_found;
        plan_some = so_far.plan_some;
        taken_entries = rw no so_far.taken_entries;
        taken_usable = so_far.taken_usable;
        passed_entries = rw (entries_noted queue c.rest ps i (omega (arith, w.passed_size)), so_far.passed_entries) (sym yes);
        within =
            record {
              taken_size = w.taken_size;
              passed_size = rw length-set w.passed_size;
              few = w.few;
              all = omega arith;
              taken_inside = w.taken_inside;
              passed_inside = inside_more ps c.rest i (omega (arith, w.passed_size)) inside w.passed_inside;
            };
      }

-- ---- after the last entry

places_found : (s : Setup) (es : List Entry) (ps : List Place) → first_plan s (requests_of es) ≡ Some ps → places_of s es ≡ ps
unfolding places_of
places_found s es ps e = rw (e, places_of)

-- the places of the plan of entries, read out of its number
pub places_read_lem : (s : Setup) (es : List Entry) (code : ℕ) → code ≡ packed (first_plan s (requests_of es)) → (code ≡ 0 → ⊥) → places_from code 0 (requests_of es) ≡ places_of s es
places_read_lem s es code found exists =
    let rs = requests_of es in
    let f = some_packed (first_plan s rs) (λ z. exists (found ∙ z)) in
    ap (λ (n : ℕ). places_from n 0 rs) found ∙ plan_unpacked s rs f.0 f.1 ∙ sym (places_found s es f.0 f.1)

pub selected_places : {s : Setup} {queue q : List Entry} {rows ts ps : List ℕ} {c : Chosen} → Selected s queue q rows ts ps c
    → places_from c.code 0 (requests_of (taken s q)) ≡ places_of s (taken s q)
selected_places {s} {queue} {q} {rows} {ts} {ps} {c} all = places_read_lem s (taken s q) c.code all.plan_found all.plan_some
