-- How a turn parts one entry more: it is taken or passed over by `taking`, since the number that the search answers is 0 exactly where there
-- is no legal plan. And what is parted in the end: the queue afterwards, the plan and the writes. Assumes nothing.
use mathlib.Core.Path.{◌≡◌, refl, ap, sym, ◌∙◌}
use mathlib.Core.List.{List, [], ◌∷◌, ◌++◌, map-append, append_assoc}
use Prim.Native.Nat.{ℕ, zero, suc, ◌+◌, ◌<◌, ◌≤◌}
use native.Mathlib.Numerals.{add-one}
use native.Mathlib.Omega.{arith}
use lib.ListN.{length, take, drop, get_or, set, length-append, length-set, get_or-map}
use lib.Seq.{take-suc-set, drop-set-lt, drop-drop, get_or-take, get_or-drop, ext_get_or}
use Rattle.requests.specs.declared.Setup.{Setup}
use Rattle.requests.specs.declared.Entry.{Entry}
use Rattle.requests.specs.declared.Request.{Request}
use Rattle.search.specs.Rows.{request_at, rows_from}
use Rattle.plans.specs.Packed.{code_of, packed, places_from}
use Rattle.plans.proofs.FirstFound.{first_empty}
use Rattle.search.proofs.RequestRows.{rows_length}
use Rattle.layouts.specs.declared.Settings.{Settings}
use Rattle.layouts.specs.Layout.{tabulate}
use Rattle.layouts.specs.Settings.{settings_of}
use Rattle.layouts.specs.Writes.{writes, writes_for}
use Rattle.layouts.proofs.Tabulated.{length_tabulate}
use Rattle.sessions.specs.Turns.{requests_of, taken, places_of, assign, writes_of}
use Rattle.sessions.specs.Sessions.{vacant}
use Rattle.sessions.proofs.TakenPlan.{requests_length}
use Rattle.sessions.proofs.Takes.{taking}
use Rattle.planner.specs.declared.Chosen.{Chosen}
use Rattle.planner.specs.Selections.{Searched, planned}
use Rattle.planner.proofs.Selecting.{unchosen, behind, fits_behind, fits_not, taken_room, places_read_lem}
use Rattle.queue_rows.specs.Rows.{entry_at, entries_in}
use Rattle.queue_rows.specs.Parting.{Parted}
use Rattle.queue_rows.proofs.Places.{place_is}

-- the id of an entry
abbrev id_of : Entry → ℕ
id_of e = e.id

-- ---- before the first entry

pub parted_none : (s : Setup) (l : List Entry) (ids rows : List ℕ) → length ids ≡ 8 → length rows ≡ 32 → Parted s [] l ids rows unchosen
unfolding rows_from requests_of packed code_of
parted_none s l ids rows eight many =
    record {
      passed_front = rw (taking s).passed_none;
      ids_taken = rw (taking s).taken_none;
      rows_taken = rw (taking s).taken_none;
      plan_found = rw ((taking s).taken_none, first_empty s);
      plan_some = λ e. omega (arith, e);
      taken_usable = omega arith;
      all = refl;
      ids_size = eight;
      rows_size = many;
    }

-- ---- one entry more

module _ {s : Setup} {q l : List Entry} {ids rows : List ℕ} {c : Chosen} (so_far : Parted s q l ids rows c) (e : Entry)
    {next : List ℕ} {found : ℕ} (search : Searched s rows c.count e.request next found) where
  one_more : length (q ++ (e ∷ [])) ≡ length q + 1
  one_more = length-append q (e ∷ [])

  pub parted_takes : (found ≡ 0 → ⊥) → Parted s (q ++ (e ∷ [])) l (set ids c.count e.id) next (record { code = found; count = c.count + 1; rest = c.rest })
  parted_takes exists =
      let f = fits_behind q so_far.rows_taken e search exists in
      let yes = (taking s).taken_fits q e f in
      let no = (taking s).passed_fits q e f in
      let room = taken_room q so_far.rows_taken e search exists in
      let same = behind q so_far.rows_taken e search in
      record {
        passed_front = so_far.passed_front ∙ sym no;
        ids_taken =
            rw (add-one c.count, take-suc-set ids c.count e.id (omega (arith, so_far.ids_size, room.1)), so_far.ids_taken, yes)
            (sym (map-append id_of (taken s q) (e ∷ [])));
        rows_taken = rw yes (search.behind exists ∙ same);
        plan_found = rw yes (search.answer ∙ rw same);
        plan_some = exists;
        taken_usable = omega (arith, room.0);
        all = omega (arith, so_far.all, one_more);
        ids_size = length-set ids c.count e.id ∙ so_far.ids_size;
        rows_size = search.size;
      }

  pub parted_passes : found ≡ 0 → c.rest < length l → Parted s (q ++ (e ∷ [])) (set l c.rest e) ids next (record { code = c.code; count = c.count; rest = c.rest + 1 })
  parted_passes missing room =
      let f = fits_not q so_far.rows_taken e search missing in
      let no = (taking s).taken_not q e f in
      let yes = (taking s).passed_not q e f in
      record {
        passed_front = rw (add-one c.rest, take-suc-set l c.rest e room, so_far.passed_front) (sym yes);
        ids_taken = rw no so_far.ids_taken;
        rows_taken = rw no (search.kept ∙ so_far.rows_taken);
        plan_found = rw no so_far.plan_found;
        plan_some = so_far.plan_some;
        taken_usable = so_far.taken_usable;
        all = omega (arith, so_far.all, one_more);
        ids_size = so_far.ids_size;
        rows_size = search.size;
      }

-- ---- an entry that is still to be gone through

module _ (q l : List Entry) (i : ℕ) (same : drop i l ≡ drop i q) where
  pub same_here : get_or l i vacant ≡ get_or q i vacant
  same_here =
      let z : i + 0 ≡ i = omega arith in
      rw z at (sym (get_or-drop i l 0 vacant) ∙ ap (λ (x : List Entry). get_or x 0 vacant) same ∙ get_or-drop i q 0 vacant)

  pub same_later : drop (i + 1) l ≡ drop (i + 1) q
  same_later = sym (drop-drop 1 i l) ∙ ap (drop 1) same ∙ drop-drop 1 i q

  -- a place that is gone through is put anew
  pub same_put : (k : ℕ) (e : Entry) → k ≤ i → drop (i + 1) (set l k e) ≡ drop (i + 1) q
  same_put k e h = drop-set-lt (i + 1) l k e (omega arith) ∙ same_later

-- ---- after the last entry

-- the request of a row
row_is : (rows : List ℕ) (at left j : ℕ) (d : Request) → j < left → get_or (rows_from rows at left) j d ≡ request_at rows (at + j)
unfolding rows_from
row_is rows at zero j d h = absurd (omega arith)
row_is rows at (suc left) zero d h = let z : at + 0 ≡ at = omega arith in rw z
row_is rows at (suc left) (suc j) d h = let z : at + 1 + j ≡ at + suc j = omega arith in rw (← z) (row_is rows (at + 1) left j d (omega arith))

module _ {s : Setup} {q l : List Entry} {ids rows : List ℕ} {c : Chosen} (done : Parted s q l ids rows c) where
  pub taken_count : length (taken s q) ≡ c.count
  taken_count = sym (requests_length (taken s q)) ∙ sym (ap length done.rows_taken) ∙ rows_length rows 0 c.count

  -- the ids and the rows are those of the entries taken
  pub taken_entries : entries_in c.count ids rows ≡ taken s q
  unfolding entry_at requests_of vacant
  taken_entries =
      ext_get_or vacant (entries_in c.count ids rows) (taken s q)
      (length_tabulate c.count (entry_at ids rows) ∙ sym taken_count)
      (λ j h.
      let inside : j < c.count = omega (arith, h, length_tabulate c.count (entry_at ids rows)) in
      let i : get_or ids j 0 ≡ (get_or (taken s q) j vacant).id =
      sym (get_or-take c.count ids j 0 inside) ∙ ap (λ (x : List ℕ). get_or x j 0) done.ids_taken ∙ get_or-map id_of (taken s q) j vacant in
      let r : request_at rows j ≡ (get_or (taken s q) j vacant).request =
      let z : 0 + j ≡ j = omega arith in
      rw z at (sym (row_is rows 0 c.count j vacant.request inside) ∙ ap (λ (x : List Request). get_or x j vacant.request) done.rows_taken ∙ get_or-map (λ (e : Entry). e.request) (taken s q) j vacant) in
      place_is ids rows c.count j inside ∙ rw (i, r))

  -- the plan and the writes are theirs
  pub taken_places : places_from c.code 0 (requests_of (taken s q)) ≡ places_of s (taken s q)
  taken_places = places_read_lem s (taken s q) c.code done.plan_found done.plan_some

  pub taken_plan : planned c.code (taken s q) ≡ assign (taken s q) (places_of s (taken s q))
  unfolding planned
  taken_plan = rw taken_places

  pub taken_writes : (t : Settings) (n : ℕ) → n ≡ c.count → t ≡ settings_of s (rows_from rows 0 n) (places_from c.code 0 (rows_from rows 0 n))
      → writes_for s t ≡ writes_of s (taken s q)
  unfolding writes_of writes
  taken_writes t n m e = ap (writes_for s) (e ∙ rw (m, done.rows_taken, taken_places))

-- ---- those taken put behind

-- one entry more
pub entries_next : (front l : List Entry) (ids rows : List ℕ) (n j : ℕ) → n + j < length l → take (n + j) l ≡ front ++ entries_in j ids rows
    → take (n + (j + 1)) (set l (n + j) (entry_at ids rows j)) ≡ front ++ entries_in (j + 1) ids rows
unfolding tabulate
entries_next front l ids rows n j room so_far =
    let m : n + (j + 1) ≡ suc (n + j) = omega arith in
    rw (m, take-suc-set l (n + j) (entry_at ids rows j) room, so_far, add-one j) (append_assoc front (entries_in j ids rows) (entry_at ids rows j ∷ []))
