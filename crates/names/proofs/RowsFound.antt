-- What the look-up finds is the topmost row of the name in the site's list, or else in the house's. Assumes nothing.
use Rattle.std.proofs.lemmas.Option.{none-some, same_Some}
use Rattle.std.specs.Prelude.{Option, None, Some}
use Prim.Native.Nat.{ℕ}
use mathlib.Core.Path.{◌≡◌, refl, ap, sym, ◌∙◌}
use mathlib.Core.Logic.{◌⊎◌, ◌≢◌, inl, inr, ⊎_elim}
use mathlib.Core.Bool.{Bool, true, false, true≢false}
use mathlib.Core.List.Memᴰ
use mathlib.Core.List.{List, [], ◌∷◌, ◌++◌, append_assoc, Memᴰ}
use lib.Dec.{eqb}
use lib.ListN.{length}
use native.Mathlib.Omega.{arith}
use borrow.Author.Tests.{eq-eqb, ne_eqb, eqb-false}
use Rattle.requests.specs.Choice.{both, pick}
use Rattle.requests.proofs.Tests.{both_parts, both_false}
use Rattle.grammar.specs.Text.{newline}
use Rattle.grammar.proofs.Tabs.{lacks}
use Rattle.grammar.specs.Fields.{field_at, same_bytes_lem}
use Rattle.grammar.proofs.WordLoops.{same_bytes}
use Rattle.names.specs.Rows.{row_of, is_formed, has_name}
use Rattle.names.specs.Lists.{NameLists, row_texts, is_ended, all_formed, well_formed, lists_formed}
use Rattle.names.specs.LookUp.{top_row, or_else, row_named, shown}
use Rattle.names.specs.RowsFound.{Whole, Stands, NoRow, Topmost, FoundIn, RowsFound}
use Rattle.names.proofs.Joined as j
use Rattle.names.proofs.Searching.{both_formed, formed_both, lists_good, lists_bad, list_formed, top_formed, formed_some}

-- equal bytes compare as equal
same_self : (f : List ℕ) → same_bytes_lem f f ≡ true
unfolding same_bytes_lem
same_self [] = refl
same_self (b ∷ f) = rw (eq-eqb b b refl) (same_self f)

named_so : (name row : List ℕ) → field_at row 0 ≡ name → has_name name row ≡ true
unfolding has_name
named_so name row e = rw e (same_self name)

named_is : (name row : List ℕ) → has_name name row ≡ true → field_at row 0 ≡ name
unfolding has_name
named_is name row e = same_bytes (field_at row 0) name e

-- where the topmost row stands among the rows
record Top (name : List ℕ) (rows : List (List ℕ)) (row : List ℕ) : Type 0 where
  above : List (List ℕ)
  below : List (List ℕ)
  is : rows ≡ above ++ row ∷ below
  named : has_name name row ≡ true
  first : top_row name above ≡ None
  singles : j.Singles above
  single : lacks newline row ≡ true

top_next : (name r : List ℕ) (rows : List (List ℕ)) (row : List ℕ) → has_name name r ≡ false → lacks newline r ≡ true → Top name rows row → Top name (r ∷ rows) row
unfolding top_row
top_next name r rows row h s t =
    record {
      above = r ∷ t.above;
      below = t.below;
      is = ap (λ (l : List (List ℕ)). r ∷ l) t.is;
      named = t.named;
      first = rw (h, top_row) t.first;
      singles = j.more s t.singles;
      single = t.single;
    }

top_at : (name : List ℕ) (rows : List (List ℕ)) (row : List ℕ) → j.Singles rows → top_row name rows ≡ Some row → Top name rows row
unfolding top_row
top_at name [] row s e = absurd (none-some row e)
top_at name (r ∷ rows) row (j.more s ss) e = go (has_name name r) refl e (top_at name rows row ss)
  where
    go : (h : Bool) → has_name name r ≡ h → elim h [ true ↦ Some r | false ↦ top_row name rows ] ≡ Some row → (top_row name rows ≡ Some row → Top name rows row) → Top name (r ∷ rows) row
    go true p q later =
        let here : r ≡ row = same_Some r row q in
        rw (← here) (record { above = []; below = rows; is = refl; named = p; first = refl; singles = j.none; single = s })
    go false p q later = top_next name r rows row p s (later q)

-- where none is found none of the rows has the name
none_at : (name : List ℕ) (above : List (List ℕ)) (row : List ℕ) (below : List (List ℕ)) → top_row name (above ++ row ∷ below) ≡ None → has_name name row ≡ true → ⊥
unfolding top_row
none_at name [] row below e h = none-some row (sym (rw (h, top_row) at e))
none_at name (r ∷ above) row below e h = go (has_name name r) e (none_at name above row below)
  where
    go : (x : Bool) → ◌≡◌ {A = Option (List ℕ)} (elim x [ true ↦ Some r | false ↦ top_row name (above ++ row ∷ below) ]) None → (top_row name (above ++ row ∷ below) ≡ None → has_name name row ≡ true → ⊥) → ⊥
    go true q later = none-some r (sym q)
    go false q later = later q h

-- a whole text is ended, and rows with their newlines are whole
whole_ended : (text : List ℕ) → Whole text → is_ended text ≡ true
unfolding is_ended
whole_ended text (inl e) = rw e
whole_ended text (inr (t, e)) = rw e (j.ended_after t [])

joined_whole : (ts : List (List ℕ)) → Whole (j.joined ts)
joined_whole [] = inl refl
joined_whole (t ∷ ts) =
    ⊎_elim
    (λ e. inr (t, ap (λ (l : List ℕ). t ++ newline ∷ l) e))
    (λ (u, e). inr (t ++ newline ∷ u, ap (λ (l : List ℕ). t ++ newline ∷ l) e ∙ sym (append_assoc t (newline ∷ u) (newline ∷ []))))
    (joined_whole ts)

-- a single row has no newline, and a text without one is single
single_free : (t : List ℕ) → lacks newline t ≡ true → ¬ Memᴰ newline t
unfolding lacks
single_free [] e m = Memᴰ.not-nil m
single_free (b ∷ t) e m = go (eqb b newline) refl e (Memᴰ.cases_cons m) (single_free t)
  where
    go : (x : Bool) → eqb b newline ≡ x → pick x false (lacks newline t) ≡ true → (newline ≡ b) ⊎ Memᴰ newline t
        → (lacks newline t ≡ true → ¬ Memᴰ newline t) → ⊥
    go true p q n below = true≢false (sym q)
    go false p q (inl here) below = eqb-false b newline p (sym here)
    go false p q (inr later) below = below q later

free_single : (t : List ℕ) → ¬ Memᴰ newline t → lacks newline t ≡ true
unfolding lacks
free_single [] n = refl
free_single (b ∷ t) n =
    rw (ne_eqb b newline (λ e. n (Memᴰ.head (sym e)))) (free_single t (λ m. n (Memᴰ.tail m)))

-- the rows of a list in which a row stands
stands_rows : {list row : List ℕ} (s : Stands list row) → row_texts list ≡ row_texts s.before ++ row ∷ row_texts s.after
stands_rows {list} {row} s =
    let text : list ≡ s.before ++ (row ++ newline ∷ s.after) = s.is ∙ append_assoc s.before row (newline ∷ s.after) in
    ap row_texts text ∙ j.rows_append s.before (row ++ newline ∷ s.after) (whole_ended s.before s.whole)
    ∙ ap (λ (l : List (List ℕ)). row_texts s.before ++ l) (j.first_line row s.after (free_single row s.single))

none_named : (name list : List ℕ) → top_row name (row_texts list) ≡ None → NoRow name list
none_named name list e row s n =
    none_at name (row_texts s.before) row (row_texts s.after) (sym (ap (top_row name) (stands_rows s)) ∙ e) (named_so name row n)

-- rows of which none has the name, and one that has it
top_after : (name : List ℕ) (above : List (List ℕ)) (row : List ℕ) (below : List (List ℕ)) → top_row name above ≡ None → has_name name row ≡ true
    → top_row name (above ++ row ∷ below) ≡ Some row
unfolding top_row
top_after name [] row below e h = rw (h, top_row)
top_after name (r ∷ above) row below e h = go (has_name name r) refl e (λ q. top_after name above row below q h)
  where
    go : (x : Bool) → has_name name r ≡ x → ◌≡◌ {A = Option (List ℕ)} (elim x [ true ↦ Some r | false ↦ top_row name above ]) None
        → (top_row name above ≡ None → top_row name (above ++ row ∷ below) ≡ Some row)
        → elim x [ true ↦ Some r | false ↦ top_row name (above ++ row ∷ below) ] ≡ Some row
    go true p q later = absurd (none-some r (sym q))
    go false p q later = later q

-- the topmost row of an ended list
top_named : (name list row : List ℕ) → is_ended list ≡ true → top_row name (row_texts list) ≡ Some row → Topmost name list row
top_named name list row ended e =
    let t : Top name (row_texts list) row = top_at name (row_texts list) row (j.rows_single list) e in
    let text : list ≡ j.joined t.above ++ row ++ newline ∷ j.joined t.below =
    j.ended_joined list ended ∙ ap j.joined t.is ∙ j.joined_append t.above (row ∷ t.below) ∙ sym (append_assoc (j.joined t.above) row (newline ∷ j.joined t.below)) in
    record {
      at = record { before = j.joined t.above; after = j.joined t.below; whole = joined_whole t.above; single = single_free row t.single; is = text };
      named = named_is name row t.named;
      first = none_named name (j.joined t.above) (ap (top_row name) (j.rows_joined t.above t.singles) ∙ t.first);
    }

-- a well-formed list is ended
formed_ended : (list : List ℕ) → well_formed list ≡ true → is_ended list ≡ true
unfolding well_formed
formed_ended list w = (both_parts (is_ended list) (all_formed (row_texts list)) w).0

-- an ended list without such a row finds none
no_row_none : (name list : List ℕ) → is_ended list ≡ true → NoRow name list → top_row name (row_texts list) ≡ None
no_row_none name list ended unnamed = go (top_row name (row_texts list)) refl
  where
    go : (o : Option (List ℕ)) → top_row name (row_texts list) ≡ o → o ≡ None
    go None p = refl
    go (Some row) p = let t = top_named name list row ended p in absurd (unnamed row t.at t.named)

-- a row that is the topmost of an ended list is found
top_stands : (name list row : List ℕ) → Topmost name list row → top_row name (row_texts list) ≡ Some row
top_stands name list row t =
    let before : top_row name (row_texts t.at.before) ≡ None = no_row_none name t.at.before (whole_ended t.at.before t.at.whole) t.first in
    ap (top_row name) (stands_rows t.at) ∙ top_after name (row_texts t.at.before) row (row_texts t.at.after) before (named_so name row t.named)

-- the statement
module _ (n : NameLists) (name : List ℕ) where
  -- both lists are well-formed where something is found
  lists_formed_lem : (row : List ℕ) → row_named n name ≡ Some row → lists_formed n ≡ true
  lists_formed_lem row e = go (lists_formed n) refl
    where
      go : (b : Bool) → lists_formed n ≡ b → b ≡ true
      go true p = refl
      go false p = absurd (none-some row (sym (lists_bad n name p) ∙ e))

  found_at : (row : List ℕ) → row_named n name ≡ Some row
      → ((top_row name (row_texts n.site) ≡ Some row) ⊎ ((top_row name (row_texts n.site) ≡ None) × (top_row name (row_texts n.house) ≡ Some row)))
  found_at row e = go (top_row name (row_texts n.site)) refl (sym (lists_good n name (lists_formed_lem row e)) ∙ e)
    where
      go : (o : Option (List ℕ)) → top_row name (row_texts n.site) ≡ o → or_else o (top_row name (row_texts n.house)) ≡ Some row
          → ((top_row name (row_texts n.site) ≡ Some row) ⊎ ((top_row name (row_texts n.site) ≡ None) × (top_row name (row_texts n.house) ≡ Some row)))
      go (Some t) p q = inl (p ∙ q)
      go None p q = inr (p, q)

  found : (row : List ℕ) → row_named n name ≡ Some row → FoundIn n name row
  found row e =
      let (site, house) = both_formed n (lists_formed_lem row e) in
      ⊎_elim
      (λ s. inl (top_named name n.site row (formed_ended n.site site) s))
      (λ h. inr (none_named name n.site h.0, top_named name n.house row (formed_ended n.house house) h.1))
      (found_at row e)

  finds : (row : List ℕ) → well_formed n.site ≡ true → well_formed n.house ≡ true → FoundIn n name row → row_named n name ≡ Some row
  finds row s h f = lists_good n name (formed_both n s h) ∙ go f
    where
      go : FoundIn n name row → or_else (top_row name (row_texts n.site)) (top_row name (row_texts n.house)) ≡ Some row
      go (inl t) = rw (top_stands name n.site row t)
      go (inr (unnamed, t)) = rw (no_row_none name n.site (formed_ended n.site s) unnamed) (top_stands name n.house row t)

  shows : (row : List ℕ) → row_named n name ≡ Some row → is_formed (row_of row) ≡ true
  shows row e =
      let (site, house) = both_formed n (lists_formed_lem row e) in
      ⊎_elim
      (λ s. top_formed name (row_texts n.site) row (list_formed n.site site) s)
      (λ h. top_formed name (row_texts n.house) row (list_formed n.house house) h.1)
      (found_at row e)

  empty : shown (row_named n name) ≡ [] → row_named n name ≡ None
  empty e = go (row_named n name) refl e
    where
      go : (o : Option (List ℕ)) → row_named n name ≡ o → shown o ≡ [] → o ≡ None
      go None p q = refl
      go (Some row) p q = let some_byte = formed_some row (shows row p) in let z : ⊥ = omega (arith, ap length q) in absurd z

  missing : well_formed n.site ≡ true → well_formed n.house ≡ true → row_named n name ≡ None → NoRow name n.site × NoRow name n.house
  missing s h e = go (top_row name (row_texts n.site)) refl (sym (lists_good n name (formed_both n s h)) ∙ e)
    where
      go : (o : Option (List ℕ)) → top_row name (row_texts n.site) ≡ o → or_else o (top_row name (row_texts n.house)) ≡ None → NoRow name n.site × NoRow name n.house
      go (Some t) p q = absurd (none-some t (sym q))
      go None p q = (none_named name n.site p, none_named name n.house q)

  absent : NoRow name n.site → NoRow name n.house → row_named n name ≡ None
  absent s h = go (row_named n name) refl
    where
      go : (o : Option (List ℕ)) → row_named n name ≡ o → o ≡ None
      go None p = refl
      go (Some row) p = absurd (⊎_elim (λ t. s row t.at t.named) (λ t. h row t.1.at t.1.named) (found row p))

  part : shown (row_named n name) ≢ [] → FoundIn n name (shown (row_named n name))
  part some_byte = go (row_named n name) refl some_byte
    where
      go : (o : Option (List ℕ)) → row_named n name ≡ o → shown o ≢ [] → FoundIn n name (shown o)
      go None p q = absurd (q refl)
      go (Some row) p q = found row p

  nothing : shown (row_named n name) ≡ [] → (lists_formed n ≡ false) ⊎ (NoRow name n.site × NoRow name n.house)
  nothing e = go (lists_formed n) refl
    where
      go : (b : Bool) → lists_formed n ≡ b → (lists_formed n ≡ false) ⊎ (NoRow name n.site × NoRow name n.house)
      go true w = let (site, house) = both_formed n w in inr (missing site house (empty e))
      go false w = inl w

  refused : (well_formed n.site ≡ false) ⊎ (well_formed n.house ≡ false) → row_named n name ≡ None
  unfolding lists_formed both
  refused e = lists_bad n name (⊎_elim (λ s. rw s) (λ h. rw h (both_false (well_formed n.site))) e)

pub rows_found : RowsFound
rows_found =
    record {
      found = found;
      finds = finds;
      shows = shows;
      missing = missing;
      absent = absent;
      part = part;
      nothing = nothing;
      refused = refused;
    }
