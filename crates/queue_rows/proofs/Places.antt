-- What stands at a place of the arrays, and a place put anew. Assumes nothing.
--     place-is      the entry at a place of the queue
--     numbers-put   a place with other numbers is one stored in the queue
use mathlib.Core.Path.{◌≡◌, ap, sym, ◌∙◌}
use mathlib.Core.List.{List, map}
use Prim.Native.Nat.{ℕ, ◌<◌}
use native.Mathlib.Decide.{ℕ_discrete}
use native.Mathlib.Omega.{arith}
use lib.ListN.{length, get_or, set, length-map, length-set}
use Rattle.std.proofs.lemmas.List.{get_or-map}
use lib.Seq.{get_or-set_same, get_or-set_other, ext_get_or}
use Rattle.requests.specs.declared.Entry.{Entry}
use Rattle.search.specs.Rows.{request_of, request_at, set_row}
use Rattle.search.proofs.RequestRows.{row_length, row_here, row_other}
use Rattle.layouts.proofs.Tabulated.{length_tabulate, get_d_tabulate}
use Rattle.sessions.specs.Sessions.{vacant}
use Rattle.queue_rows.specs.Rows.{entry_at, entries_in, queue_in, Sized, Holding}

-- ---- a place of the queue

module _ (ids rows : List ℕ) where
  pub queue_length : length (queue_in ids rows) ≡ 16
  queue_length = length_tabulate 16 (entry_at ids rows)

  pub place_is : (n i : ℕ) → i < n → get_or (entries_in n ids rows) i vacant ≡ entry_at ids rows i
  place_is n i h = get_d_tabulate n (entry_at ids rows) i vacant h

  pub id_is : (i : ℕ) → i < 16 → (get_or (queue_in ids rows) i vacant).id ≡ get_or ids i 0
  unfolding entry_at
  id_is i h = ap (λ (e : Entry). e.id) (place_is 16 i h)

  pub request_is : (i : ℕ) → i < 16 → (get_or (queue_in ids rows) i vacant).request ≡ request_at rows i
  unfolding entry_at
  request_is i h = ap (λ (e : Entry). e.request) (place_is 16 i h)

  -- the ids of the entries
  pub ids_are : Sized ids rows → map (λ (e : Entry). e.id) (queue_in ids rows) ≡ ids
  ids_are s =
      let size = length-map (queue_in ids rows) (λ (e : Entry). e.id) in
      ext_get_or 0 (map (λ (e : Entry). e.id) (queue_in ids rows)) ids (omega (arith, size, queue_length, s.ids_size))
      (λ j l. let inside : j < 16 = omega (arith, size, queue_length) in
      get_or-map (λ (e : Entry). e.id) (queue_in ids rows) j vacant 0 (omega (arith, queue_length)) ∙ id_is j inside)

-- ---- an entry put

module _ (ids rows : List ℕ) (at id kind a b c : ℕ) (room : at < 16) (s : Sized ids rows) where
  abbrev e : Entry
  e = record { id = id; request = request_of kind a b c }

  abbrev after : List Entry
  after = queue_in (set ids at id) (set_row rows at kind a b c)

  here : entry_at (set ids at id) (set_row rows at kind a b c) at ≡ e
  unfolding entry_at
  here = rw (get_or-set_same ids at id 0 (omega (arith, s.ids_size)), row_here rows at kind a b c (omega (arith, s.rows_size)))

  other : (j : ℕ) → (j ≡ at → ⊥) → entry_at (set ids at id) (set_row rows at kind a b c) j ≡ entry_at ids rows j
  unfolding entry_at
  other j ne = rw (get_or-set_other ids at j id 0 ne, row_other rows at kind a b c j ne)

  stored : (j : ℕ) → j < 16 → get_or after j vacant ≡ get_or (set (queue_in ids rows) at e) j vacant
  stored j h =
      place_is (set ids at id) (set_row rows at kind a b c) 16 j h
      ∙ elim (ℕ_discrete j at) [
        | yes same ↦ rw same (here ∙ sym (get_or-set_same (queue_in ids rows) at e vacant (omega (arith, queue_length ids rows))))
        | no ne ↦ other j ne ∙ sym (get_or-set_other (queue_in ids rows) at j e vacant ne ∙ place_is ids rows 16 j h)
      ]

  pub numbers_put : Holding (set ids at id) (set_row rows at kind a b c) (set (queue_in ids rows) at e)
  numbers_put =
      record {
        size = record { ids_size = length-set ids at id ∙ s.ids_size; rows_size = row_length rows at kind a b c ∙ s.rows_size };
        queue =
            ext_get_or vacant after (set (queue_in ids rows) at e)
            (omega (arith, queue_length (set ids at id) (set_row rows at kind a b c), length-set (queue_in ids rows) at e, queue_length ids rows))
            (λ j l. stored j (omega (arith, queue_length (set ids at id) (set_row rows at kind a b c))));
      }
