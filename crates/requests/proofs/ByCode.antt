-- The table by code has, at the place of a code, the row that the plain search finds. Assumes nothing.
use mathlib.Core.Path.{◌≡◌, refl, ap, sym, ◌∙◌}
use mathlib.Core.Bool.{Bool, true, false}
use mathlib.Core.List.{List, [], ◌∷◌}
use Prim.Native.Nat.{ℕ, zero, suc, ◌/◌, ◌<◌, ◌≤◌}
use native.Mathlib.Decide.{dec_lt}
use native.Mathlib.Omega.{arith}
use lib.Dec.{eqb}
use lib.ListN.{length, get_or, get_or-eq_default}
use borrow.Author.Tests.{eqb-true, eqb-false, eq-eqb, ne_eqb, lt-ltb, le-ltb}
use Rattle.requests.specs.ByCode.{row_with, put_at, table_of, places_read, Found, found_in}

-- ---- the plain search, by the first row

pub with_here : (r : ℕ) (rs : List ℕ) (c : ℕ) → r / 16 ≡ c → row_with (r ∷ rs) c ≡ r
unfolding row_with
with_here r rs c same = rw (eq-eqb (r / 16) c same, row_with)

pub with_behind : (r : ℕ) (rs : List ℕ) (c : ℕ) → (r / 16 ≡ c → ⊥) → row_with (r ∷ rs) c ≡ row_with rs c
unfolding row_with
with_behind r rs c other = rw (ne_eqb (r / 16) c other, row_with)

-- what is known, and that the code is none of the rows': the shape in which a match tells that no arm was taken
abbrev pub NoneOf : ℕ → List ℕ → Type 0 → Type 0
NoneOf c [] known = known
NoneOf c (r ∷ rs) known = NoneOf c rs (known × (c ≡ r / 16 → ⊥))

pub none_with : (c : ℕ) (rows : List ℕ) (known : Type 0) → NoneOf c rows known → known × (row_with rows c ≡ 0)
unfolding row_with
none_with c [] known told = (told, refl)
none_with c (r ∷ rs) known told =
    let rest = none_with c rs (known × (c ≡ r / 16 → ⊥)) told in
    (rest.0.0, with_behind r rs c (λ e. rest.0.1 (sym e)) ∙ rest.1)

-- ---- the table

-- a row is in the place where it was put, and the other places are as they were
put_here : (i r : ℕ) (table : List ℕ) → get_or (put_at i r table) i 0 ≡ r
unfolding put_at
put_here zero r [] = refl
put_here zero r (t ∷ ts) = refl
put_here (suc i) r [] = put_here i r []
put_here (suc i) r (t ∷ ts) = put_here i r ts

put_else : (i r : ℕ) (table : List ℕ) (c : ℕ) → (i ≡ c → ⊥) → get_or (put_at i r table) c 0 ≡ get_or table c 0
unfolding put_at
put_else zero r [] zero other = absurd (other refl)
put_else zero r [] (suc c) other = refl
put_else zero r (t ∷ ts) zero other = absurd (other refl)
put_else zero r (t ∷ ts) (suc c) other = refl
put_else (suc i) r [] zero other = refl
put_else (suc i) r [] (suc c) other = put_else i r [] c (λ e. other (ap suc e))
put_else (suc i) r (t ∷ ts) zero other = refl
put_else (suc i) r (t ∷ ts) (suc c) other = put_else i r ts c (λ e. other (ap suc e))

table_entry : (rows : List ℕ) (c : ℕ) → get_or (table_of rows) c 0 ≡ row_with rows c
unfolding table_of row_with
table_entry [] c = refl
table_entry (r ∷ rs) c = go (eqb (r / 16) c) refl (table_entry rs c)
  where
    go : (b : Bool) → eqb (r / 16) c ≡ b → get_or (table_of rs) c 0 ≡ row_with rs c → get_or (put_at (r / 16) r (table_of rs)) c 0 ≡ row_with (r ∷ rs) c
    go true t rest =
        let here = eqb-true (r / 16) c t in
        ap (λ (i : ℕ). get_or (put_at (r / 16) r (table_of rs)) i 0) (sym here) ∙ put_here (r / 16) r (table_of rs) ∙ sym (with_here r rs c here)
    go false t rest =
        let other = eqb-false (r / 16) c t in
        put_else (r / 16) r (table_of rs) c other ∙ rest ∙ sym (with_behind r rs c other)

-- ---- a look-up, by whether the table has the place

module _ (table : List ℕ) (c : ℕ) where
  pub found_within : c < length table → found_in table c ≡ record { row = get_or table c 0; rounds = 1 }
  unfolding found_in
  found_within l = rw (lt-ltb c (length table) l, found_in)

  pub found_past : length table ≤ c → found_in table c ≡ record { row = 0; rounds = 0 }
  unfolding found_in
  found_past l = rw (le-ltb c (length table) l, found_in)

  pub read_within : c < length table → places_read table c ≡ c ∷ []
  unfolding places_read
  read_within l = rw (lt-ltb c (length table) l, places_read)

  pub read_past : length table ≤ c → places_read table c ≡ []
  unfolding places_read
  read_past l = rw (le-ltb c (length table) l, places_read)

  -- the row found is the entry of the code, and 0 is that past the end
  pub found_entry : (found_in table c).row ≡ get_or table c 0
  found_entry = go (dec_lt c (length table))
    where
      go : Dec (c < length table) → (found_in table c).row ≡ get_or table c 0
      go (yes within) = ap (λ (f : Found). f.row) (found_within within)
      go (no none) =
          let past : length table ≤ c = omega (arith, none) in
          ap (λ (f : Found). f.row) (found_past past) ∙ sym (get_or-eq_default table 0 past)

-- in a table by code it is the row of the plain search
pub found_same : (rows : List ℕ) (c : ℕ) → (found_in (table_of rows) c).row ≡ row_with rows c
found_same rows c = found_entry (table_of rows) c ∙ table_entry rows c
