-- The look-up in a table by code, made of any list of rows. A row's code is the row divided by 16.
use Rattle.std.specs.Prelude.{List, [], ◌∷◌, true, false, ℕ, zero, suc, ◌/◌, eqb, ltb, length, get_or}
use Rattle.requests.specs.Lookup.{row_allows}
use Rattle.requests.specs.declared.Listing.{Listing}

-- the plain search: the first row of the list with the code, or 0
unfoldable pub row_with : List ℕ → ℕ → ℕ
row_with [] c = 0
row_with (r ∷ rs) c = elim (eqb (r / 16) c) [ true ↦ r | false ↦ row_with rs c ]

-- a table with a row put in a place; where it ended before, 0 fills it up
unfoldable pub put_at : ℕ → ℕ → List ℕ → List ℕ
put_at zero r [] = r ∷ []
put_at zero r (t ∷ ts) = r ∷ ts
put_at (suc i) r [] = 0 ∷ put_at i r []
put_at (suc i) r (t ∷ ts) = t ∷ put_at i r ts

-- the table by code: each row in the place of its code, the first where several have one code, and 0 where none has it; it ends with the greatest code
unfoldable pub table_of : List ℕ → List ℕ
table_of [] = []
table_of (r ∷ rs) = put_at (r / 16) r (table_of rs)

-- the places that a look-up reads: that of the code, or none where the table ends before it
unfoldable pub places_read : List ℕ → ℕ → List ℕ
places_read table c = elim (ltb c (length table)) [ true ↦ c ∷ [] | false ↦ [] ]

-- what a look-up finds: the row with the code, 0 where there is none, and the number of rounds
pub record Found : Type 0 where
  pub row : ℕ
  pub rounds : ℕ

-- a look-up: one round, which reads the entry of the code, or none where the table ends before it
unfoldable pub found_in : List ℕ → ℕ → Found
found_in table c = elim (ltb c (length table)) [ true ↦ record { row = get_or table c 0; rounds = 1 } | false ↦ record { row = 0; rounds = 0 } ]

-- what a row found lists of the code looked for and a mask; 0, where none is found, has the rule of no masks
unfoldable pub listed_by : ℕ → ℕ → Listing
listed_by r m = record { code = ltb 0 r; pair = row_allows r m }
