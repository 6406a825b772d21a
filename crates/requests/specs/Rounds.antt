-- Order 4: "look the code up in the longer event list by a road of your choosing that takes at most eight rounds for any code, each reading one table entry; show that bound. Answers stay the same for every code and mask".
use Rattle.std.specs.Prelude.{◌≡◌, ℕ, ◌/◌, ◌<◌, ◌≤◌, length, get_or}
use mathlib.Core.List.{List, ◌∷◌, Memᴰ}
use Rattle.requests.specs.Lookup.{rows_of, listing_of}
use Rattle.requests.specs.ByCode.{row_with, table_of, places_read, found_in, listed_by}
use Rattle.requests.specs.declared.Device.TheVariants.{C}

-- the code of the row at a place
abbrev pub code_at : List ℕ → ℕ → ℕ
code_at rows i = get_or rows i 0 / 16

-- no two rows have one code
abbrev pub Apart : List ℕ → Type 0
Apart rows = (i j : ℕ) → i < j → j < length rows → code_at rows i ≡ code_at rows j → ⊥

pub record Rounds : Type 0 where
  -- "at most eight rounds for any code": in any table, and one does
  pub eight : (table : List ℕ) (c : ℕ) → (found_in table c).rounds ≤ 8
  pub one : (table : List ℕ) (c : ℕ) → (found_in table c).rounds ≤ 1
  -- "each reading one table entry": as many rounds as places read
  pub counted : (table : List ℕ) (c : ℕ) → (found_in table c).rounds ≡ length (places_read table c)
  -- no other entry is seen: a table as long, with the same entries at the places read, is answered alike
  pub sight : (table other : List ℕ) (c : ℕ) → ((i : ℕ) → Memᴰ i (places_read table c) → get_or other i 0 ≡ get_or table i 0) → length other ≡ length table → found_in other c ≡ found_in table c
  -- "Answers stay the same for every code": in the table made of any list of rows, the row found is that of the plain search
  pub same : (rows : List ℕ) (c : ℕ) → (found_in (table_of rows) c).row ≡ row_with rows c
  -- no two rows of a C-Box have one code, and none has the code 0, so that no row is 0
  pub apart : (b : ℕ) → Apart (0 ∷ rows_of (C b))
  -- "and mask": the row found says what is listed, of the code and of the pair, so that nothing is read again
  pub listing : (b c m : ℕ) → listing_of (C b) c m ≡ listed_by (found_in (table_of (rows_of (C b))) c).row m
