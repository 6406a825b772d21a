-- What the look-up finds: the topmost row of the name in the site's list, or else in the house's; nothing where neither has one.
use Rattle.std.specs.Prelude.{◌≡◌, ◌⊎◌, ◌≢◌, true, false, ℕ, None, Some}
use mathlib.Core.List.{List, [], ◌∷◌, ◌++◌, Memᴰ}
use Rattle.grammar.specs.Text.{newline}
use Rattle.grammar.specs.Fields.{field_at}
use Rattle.names.specs.Rows.{row_of, is_formed}
use Rattle.names.specs.Lists.{NameLists, well_formed, lists_formed}
use Rattle.names.specs.LookUp.{row_named, shown}

-- nothing, or a text that ends with a newline
abbrev pub Whole : List ℕ → Type 0
Whole text = (text ≡ []) ⊎ ((t : List ℕ) × (text ≡ t ++ newline ∷ []))

-- a row that stands in a list, after whole rows and before its newline
pub record Stands (list row : List ℕ) : Type 0 where
  pub before : List ℕ
  pub after : List ℕ
  pub whole : Whole before
  pub single : ¬ Memᴰ newline row
  pub is : list ≡ before ++ row ++ newline ∷ after

-- no row of a list has the name
abbrev pub NoRow : List ℕ → List ℕ → Type 0
NoRow name list = (row : List ℕ) → Stands list row → ¬ (field_at row 0 ≡ name)

-- the topmost row of a list that has the name
pub record Topmost (name list row : List ℕ) : Type 0 where
  pub at : Stands list row
  pub named : field_at row 0 ≡ name
  pub first : NoRow name at.before

-- "the site's list first"
abbrev pub FoundIn : NameLists → List ℕ → List ℕ → Type 0
FoundIn n name row = Topmost name n.site row ⊎ (NoRow name n.site × Topmost name n.house row)

pub record RowsFound : Type 0 where
  pub found : (n : NameLists) (name row : List ℕ) → row_named n name ≡ Some row → FoundIn n name row
  -- in well-formed lists such a row is found
  pub finds : (n : NameLists) (name row : List ℕ) → well_formed n.site ≡ true → well_formed n.house ≡ true → FoundIn n name row → row_named n name ≡ Some row
  -- a row that is found is formed
  pub shows : (n : NameLists) (name row : List ℕ) → row_named n name ≡ Some row → is_formed (row_of row) ≡ true
  -- in well-formed lists nothing is found exactly when neither has such a row
  pub missing : (n : NameLists) (name : List ℕ) → well_formed n.site ≡ true → well_formed n.house ≡ true → row_named n name ≡ None
      → NoRow name n.site × NoRow name n.house
  pub absent : (n : NameLists) (name : List ℕ) → NoRow name n.site → NoRow name n.house → row_named n name ≡ None
  -- what is shown is the row as it stands in its list; nothing is shown where neither has one, or where one of them is ill-formed
  pub part : (n : NameLists) (name : List ℕ) → shown (row_named n name) ≢ [] → FoundIn n name (shown (row_named n name))
  pub nothing : (n : NameLists) (name : List ℕ) → shown (row_named n name) ≡ [] → (lists_formed n ≡ false) ⊎ (NoRow name n.site × NoRow name n.house)
  -- "refused ... before any search"
  pub refused : (n : NameLists) (name : List ℕ) → (well_formed n.site ≡ false) ⊎ (well_formed n.house ≡ false) → row_named n name ≡ None
