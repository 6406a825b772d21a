-- Rows and lists in the grammar: a row is formed exactly when it is a row's text, and a list exactly when it is the texts of rows, one after another.
use Rattle.std.specs.Prelude.{◌≡◌, true, List, [], ◌∷◌, ◌++◌, ℕ, Some}
use Rattle.requests.specs.Devices.{letter_of, box_of}
use Rattle.grammar.specs.Text.{newline, hex_text, line_of}
use Rattle.grammar.specs.Records.{Hex}
use Rattle.grammar.specs.Fields.{field_at}
use Rattle.names.specs.EventNames.{IsName}
use Rattle.names.specs.Rows.{row_of}
use Rattle.names.specs.Lists.{NameLists, well_formed, lists_formed}
use Rattle.names.specs.declared.Row.{Row}

-- a name and what it stands for
pub record NamedRow : Type 0 where
  pub name : List ℕ
  pub row : Row

-- they fit their fields; a letter alone tells no box
pub record RowFits (n : NamedRow) : Type 0 where
  pub named : IsName n.name
  pub no_box : box_of n.row.device ≡ 0
  pub code_fits : Hex 2 n.row.code
  pub mask_fits : Hex 2 n.row.mask

-- the text of a row with its newline
unfoldable pub row_line : NamedRow → List ℕ
row_line n = line_of (n.name ∷ (letter_of n.row.device ∷ []) ∷ hex_text 2 n.row.code ∷ hex_text 2 n.row.mask ∷ [])

-- the text of a list
unfoldable pub list_text : List NamedRow → List ℕ
list_text [] = []
list_text (n ∷ ns) = row_line n ++ list_text ns

-- rows that all fit
pub data AllFit : List NamedRow → Type 0 where
  empty : AllFit []
  more : {n : NamedRow} {ns : List NamedRow} → RowFits n → AllFit ns → AllFit (n ∷ ns)

pub record RowGrammar : Type 0 where
  pub formed : (n : NamedRow) (t : List ℕ) → RowFits n → t ++ newline ∷ [] ≡ row_line n → (row_of t ≡ Some n.row) × (field_at t 0 ≡ n.name)
  pub only : (t : List ℕ) (r : Row) → row_of t ≡ Some r
      → RowFits (record { name = field_at t 0; row = r }) × (t ++ newline ∷ [] ≡ row_line (record { name = field_at t 0; row = r }))

-- the text of rows that all fit
pub record IsList (list : List ℕ) : Type 0 where
  pub rows : List NamedRow
  pub fit : AllFit rows
  pub is : list ≡ list_text rows

-- both lists are such texts
abbrev pub AreLists : NameLists → Type 0
AreLists n = IsList n.site × IsList n.house

pub record ListGrammar : Type 0 where
  pub formed : (list : List ℕ) → IsList list → well_formed list ≡ true
  pub only : (list : List ℕ) → well_formed list ≡ true → IsList list
  -- both lists
  pub both_formed : (n : NameLists) → AreLists n → lists_formed n ≡ true
  pub both_only : (n : NameLists) → lists_formed n ≡ true → AreLists n
