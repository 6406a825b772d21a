-- Document 02, order 9: "the row that was found ... the site's list first, and within a list the topmost row".
use Rattle.std.specs.Prelude.{true, false, List, [], ◌∷◌, ℕ, Option, None, Some}
use Rattle.names.specs.Rows.{has_name}
use Rattle.names.specs.Lists.{NameLists, row_texts, lists_formed}

-- the first of two that is there
abbrev pub or_else : Option (List ℕ) → Option (List ℕ) → Option (List ℕ)
or_else (Some t) other = Some t
or_else None other = other

-- the topmost row of the name
unfoldable pub top_row : List ℕ → List (List ℕ) → Option (List ℕ)
top_row name [] = None
top_row name (t ∷ ts) = elim (has_name name t) [ true ↦ Some t | false ↦ top_row name ts ]

-- the row of a name in the two lists, by the name alone; none where a list is ill-formed
unfoldable pub row_named : NameLists → List ℕ → Option (List ℕ)
row_named n name =
    elim (lists_formed n) [
      | true ↦ or_else (top_row name (row_texts n.site)) (top_row name (row_texts n.house))
      | false ↦ None
    ]

-- as it is shown: a row is never empty
abbrev pub shown : Option (List ℕ) → List ℕ
shown None = []
shown (Some t) = t
