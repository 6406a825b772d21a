-- Document 02, order 9: "two lists in our line format, the site's and the house's", rows that are each closed by a newline.
use Rattle.std.specs.Prelude.{Bool, true, List, [], ◌∷◌, ℕ, suc, eqb}
use Rattle.requests.specs.Choice.{both, pick}
use Rattle.grammar.specs.Text.{newline}
use Rattle.names.specs.Rows.{row_of, is_formed}
use Rattle.names.specs.declared.BothLists.{BothLists}

-- the two lists, as bytes
pub record NameLists : Type 0 where
  pub site : List ℕ
  pub house : List ℕ

-- the bytes of two lists that are lent
abbrev pub lists_of : BothLists → NameLists
lists_of lists = record { site = lists.site.now; house = lists.house.now }

-- how many bytes stand before the first newline
unfoldable pub up_to_newline : List ℕ → ℕ
up_to_newline [] = 0
up_to_newline (b ∷ bs) = pick (eqb b newline) 0 (suc (up_to_newline bs))

-- the rows with b at the front of the first
abbrev pub onto_row : ℕ → List (List ℕ) → List (List ℕ)
onto_row b [] = (b ∷ []) ∷ []
onto_row b (t ∷ ts) = (b ∷ t) ∷ ts

-- the texts of the rows, each without its newline; what stands after the last newline is one too, unless it is empty
unfoldable pub row_texts : List ℕ → List (List ℕ)
row_texts [] = []
row_texts (b ∷ bs) = pick (eqb b newline) ([] ∷ row_texts bs) (onto_row b (row_texts bs))

-- whether a text is empty or ends with a newline
unfoldable pub is_ended : List ℕ → Bool
is_ended [] = true
is_ended (b ∷ []) = eqb b newline
is_ended (b ∷ c ∷ more) = is_ended (c ∷ more)

-- whether all are rows
unfoldable pub all_formed : List (List ℕ) → Bool
all_formed [] = true
all_formed (t ∷ ts) = both (is_formed (row_of t)) (all_formed ts)

-- "An ill-formed row in either list": every row is formed, and the text is empty or ends with a newline
unfoldable pub well_formed : List ℕ → Bool
well_formed list = both (is_ended list) (all_formed (row_texts list))

-- both lists
unfoldable pub lists_formed : NameLists → Bool
lists_formed n = both (well_formed n.site) (well_formed n.house)
