-- The fields of a text: its parts between tabs.
use Rattle.std.specs.Prelude.{Bool, true, false, List, [], ◌∷◌, ℕ, get_or, eqb}
use Rattle.requests.specs.Choice.{pick}
use Rattle.grammar.specs.Text.{tab}

-- the fields with b at the front of the first
abbrev pub onto : ℕ → List (List ℕ) → List (List ℕ)
onto b [] = []
onto b (f ∷ fs) = (b ∷ f) ∷ fs

-- the parts of a text between tabs, one more than it has tabs
unfoldable pub fields : List ℕ → List (List ℕ)
fields [] = [] ∷ []
fields (b ∷ bs) = pick (eqb b tab) ([] ∷ fields bs) (onto b (fields bs))

-- field k, counted from 0
abbrev pub field_at : List ℕ → ℕ → List ℕ
field_at text k = get_or (fields text) k []

-- whether two runs of bytes are equal
unfoldable pub same_bytes_lem : List ℕ → List ℕ → Bool
same_bytes_lem [] [] = true
same_bytes_lem [] (b ∷ bs) = false
same_bytes_lem (a ∷ more) [] = false
same_bytes_lem (a ∷ more) (b ∷ bs) = pick (eqb a b) (same_bytes_lem more bs) false
