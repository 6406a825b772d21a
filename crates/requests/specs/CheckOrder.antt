-- "Checked in the order 1, 2, 3, 4, 5, 6, 7, 8, 10, 9, 11, 12, 13, 14": the numbers that are checked before each, on which `RefusalTable` rests. Computed.
use Rattle.std.specs.Prelude.{◌≡◌, List, [], ◌∷◌, ◌++◌, map, ℕ}
use Rattle.requests.specs.Refusals.{checked_before}

-- the numbers before 10
abbrev to_eight : List ℕ
to_eight = 1 ∷ 2 ∷ 3 ∷ 4 ∷ 5 ∷ 6 ∷ 7 ∷ 8 ∷ []

-- a number, and those that are checked before it
unfoldable pub check_rows : List (ℕ × List ℕ)
check_rows =
    (1, [])
    ∷ (2, 1 ∷ [])
    ∷ (3, 1 ∷ 2 ∷ [])
    ∷ (4, 1 ∷ 2 ∷ 3 ∷ [])
    ∷ (5, 1 ∷ 2 ∷ 3 ∷ 4 ∷ [])
    ∷ (6, 1 ∷ 2 ∷ 3 ∷ 4 ∷ 5 ∷ [])
    ∷ (7, 1 ∷ 2 ∷ 3 ∷ 4 ∷ 5 ∷ 6 ∷ [])
    ∷ (8, 1 ∷ 2 ∷ 3 ∷ 4 ∷ 5 ∷ 6 ∷ 7 ∷ [])
    ∷ (10, to_eight)
    ∷ (9, to_eight ++ 10 ∷ [])
    ∷ (11, to_eight ++ 10 ∷ 9 ∷ [])
    ∷ (12, to_eight ++ 10 ∷ 9 ∷ 11 ∷ [])
    ∷ (13, to_eight ++ 10 ∷ 9 ∷ 11 ∷ 12 ∷ [])
    ∷ (14, to_eight ++ 10 ∷ 9 ∷ 11 ∷ 12 ∷ 13 ∷ [])
    ∷ []

abbrev pub CheckOrder : Type 0
CheckOrder = map (λ (r : ℕ × List ℕ). checked_before r.0) check_rows ≡ map (λ (r : ℕ × List ℕ). r.1) check_rows
