-- The requests of eight rows in a list, and the numbers of an answer. Assumes nothing.
use mathlib.Core.Path.{◌≡◌, refl, ap}
use mathlib.Core.Bool.{true, false}
use mathlib.Core.List.{List, [], ◌∷◌}
use Prim.Native.Nat.{ℕ, zero, suc, ◌+◌, ◌-◌, ◌≤◌}
use native.Mathlib.Omega.{arith}
use lib.ListN.{take, get_or}
use Rattle.requests.specs.declared.Request.{Request}
use Rattle.plans.specs.declared.Place.{Place}
use Rattle.search.specs.Rows.{request_at, rows_from}
use Rattle.bench.specs.Numbers.{digits_of}

rows_part : (rows : List ℕ) (at k m : ℕ) → take k (rows_from rows at (k + m)) ≡ rows_from rows at k
unfolding rows_from
rows_part rows at zero m = refl
rows_part rows at (suc k) m =
    let s : suc k + m ≡ suc (k + m) = omega arith in
    rw (s, rows_from) (ap (λ (l : List Request). request_at rows at ∷ l) (rows_part rows (at + 1) k m))

pub rows_listed : (rows : List ℕ) (count : ℕ) (a b c d e f g h : Request) → count ≤ 8 → a ≡ request_at rows 0 → b ≡ request_at rows 1 → c ≡ request_at rows 2
    → d ≡ request_at rows 3 → e ≡ request_at rows 4 → f ≡ request_at rows 5 → g ≡ request_at rows 6 → h ≡ request_at rows 7
    → take count (a ∷ b ∷ c ∷ d ∷ e ∷ f ∷ g ∷ h ∷ []) ≡ rows_from rows 0 count
unfolding rows_from
rows_listed rows count a b c d e f g h l p0 p1 p2 p3 p4 p5 p6 p7 =
    let whole : rows_from rows 0 8 ≡ a ∷ b ∷ c ∷ d ∷ e ∷ f ∷ g ∷ h ∷ [] = rw (p0, p1, p2, p3, p4, p5, p6, p7) in
    let s : count + (8 - count) ≡ 8 = omega arith in
    rw (← whole) (rw s at (rows_part rows 0 count (8 - count)))

pub digits_few : (x : ℕ) (p : Place) → x ≡ digits_of p → x ≤ 63
unfolding digits_of
digits_few x p e = omega arith
