-- The first row whose condition holds, by its first row. Assumes nothing.
use Rattle.std.specs.Prelude.{None, Some}
use mathlib.Core.Path.{◌≡◌, refl, sym, ◌∙◌}
use mathlib.Core.Bool.{Bool, true, false}
use mathlib.Core.List.{List, [], ◌∷◌}
use Prim.Native.Nat.{ℕ}
use native.Mathlib.Omega.{arith}
use Rattle.requests.specs.Choice.{Row, first_holding}

-- the first row holds
pub holds : {A : Type 0} (row : Row A) (rows : List (Row A)) → row.0 ≡ true → first_holding (row ∷ rows) ≡ Some row.1
unfolding first_holding
holds row rows e = rw (e, first_holding)

-- the first row does not hold
pub skips : {A : Type 0} (row : Row A) (rows : List (Row A)) → row.0 ≡ false → first_holding (row ∷ rows) ≡ first_holding rows
unfolding first_holding
skips row rows e = rw (e, first_holding)

-- where no row holds, the first does not
pub passed : {A : Type 0} (row : Row A) (rows : List (Row A)) → first_holding (row ∷ rows) ≡ None → (row.0 ≡ false) × (first_holding rows ≡ None)
passed {A} row rows h = go row.0 refl
  where
    go : (b : Bool) → row.0 ≡ b → (row.0 ≡ false) × (first_holding rows ≡ None)
    go true e = let z : ◌≡◌ {A = ℕ} 0 1 = cc (holds row rows e) in absurd (omega arith)
    go false e = (e, sym (skips row rows e) ∙ h)

-- no row is left
pub ends : {A : Type 0} → first_holding {A = A} [] ≡ None
unfolding first_holding
ends = refl
