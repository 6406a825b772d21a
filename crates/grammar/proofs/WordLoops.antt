-- Two runs of bytes that are found equal are equal. Assumes nothing.
use Prim.Native.Nat.{ℕ}
use mathlib.Core.Path.{◌≡◌, refl, ap₂, sym}
use mathlib.Core.Bool.{Bool, true, false, true≢false}
use mathlib.Core.List.{List, [], ◌∷◌}
use lib.Dec.{eqb}
use borrow.Author.Tests.{eqb-true}
use Rattle.requests.specs.Choice.{pick}
use Rattle.grammar.specs.Fields.{same_bytes_lem}

-- equal runs of bytes
pub same_bytes : (f g : List ℕ) → same_bytes_lem f g ≡ true → f ≡ g
unfolding same_bytes_lem
same_bytes [] [] e = refl
same_bytes [] (b ∷ g) e = absurd (true≢false (sym e))
same_bytes (a ∷ f) [] e = absurd (true≢false (sym e))
same_bytes (a ∷ f) (b ∷ g) e = go (eqb a b) refl e (same_bytes f g)
  where
    go : (t : Bool) → eqb a b ≡ t → pick t (same_bytes_lem f g) false ≡ true → (same_bytes_lem f g ≡ true → f ≡ g) → a ∷ f ≡ b ∷ g
    go true p q ih = ap₂ ◌∷◌ (eqb-true a b p) (ih q)
    go false p q ih = absurd (true≢false (sym q))
