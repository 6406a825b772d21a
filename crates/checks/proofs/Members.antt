-- Numbers of a list, by the library's search for one.
use mathlib.Core.Path.{◌≡◌, refl}
use mathlib.Core.Bool.{Bool, true, false}
use mathlib.Core.List.{List, [], ◌∷◌}
use Prim.Native.Nat.{ℕ}
use lib.Dec.{eqb}
use Rattle.std.specs.List.{list_any}
use Rattle.requests.specs.Choice.{either}
use Rattle.requests.specs.Bits.{in_list}

pub any_in : (ks : List ℕ) (k : ℕ) → list_any (λ j. eqb j k) ks ≡ in_list ks k
unfolding in_list either
any_in [] k = refl
any_in (j ∷ ks) k = go (eqb j k) refl (any_in ks k)
  where
    go : (b : Bool) → eqb j k ≡ b → list_any (λ i. eqb i k) ks ≡ in_list ks k → list_any (λ i. eqb i k) (j ∷ ks) ≡ in_list (j ∷ ks) k
    go true e rest = rw (e, list_any, in_list) refl
    go false e rest = rw (e, list_any, in_list) rest
