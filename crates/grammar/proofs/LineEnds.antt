-- Laws of a line's newline. Assumes nothing.
use Prim.Native.Nat.{ℕ, ◌-◌, ◌≤◌}
use mathlib.Core.Path.{◌≡◌, refl}
use mathlib.Core.Bool.{Bool, true, false}
use mathlib.Core.List.{List, [], ◌∷◌}
use native.Mathlib.Omega.{arith}
use lib.ListN.{length}
use Rattle.requests.specs.Choice.{pick}
use Rattle.grammar.specs.Text.{newline}
use Rattle.grammar.specs.Parse.{is_closed, text_length}

-- a line that ends with a newline has a byte
pub closed_some : (l : List ℕ) → is_closed l ≡ true → 1 ≤ length l
unfolding is_closed newline
closed_some [] e = let z : ◌≡◌ {A = ℕ} 0 1 = cc in omega arith
closed_some (x ∷ l) e = omega arith

-- a line with no byte does not
pub closed_none : (l : List ℕ) → length l ≡ 0 → is_closed l ≡ false
unfolding is_closed newline
closed_none [] e = refl
closed_none (x ∷ l) e = let z : ⊥ = omega arith in absurd z

-- what stands before the newline is a part of the line
pub text_within : (l : List ℕ) → text_length l ≤ length l
unfolding text_length
text_within l = go (is_closed l) (length l)
  where
    go : (t : Bool) (n : ℕ) → pick t (n - 1) n ≤ n
    go true n = omega arith
    go false n = omega arith
