-- The tests of a name: its length, and each of its bytes. Assumes nothing.
use Prim.Native.Nat.{ℕ, ◌<◌, ◌≤◌}
use mathlib.Core.Path.{◌≡◌, refl}
use mathlib.Core.Bool.{Bool, true, false, ◌&&◌}
use mathlib.Core.List.{List, [], ◌∷◌}
use native.Mathlib.Omega.{arith}
use lib.ListN.{length}
use borrow.Author.Tests.{ne_eqb, eq-eqb, lt-ltb, le-ltb}
use Rattle.std.specs.List.{list_all}
use Rattle.requests.specs.Choice.{both}
use Rattle.names.specs.EventNames.{name_byte, name_bytes, longest_name, is_name}

-- each byte is a name's
pub all_name_bytes : (f : List ℕ) → list_all name_byte f ≡ name_bytes f
unfolding name_bytes both
all_name_bytes [] = refl
all_name_bytes (b ∷ f) = rw (all_name_bytes f) (go (name_byte b) (name_bytes f))
  where
    go : (t s : Bool) → (t && s) ≡ both t s
    go true s = refl
    go false s = refl

-- the tests of the length
pub no_name : (f : List ℕ) → length f ≡ 0 → is_name f ≡ false
unfolding is_name
no_name f e = rw (eq-eqb (length f) 0 e)

pub long_name : (f : List ℕ) → 40 < length f → is_name f ≡ false
unfolding is_name longest_name
long_name f h = rw (ne_eqb (length f) 0 (λ e. omega arith), lt-ltb 40 (length f) h)

pub short_name : (f : List ℕ) → (length f ≡ 0 → ⊥) → length f ≤ 40 → is_name f ≡ name_bytes f
unfolding is_name longest_name
short_name f n h = rw (ne_eqb (length f) 0 n, le-ltb 40 (length f) h)
