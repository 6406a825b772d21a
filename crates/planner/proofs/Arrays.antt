-- Laws on lists in their arrays, over any element type, number of places and filling: a value is stored in the first place past the list,
-- and the places past it are filled one after another. Assumes nothing.
use mathlib.Core.Path.{◌≡◌, refl, ap}
use Prim.Native.Nat.{ℕ, zero, suc, ◌-◌, ◌<◌, ◌≤◌}
use mathlib.Core.List.{List, [], ◌∷◌, ◌++◌, append-nil}
use native.Mathlib.Omega.{arith}
use lib.ListN.{length, take, drop, set, replicate, length-append, length-take, length-drop, drop_of_length-le}
use lib.Seq.{set-append_seam, append_snoc}
use borrow.Rule.Slice.PartMut.{put_mid}
use Rattle.planner.specs.Selections.{in_array}

module _ {A : Type 0} (n : ℕ) (d : A) (l : List A) (k : ℕ) where
  pub array_push : (a : A) → k ≡ length l → k < n → set (in_array n d l) k a ≡ in_array n d (l ++ (a ∷ []))
  array_push a p h =
      let m : n - length l ≡ suc (n - length (l ++ (a ∷ []))) = simp length-append (omega arith) in
      rw (p, m, set-append_seam, append_snoc)

module _ {A : Type 0} (d : A) where
  -- the places behind the first k are filled
  pub filled_behind : (n k : ℕ) (l filling : List A) → k ≤ n → length l ≡ n → filling ≡ replicate (length (take (n - k) (drop k l))) d
      → put_mid k (n - k) l filling ≡ take k l ++ replicate (n - k) d
  filled_behind n k l filling inside size e =
      let m : length (take (n - k) (drop k l)) ≡ n - k = simp (length-take, length-drop) (omega arith) in
      let behind : drop (n - k) (drop k l) ≡ [] = drop_of_length-le (drop k l) {i = n - k} (simp length-drop (omega arith)) in
      rw (e, m, behind, append-nil)

  -- a filled place filled again
  pub filled_again : (n k : ℕ) → set (replicate n d) k d ≡ replicate n d
  filled_again zero k = refl
  filled_again (suc n) zero = refl
  filled_again (suc n) (suc k) = ap (λ (l : List A). d ∷ l) (filled_again n k)
