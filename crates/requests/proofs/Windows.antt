-- Laws on the window `drop i (take n q)` of a list that a loop has still to go through, over any element type. Assumes nothing.
use mathlib.Core.Path.{◌≡◌, sym, ◌∙◌}
use Prim.Native.Nat.{ℕ, ◌+◌, ◌≤◌, ◌<◌, min}
use mathlib.Core.List.{List, [], ◌∷◌, ◌++◌, map}
use native.Mathlib.Numerals.{add-one}
use native.Mathlib.Omega.{arith}
use native.Mathlib.Decide.{dec_le}
use lib.ListN.{length, take, drop, get_or, length-take, drop_of_length-le, length-map}
use lib.Seq.{drop-cons, get_or-take, take-suc, take_all}

-- the length of a field that is an array of structs: the struct's own relation stands at a `map` over the list
pub length_mapped : (A B : Type 0) (f : A → B) (l : List A) (n : ℕ) → length (map f l) ≡ n → length l ≡ n
length_mapped A B f l n h = sym (length-map l f) ∙ h

module _ {A : Type 0} where
  -- nothing is left past the window's end
  pub window_past : (q : List A) (n i : ℕ) → min n (length q) ≤ i → drop i (take n q) ≡ []
  window_past q n i h = drop_of_length-le (take n q) {i = i} (rw length-take h)

  -- the element at i, and the rest
  pub window_step : (q : List A) (n i : ℕ) (d : A) → i < n → i < length q → drop i (take n q) ≡ get_or q i d ∷ drop (i + 1) (take n q)
  window_step q n i d h l =
      let k : i < length (take n q) = rw length-take (omega arith) in
      rw (drop-cons (take n q) i d k, add-one, get_or-take n q i d h)

  -- one element more
  pub take_next : (q : List A) (i : ℕ) (d : A) → i < length q → take (i + 1) q ≡ take i q ++ (get_or q i d ∷ [])
  take_next q i d h = rw (add-one, take-suc q i d h)

  -- a number that is cut at the list's length takes as much
  pub take_min : (q : List A) (n k : ℕ) → k ≡ min n (length q) → take k q ≡ take n q
  take_min q n k e = go (dec_le n (length q))
    where
      go : Dec (n ≤ length q) → take k q ≡ take n q
      go (yes h) = let f : k ≡ n = omega arith in rw f
      go (no h) = let f : k ≡ length q = omega arith in rw (take_all n q (omega arith), take_all k q (omega arith))
