-- Tests and arrays over the numbers below a limit, as iterators and closures make them.
use mathlib.Core.Path.{◌≡◌, refl, sym, ap, ◌∙◌}
use mathlib.Core.Bool.{Bool, true, false, ◌&&◌}
use mathlib.Core.List.{List}
use Prim.Native.Nat.{ℕ, zero, suc, ◌+◌, ◌≤◌, ◌<◌}
use native.Mathlib.Nat.{zero-add}
use native.Mathlib.Numerals.{add-one}
use native.Mathlib.Omega.{arith}
use lib.Dec.{eqb}
use denote.Param.Members.{Mut}
use lib.Seq.{ext_get_or}
use lib.ListN.{length, get_or, take}
use Rattle.std.specs.List.{list_all, range_with_len, count_by}
use Rattle.std.proofs.lemmas.List.Folds.{list_all_more}
use Rattle.std.proofs.lemmas.List.Sums.{count_by_more_yes, count_by_more_no}
use Rattle.requests.specs.Choice.{both, every, pick}
use Rattle.std.specs.Fn.{Called}
use Rattle.std.specs.Array.{IsFromFnResultFrom, IsFromFnResult}
use Rattle.layouts.specs.Layout.{tabulate}
use Rattle.layouts.specs.Read.{count}
use Rattle.layouts.proofs.Tabulated.{length_tabulate, get_d_tabulate}

joined : (a b : Bool) → a && b ≡ both a b
unfolding both
joined true b = refl
joined false b = refl

before : (b x y : Bool) → b && both x y ≡ both (b && x) y
unfolding both
before true x y = refl
before false x y = refl

alone : (b : Bool) → b && true ≡ b
alone true = refl
alone false = refl

-- one number more at the end
all_more : (p : ℕ → Bool) (a n : ℕ) → list_all p (range_with_len a (suc n)) ≡ both (list_all p (range_with_len a n)) (p (a + n))
unfolding both
all_more p a zero = let e : a + 0 ≡ a = omega arith in rw e (alone (p a))
all_more p a (suc n) =
    let e : a + 1 + n ≡ a + suc n = omega arith in
    ap (λ (b : Bool). p a && b) (rw e at (all_more p (a + 1) n)) ∙ before (p a) _ _

-- of every number below n
pub all_below : (n : ℕ) (p : ℕ → Bool) → list_all p (range_with_len 0 n) ≡ every n p
unfolding every both
all_below zero p = refl
all_below (suc n) p = all_more p 0 n ∙ rw (all_below n p, zero-add n)

-- of the first elements of a list
module _ {A : Type 0} (xs : List A) (d : A) where
  pub all_taken : (n : ℕ) (p : A → Bool) → n ≤ length xs → list_all p (take n xs) ≡ every n (λ k. p (get_or xs k d))
  unfolding every both
  all_taken zero p l = refl
  all_taken (suc n) p l = rw (← add-one n, list_all_more p xs n d (omega arith), all_taken n p (omega arith)) (joined (every n (λ k. p (get_or xs k d))) _)

-- how many of the first numbers of a list are w
module _ (xs : List ℕ) (w : ℕ) where
  one_more : (n : ℕ) → n < length xs → count_by (λ x. eqb x w) (take (n + 1) xs) ≡ count_by (λ x. eqb x w) (take n xs) + pick (eqb (get_or xs n 0) w) 1 0
  one_more n l = last (eqb (get_or xs n 0) w) refl
    where
      last : (b : Bool) → eqb (get_or xs n 0) w ≡ b → count_by (λ x. eqb x w) (take (n + 1) xs) ≡ count_by (λ x. eqb x w) (take n xs) + pick (eqb (get_or xs n 0) w) 1 0
      last true e = rw e (count_by_more_yes (λ x. eqb x w) xs n 0 l e)
      last false e = rw e (omega (arith, count_by_more_no (λ x. eqb x w) xs n 0 l e))

  pub count_taken : (n : ℕ) → n ≤ length xs → count_by (λ x. eqb x w) (take n xs) ≡ count n (λ k. get_or xs k 0) w
  unfolding count
  count_taken zero l = refl
  count_taken (suc n) l = rw (← add-one n) (one_more n (omega arith) ∙ rw (count_taken n (omega arith)))

-- an array of what a closure gives, where it gives what h gives and changes nothing
module _ {F B : Type 0} (g : Mut F (ℕ × Unit {0}) B) (h : ℕ → B) (f : F) (gives : (i : ℕ) (y : B) (q : F) → Called g f (i, tt) y q → (q ≡ f) × (y ≡ h i)) where
  made_at : (ys : List B) (d : B) (n i k : ℕ) → IsFromFnResultFrom g f ys i n → k < n → get_or ys (i + k) d ≡ h (i + k)
  made_at ys d zero i k r l = absurd (omega arith)
  made_at ys d (suc n) i zero r l = let e : i + 0 ≡ i = omega arith in rw e (r.2.1 d ∙ (gives i r.1 r.0 r.3).1)
  made_at ys d (suc n) i (suc k) r l =
      let e : i + suc k ≡ i + 1 + k = omega arith in
      rw e (made_at ys d n (i + 1) k (rw (gives i r.1 r.0 r.3).0 at r.4) (omega arith))

  pub made : (ys : List B) (d : B) (n : ℕ) → IsFromFnResult g f ys n → ys ≡ tabulate n h
  made ys d n r =
      ext_get_or d ys (tabulate n h) (r.long ∙ sym (length_tabulate n h))
      (λ k l. let within : k < n = omega (arith, r.long) in rw zero-add at (made_at ys d n 0 k r.each within) ∙ sym (get_d_tabulate n h k d within))
