-- Lists of what a function gives below n: their length, their elements, and a store.
use mathlib.Core.Path.{◌≡◌, refl, sym, ◌∙◌}
use mathlib.Core.List.{[], ◌∷◌, ◌++◌, append_assoc, append-nil}
use Prim.Native.Nat.{ℕ, zero, suc, ◌+◌, ◌-◌, ◌<◌}
use native.Mathlib.Decide.{ℕ_discrete}
use native.Mathlib.Numerals.{add-one}
use native.Mathlib.Omega.{arith}
use lib.Dec.{eqb}
use lib.ListN.{length, get_or, set, replicate, length-append, length-set, get_or-append}
use lib.Seq.{set_at, get_or_at, get_or-set_same, get_or-set_other, ext_get_or}
use borrow.Author.Tests.{eq-eqb, ne_eqb}
use Rattle.requests.specs.Choice.{pick}
use Rattle.layouts.specs.Layout.{tabulate}

module _ {A : Type 0} where
  pub length_tabulate : (n : ℕ) (f : ℕ → A) → length (tabulate n f) ≡ n
  unfolding tabulate
  length_tabulate zero f = refl
  length_tabulate (suc n) f = omega (arith, length-append (tabulate n f) (f n ∷ []), length_tabulate n f)

  pub get_d_tabulate : (n : ℕ) (f : ℕ → A) (i : ℕ) (d : A) → i < n → get_or (tabulate n f) i d ≡ f i
  unfolding tabulate
  get_d_tabulate zero f i d l = absurd (omega arith)
  get_d_tabulate (suc n) f i d l =
      elim (ℕ_discrete i n) [
        | yes e ↦ rw e (get_or_at (tabulate n f) (f n) [] d n (length_tabulate n f))
        | no ne ↦ get_or-append (tabulate n f) (f n ∷ []) d i (let g = ne in omega (arith, length_tabulate n f))
            ∙ get_d_tabulate n f i d (let g = ne in omega arith)
      ]

  -- an array that is filled up to k, one element more
  pub fill_next : (n k : ℕ) (f : ℕ → A) (a : A) → k < n → set (tabulate k f ++ replicate (n - k) a) k (f k) ≡ tabulate (k + 1) f ++ replicate (n - (k + 1)) a
  unfolding tabulate
  fill_next n k f a l =
      let e : n - k ≡ suc (n - suc k) = omega arith in
      rw (e, add-one k, append_assoc) (set_at (tabulate k f) a (replicate (n - suc k) a) (f k) k (length_tabulate k f))

  -- .. and filled whole
  pub fill_end : (n : ℕ) (f : ℕ → A) (a : A) → tabulate n f ++ replicate (n - n) a ≡ tabulate n f
  fill_end n f a = let e : n - n ≡ 0 = omega arith in rw e (append-nil (tabulate n f))

  -- another value at k is a store
  pub tabulate_set : (n k : ℕ) (a : A) (f : ℕ → A) → tabulate n (λ j. pick (eqb k j) a (f j)) ≡ set (tabulate n f) k a
  tabulate_set n k a f =
      ext_get_or a (tabulate n g) (set (tabulate n f) k a)
      (omega (arith, length_tabulate n g, length-set (tabulate n f) k a, length_tabulate n f))
      (λ i l. at i (omega (arith, length_tabulate n g)))
    where
      g : ℕ → A
      g j = pick (eqb k j) a (f j)

      at : (i : ℕ) → i < n → get_or (tabulate n g) i a ≡ get_or (set (tabulate n f) k a) i a
      at i l =
          get_d_tabulate n g i a l
          ∙ elim (ℕ_discrete k i) [
            | yes e ↦ rw (eq-eqb k i e, e) (sym (get_or-set_same (tabulate n f) i a a (omega (arith, length_tabulate n f))))
            | no ne ↦ rw (ne_eqb k i ne)
                (sym (get_or-set_other (tabulate n f) k i a a (λ e. ne (sym e)) ∙ get_d_tabulate n f i a l))
          ]
