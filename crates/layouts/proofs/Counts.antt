-- How many counters have a word, and how many uses of a plan ask for it. Assumes nothing.
--     count-zero, find      none has the word, or one can be found
--     count-put             one counter more
--     hits, count-hits      the counters of uses that are apart have each word as often as the uses ask for it
use mathlib.Core.Path.{◌≡◌, refl, sym, ap, ◌∙◌}
use mathlib.Core.Logic.{◌≢◌}
use mathlib.Core.List.{List, [], ◌∷◌, map}
use Prim.Native.Nat.{ℕ, zero, suc, ◌+◌, ◌≤◌, ◌<◌}
use native.Mathlib.Nat.{le_refl}
use native.Mathlib.Decide.{ℕ_discrete}
use native.Mathlib.Omega.{arith}
use borrow.Author.Tests.{eq-eqb, ne_eqb}
use lib.Dec.{eqb}
use Rattle.requests.specs.Choice.{pick}
use Rattle.plans.specs.Lists.{All, cons, Pairwise, add}
use Rattle.plans.proofs.Sets.{all_imp}
use Rattle.layouts.specs.Settings.{word_at}
use Rattle.layouts.specs.Read.{count}

pub count_zero : (n k w : ℕ) (f : ℕ → ℕ) → count n f w ≡ 0 → k < n → f k ≡ w → ⊥
unfolding count
count_zero zero k w f e l q = omega arith
count_zero (suc n) k w f e l q =
    elim (ℕ_discrete n k) [
      | yes p ↦ let more = rw (eq-eqb (f n) w (ap f p ∙ q)) at e in omega arith
      | no o ↦ count_zero n k w f (let z : count n f w ≡ 0 = omega arith in z) (let y = o in omega arith) q
    ]

-- a counter with the word
pub record Found (n : ℕ) (f : ℕ → ℕ) (w : ℕ) : Type 0 where
  pub counter : ℕ
  pub below : counter < n
  pub there : f counter ≡ w

pub find : (n w : ℕ) (f : ℕ → ℕ) → 0 < count n f w → Found n f w
unfolding count
find zero w f l = absurd (omega arith)
find (suc n) w f l =
    elim (ℕ_discrete (f n) w) [
      | yes e ↦ record { counter = n; below = le_refl (suc n); there = e }
      | no o ↦ let rest = find n w f (let less = rw (ne_eqb (f n) w o) at l in let z : 0 < count n f w = omega arith in z) in
          record { counter = rest.counter; below = (let i = rest.below in omega arith); there = rest.there }
    ]

count_above : (f : ℕ → ℕ) (n j v w : ℕ) → n ≤ j → count n (λ k. pick (eqb j k) v (f k)) w ≡ count n f w
unfolding count
count_above f zero j v w l = refl
count_above f (suc n) j v w l = rw (ne_eqb j n (λ e. omega arith), count_above f n j v w (omega arith))

pub count_put : (f : ℕ → ℕ) (n j v w : ℕ) → j < n → f j ≡ 0 → (w ≡ 0 → ⊥) → count n (λ k. pick (eqb j k) v (f k)) w ≡ count n f w + pick (eqb v w) 1 0
unfolding count
count_put f zero j v w l e h = absurd (omega arith)
count_put f (suc n) j v w l e h =
    elim (ℕ_discrete j n) [
      | yes p ↦ rw (eq-eqb j n p, count_above f n j v w (omega arith), ← p, e, ne_eqb 0 w (λ z. h (sym z))) (omega arith)
      | no ne ↦ rw (ne_eqb j n ne, count_put f n j v w (let z = ne in omega arith) e h) (omega arith)
    ]

count_none : (n w : ℕ) → (w ≡ 0 → ⊥) → count n (λ k. 0) w ≡ 0
unfolding count
count_none zero w h = refl
count_none (suc n) w h = rw (count_none n w h, ne_eqb 0 w (λ z. h (sym z)))

-- a counter of a use
abbrev pub counter_of : ℕ × ℕ → ℕ
counter_of u = u.0

-- a counter that no use has has the word 0
pub absent : (us : List (ℕ × ℕ)) (k : ℕ) → All (λ (j : ℕ). j ≡ k → ⊥) (map counter_of us) → word_at us k ≡ 0
unfolding word_at
absent [] k h = refl
absent (u ∷ us) k (cons h hs) = rw (ne_eqb u.0 k h) (absent us k hs)

-- how many uses have the word
unfoldable pub hits : ℕ → List (ℕ × ℕ) → ℕ
hits w [] = 0
hits w (u ∷ us) = hits w us + pick (eqb u.1 w) 1 0

pub count_hits : (n w : ℕ) (us : List (ℕ × ℕ)) → (w ≡ 0 → ⊥) → Pairwise ◌≢◌ (map counter_of us) → All (λ (k : ℕ). k < n) (map counter_of us) → count n (word_at us) w ≡ hits w us
unfolding hits word_at
count_hits n w [] h d b = count_none n w h
count_hits n w (u ∷ us) h (add d ds) (cons b bs) =
    count_put (word_at us) n u.0 u.1 w b (absent us u.0 (all_imp (λ j ne e. ne (sym e)) d)) h
    ∙ ap (λ (m : ℕ). m + pick (eqb u.1 w) 1 0) (count_hits n w us h ds bs)
