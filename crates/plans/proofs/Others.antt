-- A list of different numbers without those of another list is shorter by at most as many. So different numbers of a list are no more than it has. Assumes nothing.
use mathlib.Core.Path.{◌≡◌, refl, sym, ◌∙◌}
use mathlib.Core.Logic.{◌≢◌}
use mathlib.Core.List.Sublistᴰ
use mathlib.Core.List.{List, [], ◌∷◌, Memᴰ, Sublistᴰ}
use Prim.Native.Nat.{ℕ, ◌+◌, ◌≤◌}
use native.Mathlib.Omega.{arith}
use native.Mathlib.Decide.{ℕ_discrete}
use lib.ListN.{length}
use Rattle.plans.specs.Lists.{All, nil, cons, Pairwise, empty, add}
use Rattle.plans.proofs.Sets.{all_imp, all_join}
use Rattle.plans.proofs.Sublists.{all_part, pairwise_part}

-- k is none of the list
abbrev pub Away : List ℕ → ℕ → Type 0
Away ks k = All (λ (j : ℕ). k ≢ j) ks

away_none : (l : List ℕ) → All (Away []) l
away_none [] = nil
away_none (j ∷ js) = cons nil (away_none js)

away_member : {k : ℕ} {ks : List ℕ} → Away ks k → Memᴰ k ks → ⊥
away_member (cons ne h) (Memᴰ.head e) = ne e
away_member (cons ne h) (Memᴰ.tail m) = away_member h m
away_member {k = k} nil x3 = elim x3 [ ]

-- the numbers of l that are none of ks
pub record Others (ks l : List ℕ) : Type 0 where
  pub rest : List ℕ
  pub part_of : Sublistᴰ rest l
  pub away : All (Away ks) rest
  pub most : length l ≤ length rest + length ks

-- without one number
other : (k : ℕ) {l : List ℕ} → Pairwise ◌≢◌ l → Others (k ∷ []) l
other k empty = record { rest = []; part_of = Sublistᴰ.slnil; away = nil; most = omega arith }
other k (add {a = x} {rest = xs} d ds) = go (ℕ_discrete x k) (other k ds)
  where
    go : Dec (x ≡ k) → Others (k ∷ []) xs → Others (k ∷ []) (x ∷ xs)
    go (yes e) o = record { rest = xs; part_of = Sublistᴰ.cons (Sublistᴰ.refl xs); away = all_imp (λ j ne. cons (λ f. ne (e ∙ sym f)) nil) d; most = omega arith }
    go (no ne) o = record { rest = x ∷ o.rest; part_of = Sublistᴰ.cons-cons refl o.part_of; away = cons (cons ne nil) o.away; most = omega (arith, o.most) }

pub others : (ks : List ℕ) {l : List ℕ} → Pairwise ◌≢◌ l → Others ks l
others [] {l} d = record { rest = l; part_of = Sublistᴰ.refl l; away = away_none l; most = omega arith }
others (k ∷ ks) d =
    let o = other k d in
    let p = others ks (pairwise_part o.part_of d) in
    record {
      rest = p.rest;
      part_of = Sublistᴰ.trans p.part_of o.part_of;
      away = all_join join (all_part p.part_of o.away) p.away;
      most = omega (arith, o.most, p.most);
    }
  where
    join : (j : ℕ) → Away (k ∷ []) j → Away ks j → Away (k ∷ ks) j
    join j (cons ne nil) h = cons ne h

-- different numbers, each of them in the list ks, are no more than it has: none is left without those of ks
pub no_more : {l : List ℕ} → Pairwise ◌≢◌ l → (ks : List ℕ) → All (λ (k : ℕ). Memᴰ k ks) l → length l ≤ length ks
no_more d ks h = let o = others ks d in go o.rest o.away (all_part o.part_of h) o.most
  where
    go : {n : ℕ} (rest : List ℕ) → All (Away ks) rest → All (λ (k : ℕ). Memᴰ k ks) rest → n ≤ length rest + length ks → n ≤ length ks
    go [] nil nil b = omega (arith, b)
    go (k ∷ rest) (cons a others-away) (cons m ms) b = absurd (away_member a m)
