-- A drop leaves out the entry of its id, and the others keep their order. Assumes nothing.
--     removed-same, removed-other                      the first entry is left out where it has the id, and stays in front where it has not
--     all-removed, pairwise-removed, length-removed    what holds of all entries, or of all pairs of them, is kept, and no entry is added
--     removed-around, removed-one                      an entry of another id stays between the same others, and where ids are distinct one alone is left out
use mathlib.Core.Path.{◌≡◌, refl, ap, sym, ◌∙◌}
use mathlib.Core.Logic.{◌≢◌}
use mathlib.Core.List.Memᴰ
use mathlib.Core.List.{List, [], ◌∷◌, ◌++◌}
use mathlib.Core.Bool.{Bool, true, false}
use Prim.Native.Nat.{ℕ, suc, ◌≤◌}
use native.Mathlib.Omega.{arith}
use lib.Dec.{eqb}
use lib.ListN.{length}
use borrow.Author.Tests.{eq-eqb, ne_eqb}
use Rattle.requests.specs.declared.Entry.{Entry}
use Rattle.plans.specs.Lists.{All, nil, cons, Pairwise, empty, add}
use Rattle.layouts.proofs.ListLaws.{all_member}
use Rattle.sessions.specs.Plain.{removed}
use Rattle.sessions.specs.DistinctIds.{Distinct}
use Rattle.sessions.proofs.Lists.{map_all}

module _ (id : ℕ) where
  removed_none : removed id [] ≡ []
  unfolding removed
  removed_none = refl

  removed_same : (e : Entry) (q : List Entry) → eqb id e.id ≡ true → removed id (e ∷ q) ≡ removed id q
  unfolding removed
  removed_same e q h = rw (h, removed)

  removed_other : (e : Entry) (q : List Entry) → eqb id e.id ≡ false → removed id (e ∷ q) ≡ e ∷ removed id q
  unfolding removed
  removed_other e q h = rw (h, removed)

  pub all_removed : {P : Entry → Type 0} (q : List Entry) → All P q → All P (removed id q)
  all_removed [] nil = rw removed_none nil
  all_removed {P} (e ∷ q) (cons h p) = go (eqb id e.id) refl (all_removed q p)
    where
      go : (b : Bool) → eqb id e.id ≡ b → All P (removed id q) → All P (removed id (e ∷ q))
      go true k below = rw (removed_same e q k) below
      go false k below = rw (removed_other e q k) (cons h below)

  pub pairwise_removed : {R : Entry → Entry → Type 0} (q : List Entry) → Pairwise R q → Pairwise R (removed id q)
  pairwise_removed [] empty = rw removed_none empty
  pairwise_removed {R} (e ∷ q) (add h p) = go (eqb id e.id) refl (pairwise_removed q p)
    where
      go : (b : Bool) → eqb id e.id ≡ b → Pairwise R (removed id q) → Pairwise R (removed id (e ∷ q))
      go true k below = rw (removed_same e q k) below
      go false k below = rw (removed_other e q k) (add (all_removed q h) below)

  pub length_removed : (q : List Entry) → length (removed id q) ≤ length q
  length_removed [] = rw removed_none (omega arith)
  length_removed (e ∷ q) = go (eqb id e.id) refl (length_removed q)
    where
      go : (b : Bool) → eqb id e.id ≡ b → length (removed id q) ≤ length q → length (removed id (e ∷ q)) ≤ suc (length q)
      go true k below = rw (removed_same e q k) (omega arith)
      go false k below = rw (removed_other e q k) (omega arith)

  pub removed_around : (ahead : List Entry) (e : Entry) (behind : List Entry) → eqb id e.id ≡ false → removed id (ahead ++ e ∷ behind) ≡ removed id ahead ++ e ∷ removed id behind
  removed_around [] e behind h = removed_other e behind h ∙ ap (λ (l : List Entry). l ++ e ∷ removed id behind) (sym removed_none)
  removed_around (x ∷ ahead) e behind h = go (eqb id x.id) refl (removed_around ahead e behind h)
    where
      go : (b : Bool) → eqb id x.id ≡ b → removed id (ahead ++ e ∷ behind) ≡ removed id ahead ++ e ∷ removed id behind
          → removed id (x ∷ ahead ++ e ∷ behind) ≡ removed id (x ∷ ahead) ++ e ∷ removed id behind
      go true k below = rw (removed_same x (ahead ++ e ∷ behind) k, removed_same x ahead k) below
      go false k below = rw (removed_other x (ahead ++ e ∷ behind) k, removed_other x ahead k) (ap (λ (l : List Entry). x ∷ l) below)

  -- nothing is left out where no entry has the id
  removed_absent : (q : List Entry) → All (λ (e : Entry). id ≢ e.id) q → removed id q ≡ q
  removed_absent [] nil = removed_none
  removed_absent (e ∷ q) (cons h hs) = removed_other e q (ne_eqb id e.id h) ∙ ap (λ (l : List Entry). e ∷ l) (removed_absent q hs)

pub removed_one : (ahead behind : List Entry) (e : Entry) → Distinct (ahead ++ e ∷ behind) → removed e.id (ahead ++ e ∷ behind) ≡ ahead ++ behind
removed_one [] behind e (add h d) =
    removed_same e.id e behind (eq-eqb e.id e.id refl) ∙ removed_absent e.id behind (map_all (λ (x : Entry). x.id) behind h)
removed_one (x ∷ ahead) behind e (add h d) =
    let apart : x.id ≢ e.id = all_member (map_all (λ (y : Entry). y.id) (ahead ++ e ∷ behind) h) (Memᴰ.append_right ahead (Memᴰ.head refl)) in
    removed_other e.id x (ahead ++ e ∷ behind) (ne_eqb e.id x.id (λ same. apart (sym same))) ∙ ap (λ (l : List Entry). x ∷ l) (removed_one ahead behind e d)
