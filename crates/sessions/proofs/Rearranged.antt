-- A turn only rearranges the queue. Assumes nothing.
--     all-turned, pairwise-turned, length-turned    what holds of all entries, or of all pairs of them, and their number, is kept
use mathlib.Core.Path.{◌≡◌, refl, ap}
use mathlib.Core.List.{List, [], ◌∷◌, ◌++◌}
use mathlib.Core.Bool.{Bool, true, false}
use Prim.Native.Nat.{suc}
use native.Mathlib.Omega.{arith}
use lib.ListN.{length, length-append}
use Rattle.plans.specs.Lists.{All, nil, cons, Pairwise, empty, add}
use Rattle.sessions.specs.Choose.{taken_after, passed_after}
use Rattle.sessions.proofs.Lists.{all_middle, pairwise_middle}
use Rattle.sessions.proofs.Takes.{taken_none, passed_none, taken_yes, taken_no, passed_yes, passed_no}

module _ {A : Type 0} (test : List A → Bool) where
  pub all_turned : {P : A → Type 0} (done q : List A) → All P q → All P (passed_after test done q ++ taken_after test done q)
  all_turned done [] nil = rw (passed_none test done, taken_none test done) nil
  all_turned {P} done (e ∷ q) (cons h p) = go (test (done ++ e ∷ [])) refl (λ d. all_turned d q p)
    where
      go : (b : Bool) → test (done ++ e ∷ []) ≡ b → ((d : List A) → All P (passed_after test d q ++ taken_after test d q))
          → All P (passed_after test done (e ∷ q) ++ taken_after test done (e ∷ q))
      go true k below = rw (passed_yes test done e q k, taken_yes test done e q k) (all_middle (passed_after test (done ++ e ∷ []) q) (taken_after test (done ++ e ∷ []) q) (below (done ++ e ∷ [])) h)
      go false k below = rw (passed_no test done e q k, taken_no test done e q k) (cons h (below done))

  pub pairwise_turned : {R : A → A → Type 0} → ((a b : A) → R a b → R b a) → (done q : List A) → Pairwise R q → Pairwise R (passed_after test done q ++ taken_after test done q)
  pairwise_turned symmetric done [] empty = rw (passed_none test done, taken_none test done) empty
  pairwise_turned {R} symmetric done (e ∷ q) (add h p) = go (test (done ++ e ∷ [])) refl (λ d. pairwise_turned symmetric d q p)
    where
      go : (b : Bool) → test (done ++ e ∷ []) ≡ b → ((d : List A) → Pairwise R (passed_after test d q ++ taken_after test d q))
          → Pairwise R (passed_after test done (e ∷ q) ++ taken_after test done (e ∷ q))
      go true k below =
          rw (passed_yes test done e q k, taken_yes test done e q k)
          (pairwise_middle symmetric (passed_after test (done ++ e ∷ []) q) (taken_after test (done ++ e ∷ []) q) (all_turned (done ++ e ∷ []) q h) (below (done ++ e ∷ [])))
      go false k below = rw (passed_no test done e q k, taken_no test done e q k) (add (all_turned done q h) (below done))

  pub length_turned : (done q : List A) → length (passed_after test done q ++ taken_after test done q) ≡ length q
  length_turned done [] = rw (passed_none test done, taken_none test done)
  length_turned done (e ∷ q) = go (test (done ++ e ∷ [])) refl (λ d. length_turned d q)
    where
      go : (b : Bool) → test (done ++ e ∷ []) ≡ b → ((d : List A) → length (passed_after test d q ++ taken_after test d q) ≡ length q)
          → length (passed_after test done (e ∷ q) ++ taken_after test done (e ∷ q)) ≡ suc (length q)
      go true k below =
          let d : List A = done ++ e ∷ [] in
          rw (passed_yes test done e q k, taken_yes test done e q k)
          (omega (arith, below d, length-append (passed_after test d q) (taken_after test d q), length-append (passed_after test d q) (e ∷ taken_after test d q)))
      go false k below = rw (passed_no test done e q k, taken_no test done e q k) (ap suc (below done))
