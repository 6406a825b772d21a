-- Where in the queue those stand that a turn takes. Assumes nothing.
use mathlib.Core.Path.{◌≡◌, refl, ap, sym, ◌∙◌}
use mathlib.Core.List.{List, [], ◌∷◌, ◌++◌, append_assoc}
use mathlib.Core.Bool.{Bool, true, false}
use Prim.Native.Nat.{ℕ, suc, ◌+◌}
use native.Mathlib.Omega.{arith}
use lib.ListN.{length}
use Rattle.requests.specs.declared.Setup.{Setup}
use Rattle.requests.specs.declared.Entry.{Entry}
use Rattle.plans.specs.Legal.{HasPlan}
use Rattle.plans.proofs.PlanTestHolds.{plan_test}
use Rattle.sessions.specs.Choose.{taken_after}
use Rattle.sessions.specs.Turns.{requests_of, fits, taken}
use Rattle.sessions.proofs.Takes.{taken_yes, taken_no}
use Rattle.lent_planner.specs.Choices.{marks_after, marks}

module _ (s : Setup) where
  pub marks_yes : (i : ℕ) (done : List Entry) (e : Entry) (rest : List Entry) → fits s (done ++ e ∷ []) ≡ true → marks_after s i done (e ∷ rest) ≡ i ∷ marks_after s (i + 1)
      (done ++ e ∷ []) rest
  unfolding marks_after
  marks_yes i done e rest h = rw (h, marks_after)

  pub marks_no : (i : ℕ) (done : List Entry) (e : Entry) (rest : List Entry) → fits s (done ++ e ∷ []) ≡ false → marks_after s i done (e ∷ rest) ≡ marks_after s (i + 1) done rest
  unfolding marks_after
  marks_no i done e rest h = rw (h, marks_after)

  pub marks_nothing : (i : ℕ) (done : List Entry) → marks_after s i done [] ≡ []
  unfolding marks_after
  marks_nothing i done = refl

  taken_nothing : (done : List Entry) → taken_after (fits s) done [] ≡ []
  unfolding taken_after
  taken_nothing done = refl

  last_yes : (i : ℕ) (done : List Entry) (e : Entry) → fits s (done ++ (taken_after (fits s) done [] ++ e ∷ [])) ≡ true → marks_after s i done (e ∷ []) ≡ marks_after s i done [] ++ (i + 0) ∷ []
  last_yes i done e h =
      let f : fits s (done ++ e ∷ []) ≡ true = ap (λ (l : List Entry). fits s (done ++ (l ++ e ∷ []))) (sym (taken_nothing done)) ∙ h in
      let same : i ≡ i + 0 = omega arith in
      marks_yes i done e [] f ∙ ap (λ (l : List ℕ). i ∷ l) (marks_nothing (i + 1) (done ++ e ∷ [])) ∙ ap (λ (m : ℕ). m ∷ []) same
      ∙ ap (λ (l : List ℕ). l ++ (i + 0) ∷ []) (sym (marks_nothing i done))

  last_no : (i : ℕ) (done : List Entry) (e : Entry) → fits s (done ++ (taken_after (fits s) done [] ++ e ∷ [])) ≡ false → marks_after s i done (e ∷ []) ≡ marks_after s i done []
  last_no i done e h =
      let f : fits s (done ++ e ∷ []) ≡ false = ap (λ (l : List Entry). fits s (done ++ (l ++ e ∷ []))) (sym (taken_nothing done)) ∙ h in
      marks_no i done e [] f ∙ marks_nothing (i + 1) done ∙ sym (marks_nothing i done)

  -- one record behind the queue
  behind_yes : (i : ℕ) (done q : List Entry) (e : Entry) → fits s (done ++ (taken_after (fits s) done q ++ e ∷ [])) ≡ true → marks_after s i done (q ++ e ∷ []) ≡ marks_after
      s i done q ++ (i + length q) ∷ []
  behind_yes i done [] e h = last_yes i done e h
  behind_yes i done (x ∷ q) e h = go (fits s (done ++ x ∷ [])) refl (λ d y. behind_yes (i + 1) d q y)
    where
      further : (k : ℕ) → i + 1 + k ≡ i + suc k
      further k = omega arith

      go : (b : Bool) → fits s (done ++ x ∷ []) ≡ b
          → ((d : List Entry) (y : Entry) → fits s (d ++ (taken_after (fits s) d q ++ y ∷ [])) ≡ true → marks_after s (i + 1) d (q ++ y ∷ []) ≡ marks_after s (i + 1) d q ++
          (i + 1 + length q) ∷ [])
          → marks_after s i done (x ∷ q ++ e ∷ []) ≡ marks_after s i done (x ∷ q) ++ (i + suc (length q)) ∷ []
      go true k below =
          let f : fits s ((done ++ x ∷ []) ++ (taken_after (fits s) (done ++ x ∷ []) q ++ e ∷ [])) ≡ true =
          ap (fits s) (append_assoc done (x ∷ []) (taken_after (fits s) (done ++ x ∷ []) q ++ e ∷ [])) ∙ ap (λ (l : List Entry). fits s (done ++ (l ++ e ∷ [])))
          (sym (taken_yes (fits s) done x q k)) ∙ h in
          marks_yes i done x (q ++ e ∷ []) k
          ∙ ap (λ (l : List ℕ). i ∷ l) (below (done ++ x ∷ []) e f ∙ ap (λ (m : ℕ). marks_after s (i + 1) (done ++ x ∷ []) q ++ m ∷ []) (further (length q)))
          ∙ ap (λ (l : List ℕ). l ++ (i + suc (length q)) ∷ []) (sym (marks_yes i done x q k))
      go false k below =
          let f : fits s (done ++ (taken_after (fits s) done q ++ e ∷ [])) ≡ true = ap (λ (l : List Entry). fits s (done ++ (l ++ e ∷ []))) (sym (taken_no (fits s) done x q k)) ∙ h in
          marks_no i done x (q ++ e ∷ []) k
          ∙ below done e f
          ∙ ap (λ (m : ℕ). marks_after s (i + 1) done q ++ m ∷ []) (further (length q))
          ∙ ap (λ (l : List ℕ). l ++ (i + suc (length q)) ∷ []) (sym (marks_no i done x q k))

  behind_no : (i : ℕ) (done q : List Entry) (e : Entry) → fits s (done ++ (taken_after (fits s) done q ++ e ∷ [])) ≡ false → marks_after s i done (q ++ e ∷ []) ≡ marks_after s i done q
  behind_no i done [] e h = last_no i done e h
  behind_no i done (x ∷ q) e h = go (fits s (done ++ x ∷ [])) refl (λ d y. behind_no (i + 1) d q y)
    where
      go : (b : Bool) → fits s (done ++ x ∷ []) ≡ b
          → ((d : List Entry) (y : Entry) → fits s (d ++ (taken_after (fits s) d q ++ y ∷ [])) ≡ false → marks_after s (i + 1) d (q ++ y ∷ []) ≡ marks_after s (i + 1) d q)
          → marks_after s i done (x ∷ q ++ e ∷ []) ≡ marks_after s i done (x ∷ q)
      go true k below =
          let f : fits s ((done ++ x ∷ []) ++ (taken_after (fits s) (done ++ x ∷ []) q ++ e ∷ [])) ≡ false =
          ap (fits s) (append_assoc done (x ∷ []) (taken_after (fits s) (done ++ x ∷ []) q ++ e ∷ [])) ∙ ap (λ (l : List Entry). fits s (done ++ (l ++ e ∷ [])))
          (sym (taken_yes (fits s) done x q k)) ∙ h in
          marks_yes i done x (q ++ e ∷ []) k ∙ ap (λ (l : List ℕ). i ∷ l) (below (done ++ x ∷ []) e f) ∙ sym (marks_yes i done x q k)
      go false k below =
          let f : fits s (done ++ (taken_after (fits s) done q ++ e ∷ [])) ≡ false = ap (λ (l : List Entry). fits s (done ++ (l ++ e ∷ []))) (sym (taken_no (fits s) done x q k)) ∙ h in
          marks_no i done x (q ++ e ∷ []) k ∙ below done e f ∙ sym (marks_no i done x q k)

  pub marks_takes : (q : List Entry) (e : Entry) → HasPlan s (requests_of (taken s q ++ e ∷ [])) → marks s (q ++ e ∷ []) ≡ marks s q ++ length q ∷ []
  unfolding marks taken fits
  marks_takes q e h = behind_yes 0 [] q e (plan_test.planned s (requests_of (taken_after (fits s) [] q ++ e ∷ [])) h) ∙ ap (λ (m : ℕ). marks_after s 0 [] q ++ m ∷ []) (zero_plus (length q))
    where
      zero_plus : (n : ℕ) → 0 + n ≡ n
      zero_plus n = omega arith

  pub marks_passes : (q : List Entry) (e : Entry) → ¬ HasPlan s (requests_of (taken s q ++ e ∷ [])) → marks s (q ++ e ∷ []) ≡ marks s q
  unfolding marks taken fits
  marks_passes q e h = behind_no 0 [] q e (plan_test.unplanned s (requests_of (taken_after (fits s) [] q ++ e ∷ [])) h)

  length_marks : (i : ℕ) (done q : List Entry) → length (marks_after s i done q) ≡ length (taken_after (fits s) done q)
  length_marks i done [] = ap length (marks_nothing i done) ∙ sym (ap length (taken_nothing done))
  length_marks i done (e ∷ q) = go (fits s (done ++ e ∷ [])) refl (λ d. length_marks (i + 1) d q)
    where
      go : (b : Bool) → fits s (done ++ e ∷ []) ≡ b → ((d : List Entry) → length (marks_after s (i + 1) d q) ≡ length (taken_after (fits s) d q)) → length
          (marks_after s i done (e ∷ q)) ≡ length (taken_after (fits s) done (e ∷ q))
      go true k below = ap length (marks_yes i done e q k) ∙ ap suc (below (done ++ e ∷ [])) ∙ sym (ap length (taken_yes (fits s) done e q k))
      go false k below = ap length (marks_no i done e q k) ∙ below done ∙ sym (ap length (taken_no (fits s) done e q k))

  pub marks_count : (q : List Entry) → length (marks s q) ≡ length (taken s q)
  unfolding marks taken
  marks_count q = length_marks 0 [] q
