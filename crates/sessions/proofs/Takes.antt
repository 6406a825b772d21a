-- What a turn takes, by prefixes of the queue. Assumes nothing.
--     taken-append, passed-append   the choice over two parts of a queue, one after the other
--     taking                        so `Taking` holds
use mathlib.Core.Path.{◌≡◌, refl, ap, sym, ◌∙◌}
use mathlib.Core.List.{List, [], ◌∷◌, ◌++◌, append_assoc, append-nil}
use mathlib.Core.Bool.{Bool, true, false}
use Rattle.requests.specs.declared.Entry.{Entry}
use Rattle.plans.proofs.PlanTestHolds.{plan_test}
use Rattle.sessions.specs.Choose.{taken_after, passed_after}
use Rattle.sessions.specs.Turns.{fits, taken, passed, turned}
use Rattle.sessions.specs.Taking.{Taking}

module _ {A : Type 0} (test : List A → Bool) where
  pub taken_none : (done : List A) → taken_after test done [] ≡ []
  unfolding taken_after
  taken_none done = refl

  pub passed_none : (done : List A) → passed_after test done [] ≡ []
  unfolding passed_after
  passed_none done = refl

  pub taken_yes : (done : List A) (e : A) (rest : List A) → test (done ++ e ∷ []) ≡ true → taken_after test done (e ∷ rest) ≡ e ∷ taken_after test (done ++ e ∷ []) rest
  unfolding taken_after
  taken_yes done e rest h = rw (h, taken_after)

  pub taken_no : (done : List A) (e : A) (rest : List A) → test (done ++ e ∷ []) ≡ false → taken_after test done (e ∷ rest) ≡ taken_after test done rest
  unfolding taken_after
  taken_no done e rest h = rw (h, taken_after)

  pub passed_yes : (done : List A) (e : A) (rest : List A) → test (done ++ e ∷ []) ≡ true → passed_after test done (e ∷ rest) ≡ passed_after test (done ++ e ∷ []) rest
  unfolding passed_after
  passed_yes done e rest h = rw (h, passed_after)

  pub passed_no : (done : List A) (e : A) (rest : List A) → test (done ++ e ∷ []) ≡ false → passed_after test done (e ∷ rest) ≡ e ∷ passed_after test done rest
  unfolding passed_after
  passed_no done e rest h = rw (h, passed_after)

  -- a choice over two parts of a queue, one after the other, which takes `yes` of an entry that passes the test and `no` of another
  module _ (chosen : List A → List A → List A) (yes no : A → List A) (Chosen-none : (done : List A) → chosen done [] ≡ [])
      (chosen-yes : (done : List A) (e : A) (rest : List A) → test (done ++ e ∷ []) ≡ true → chosen done (e ∷ rest) ≡ yes e ++ chosen (done ++ e ∷ []) rest)
      (chosen-no : (done : List A) (e : A) (rest : List A) → test (done ++ e ∷ []) ≡ false → chosen done (e ∷ rest) ≡ no e ++ chosen done rest) where
    chosen_append : (done q rest : List A) → chosen done (q ++ rest) ≡ chosen done q ++ chosen (done ++ taken_after test done q) rest
    chosen_append done [] rest = rw (Chosen-none done, taken_none done, append-nil)
    chosen_append done (e ∷ q) rest = go (test (done ++ e ∷ [])) refl (λ d. chosen_append d q rest)
      where
        go : (b : Bool) → test (done ++ e ∷ []) ≡ b
            → ((d : List A) → chosen d (q ++ rest) ≡ chosen d q ++ chosen (d ++ taken_after test d q) rest)
            → chosen done (e ∷ q ++ rest) ≡ chosen done (e ∷ q) ++ chosen (done ++ taken_after test done (e ∷ q)) rest
        go true h below =
            rw (chosen-yes done e (q ++ rest) h, chosen-yes done e q h, taken_yes done e q h, below (done ++ e ∷ []), append_assoc done (e ∷ []) (taken_after test (done ++ e ∷ []) q))
            (sym (append_assoc (yes e) _ _))
        go false h below = rw (chosen-no done e (q ++ rest) h, chosen-no done e q h, taken_no done e q h, below done) (sym (append_assoc (no e) _ _))

  pub taken_append : (done q rest : List A) → taken_after test done (q ++ rest) ≡ taken_after test done q ++ taken_after test (done ++ taken_after test done q) rest
  taken_append = chosen_append (taken_after test) (λ e. e ∷ []) (λ e. []) taken_none taken_yes taken_no

  pub passed_append : (done q rest : List A) → passed_after test done (q ++ rest) ≡ passed_after test done q ++ passed_after test (done ++ taken_after test done q) rest
  passed_append = chosen_append (passed_after test) (λ e. []) (λ e. e ∷ []) passed_none passed_yes passed_no

pub taking : Taking
unfolding taken passed turned fits taken_after passed_after
taking s = record {
  taken_none = refl;
  passed_none = refl;
  taken_fits = λ q e f. taken_append (fits s) [] q (e ∷ []) ∙ ap (λ (l : List Entry). taken s q ++ l) (taken_yes (fits s) (taken s q) e [] (plan_test.planned s _ f));
  passed_fits = λ q e f. passed_append (fits s) [] q (e ∷ []) ∙ ap (λ (l : List Entry). passed s q ++ l) (passed_yes (fits s) (taken s q) e [] (plan_test.planned s _ f)) ∙ append-nil (passed s q);
  taken_not = λ q e f. taken_append (fits s) [] q (e ∷ []) ∙ ap (λ (l : List Entry). taken s q ++ l) (taken_no (fits s) (taken s q) e [] (plan_test.unplanned s _ f)) ∙ append-nil (taken s q);
  passed_not = λ q e f. passed_append (fits s) [] q (e ∷ []) ∙ ap (λ (l : List Entry). passed s q ++ l) (passed_no (fits s) (taken s q) e [] (plan_test.unplanned s _ f));
  begins = λ q rest. (taken_after (fits s) (taken s q) rest, taken_append (fits s) [] q rest);
  afterwards = λ q. refl;
}
