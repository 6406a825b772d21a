-- The head of every queue that calls have left is taken. Assumes nothing.
--     head-first    a head that has a plan alone is taken
--     head-taken    and every request that waits has one
use mathlib.Core.Path.{◌≡◌}
use mathlib.Core.List.{List, [], ◌∷◌}
use Rattle.requests.specs.declared.Setup.{Setup}
use Rattle.requests.specs.declared.Entry.{Entry}
use Rattle.plans.specs.Lists.{All, cons}
use Rattle.plans.specs.Legal.{HasPlan}
use Rattle.plans.proofs.PlanTestHolds.{plan_test}
use Rattle.sessions.specs.Choose.{taken_after}
use Rattle.sessions.specs.Turns.{requests_of, fits, taken}
use Rattle.sessions.specs.HeadTaken.{HeadTaken}
use Rattle.sessions.proofs.Takes.{taken_yes}
use Rattle.sessions.proofs.SoundKept.{well_formed_lem}

pub head_first : (s : Setup) (head : Entry) (rest : List Entry) → HasPlan s (head.request ∷ []) → (more : List Entry) × (taken s (head ∷ rest) ≡ head ∷ more)
unfolding taken fits requests_of
head_first s head rest p = (taken_after (fits s) (head ∷ []) rest, taken_yes (fits s) [] head rest (plan_test.planned s (head.request ∷ []) p))

pub head_taken : HeadTaken
head_taken limit calls s head rest e = go (well_formed_lem limit calls s (head ∷ rest) e).alone
  where
    go : All (λ (x : Entry). HasPlan s (x.request ∷ [])) (head ∷ rest) → (more : List Entry) × (taken s (head ∷ rest) ≡ head ∷ more)
    go (cons h hs) = head_first s head rest h
