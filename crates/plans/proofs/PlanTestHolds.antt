-- `hasPlan` says exactly whether some plan is legal, from `first-plan`: what is found is legal, and where nothing is found no plan is. Assumes nothing.
use Rattle.std.specs.Prelude.{Option, None, Some}
use mathlib.Core.Path.{◌≡◌, refl}
use mathlib.Core.List.{List}
use mathlib.Core.Bool.{Bool, true, false}
use Prim.Native.Nat.{ℕ}
use native.Mathlib.Omega.{arith}
use Rattle.requests.specs.declared.Setup.{Setup}
use Rattle.requests.specs.declared.Request.{Request}
use Rattle.plans.specs.declared.Place.{Place}
use Rattle.plans.specs.Legal.{HasPlan}
use Rattle.plans.specs.Search.{first_plan, has_plan_lem}
use Rattle.plans.specs.PlanTest.{PlanTest}
use Rattle.plans.proofs.FirstFound.{first_plan_lem}

-- the test's answer with what it says
data Says (s : Setup) (rs : List Request) : Bool → Type 0 where
  some_plan : HasPlan s rs → Says s rs true
  no_plan : ¬ HasPlan s rs → Says s rs false

says : (s : Setup) (rs : List Request) → Says s rs (has_plan_lem s rs)
unfolding has_plan_lem
says s rs = go (first_plan s rs) refl
  where
    go : (o : Option (List Place)) → first_plan s rs ≡ o → Says s rs (has_plan_lem s rs)
    go None e = rw e (no_plan (first_plan_lem.complete s rs e))
    go (Some ps) e = rw e (some_plan (ps, (first_plan_lem.sound s rs ps e).legal))

module _ (s : Setup) (rs : List Request) where
  planned : {b : Bool} → Says s rs b → HasPlan s rs → b ≡ true
  planned (some_plan p) h = refl
  planned (no_plan n) h = absurd (n h)

  unplanned : {b : Bool} → Says s rs b → ¬ HasPlan s rs → b ≡ false
  unplanned (some_plan p) h = absurd (h p)
  unplanned (no_plan n) h = refl

  has_plan : {b : Bool} → Says s rs b → b ≡ true → HasPlan s rs
  has_plan (some_plan p) e = p
  has_plan (no_plan n) e = let z : ◌≡◌ {A = ℕ} 0 1 = cc in absurd (omega arith)

  has_no_plan : {b : Bool} → Says s rs b → b ≡ false → ¬ HasPlan s rs
  has_no_plan (some_plan p) e = let z : ◌≡◌ {A = ℕ} 0 1 = cc in absurd (omega arith)
  has_no_plan (no_plan n) e = n

pub plan_test : PlanTest
plan_test = record {
  planned = λ s rs. planned s rs (says s rs);
  has_plan = λ s rs. has_plan s rs (says s rs);
  unplanned = λ s rs. unplanned s rs (says s rs);
  has_no_plan = λ s rs. has_no_plan s rs (says s rs);
}
