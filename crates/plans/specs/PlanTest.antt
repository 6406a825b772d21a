-- Demand 2, whether there is a plan: `hasPlan` is true exactly where some plan is legal, and false exactly where none is.
use Rattle.std.specs.Prelude.{◌≡◌, List, true, false}
use Rattle.requests.specs.declared.Setup.{Setup}
use Rattle.requests.specs.declared.Request.{Request}
use Rattle.plans.specs.Legal.{HasPlan}
use Rattle.plans.specs.Search.{has_plan_lem}

pub record PlanTest : Type 0 where
  pub planned : (s : Setup) (rs : List Request) → HasPlan s rs → has_plan_lem s rs ≡ true
  pub has_plan : (s : Setup) (rs : List Request) → has_plan_lem s rs ≡ true → HasPlan s rs
  pub unplanned : (s : Setup) (rs : List Request) → ¬ HasPlan s rs → has_plan_lem s rs ≡ false
  pub has_no_plan : (s : Setup) (rs : List Request) → has_plan_lem s rs ≡ false → ¬ HasPlan s rs
