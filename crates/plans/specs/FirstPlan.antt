-- Demand 2, the plan: `firstPlan` gives the first legal plan where there is one, and none where no plan is legal.
use Rattle.std.specs.Prelude.{◌≡◌, List, None, Some}
use Rattle.requests.specs.declared.Setup.{Setup}
use Rattle.requests.specs.declared.Request.{Request}
use Rattle.plans.specs.Legal.{HasPlan}
use Rattle.plans.specs.Order.{Before, First}
use Rattle.plans.specs.Search.{first_plan}
use Rattle.plans.specs.declared.Place.{Place}

pub record FirstPlan : Type 0 where
  -- what is found is legal and the first in the order
  pub sound : (s : Setup) (rs : List Request) (ps : List Place) → first_plan s rs ≡ Some ps → First s rs ps
  -- where nothing is found, no plan is legal
  pub complete : (s : Setup) (rs : List Request) → first_plan s rs ≡ None → ¬ HasPlan s rs
  -- the order is strict, so that the first legal plan is one alone
  pub irreflexive : (ps : List Place) → ¬ Before ps ps
  pub transitive : (ps qs os : List Place) → Before ps qs → Before qs os → Before ps os
  pub only : (s : Setup) (rs : List Request) (ps qs : List Place) → First s rs ps → First s rs qs → ps ≡ qs
