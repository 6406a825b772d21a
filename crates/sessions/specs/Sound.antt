-- A sound open state: what calls keep, and what demand 3 needs.
use Rattle.std.specs.Prelude.{◌≡◌, List, [], ◌∷◌, ℕ, ◌≤◌, length, Some}
use Rattle.requests.specs.declared.Setup.{Setup}
use Rattle.requests.specs.declared.Entry.{Entry}
use Rattle.requests.specs.Devices.{setup_of, opening_of}
use Rattle.requests.specs.Checks.{Formed}
use Rattle.plans.specs.Lists.{All}
use Rattle.plans.specs.Legal.{HasPlan}
use Rattle.sessions.specs.RefusalTable.{IsId}
use Rattle.sessions.specs.DistinctIds.{Distinct}

pub record Sound (limit : ℕ) (s : Setup) (q : List Entry) : Type 0 where
  -- open takes the setup
  pub setup : setup_of (opening_of s) ≡ Some s
  -- at most so many wait
  pub within : length q ≤ limit
  -- under distinct ids 1..65535
  pub distinct : Distinct q
  pub ids : All (λ (e : Entry). IsId e.id) q
  -- each request is well-formed and has a plan alone
  pub formed : All (λ (e : Entry). Formed s e.request) q
  pub alone : All (λ (e : Entry). HasPlan s (e.request ∷ [])) q
