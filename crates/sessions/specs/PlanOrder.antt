-- "in the order taken": a plan as it is answered has the ids of the entries, in their order, and with them the places of the plan, in its order.
use Rattle.std.specs.Prelude.{◌≡◌, List, map}
use Rattle.requests.specs.declared.Setup.{Setup}
use Rattle.requests.specs.declared.Entry.{Entry}
use Rattle.plans.specs.declared.Place.{Place}
use Rattle.plans.specs.Legal.{Legal}
use Rattle.sessions.specs.Turns.{requests_of, assign}
use Rattle.sessions.specs.declared.Assigned.{Assigned}

-- of every legal plan of the entries; `TurnPlan` says which entries and which plan a turn has
pub record PlanOrder : Type 0 where
  pub ids : (s : Setup) (es : List Entry) (ps : List Place) → Legal s (requests_of es) ps → map (λ (a : Assigned). a.id) (assign es ps) ≡ map (λ (e : Entry). e.id) es
  pub places : (s : Setup) (es : List Entry) (ps : List Place) → Legal s (requests_of es) ps → map (λ (a : Assigned). a.place) (assign es ps) ≡ ps
