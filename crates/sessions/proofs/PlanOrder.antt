-- A plan as it is answered, entry by entry. Assumes nothing.
use mathlib.Core.Path.{◌≡◌, refl, ap}
use mathlib.Core.List.{List, [], ◌∷◌, map}
use Prim.Native.Nat.{ℕ}
use Rattle.requests.specs.declared.Entry.{Entry}
use Rattle.plans.specs.declared.Place.{Place}
use Rattle.plans.specs.Lists.{Each, none, and}
use Rattle.plans.specs.Legal.{Allowed}
use Rattle.sessions.specs.Turns.{requests_of, assign}
use Rattle.sessions.specs.PlanOrder.{PlanOrder}
use Rattle.sessions.specs.declared.Assigned.{Assigned}

ids_of : (es : List Entry) (ps : List Place) → Each Allowed (requests_of es) ps → map (λ (a : Assigned). a.id) (assign es ps) ≡ map (λ (e : Entry). e.id) es
unfolding requests_of assign
ids_of [] [] none = refl
ids_of (e ∷ es) (p ∷ ps) (and a each) = ap (λ (l : List ℕ). e.id ∷ l) (ids_of es ps each)
ids_of [] (p ∷ ps) x'' = elim x'' [ ]
ids_of (e ∷ es) [] x3 = elim x3 [ ]

places_of : (es : List Entry) (ps : List Place) → Each Allowed (requests_of es) ps → map (λ (a : Assigned). a.place) (assign es ps) ≡ ps
unfolding requests_of assign
places_of [] [] none = refl
places_of (e ∷ es) (p ∷ ps) (and a each) = ap (λ (l : List Place). p ∷ l) (places_of es ps each)
places_of [] (p ∷ ps) x'' = elim x'' [ ]
places_of (e ∷ es) [] x3 = elim x3 [ ]

pub plan_order : PlanOrder
plan_order = record { ids = λ s es ps legal. ids_of es ps legal.allowed; places = λ s es ps legal. places_of es ps legal.allowed }
