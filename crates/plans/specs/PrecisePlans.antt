-- Order 12 in its own numbers: which plans the two precise events of B have. "A legal plan with the first has no other request in it and needs the
-- usable set 15"; the second "runs on counter 3 only".
use Rattle.std.specs.Prelude.{◌≡◌, ◌↔◌, true, length}
use mathlib.Core.List.{List, [], ◌∷◌, ◌++◌, Memᴰ}
use Rattle.requests.specs.declared.CounterSet.{CounterSet}
use Rattle.requests.specs.declared.Device.TheVariants.{B}
use Rattle.requests.specs.declared.Setup.{Setup}
use Rattle.requests.specs.declared.Request.{Request}
use Rattle.requests.specs.declared.Request.TheVariants.{Event}
use Rattle.requests.specs.Devices.{has}
use Rattle.plans.specs.declared.Place.{Place}
use Rattle.plans.specs.declared.Place.TheVariants.{Counter}
use Rattle.plans.specs.Legal.{Legal, HasPlan}

pub record PrecisePlans : Type 0 where
  -- a plan with C0/01 is C0/01 on counter 1 and nothing else, in a session with the usable set 15
  pub instructions : (s : Setup) (rs : List Request) (ps : List Place) (a : CounterSet) → s.device ≡ B → Memᴰ (Event 0xC0 0x01 a) rs → Legal s rs ps
      → (s.usable.0 ≡ 15) × (rs ≡ Event 0xC0 0x01 a ∷ []) × (ps ≡ Counter 1 ∷ [])
  -- in a plan with CD/02 that is on counter 3
  pub stores : (s : Setup) (rs qs : List Request) (ps : List Place) (a : CounterSet) → s.device ≡ B → Legal s (rs ++ Event 0xCD 0x02 a ∷ qs) ps
      → (front back : List Place) × (ps ≡ front ++ Counter 3 ∷ back) × (length front ≡ length rs)
  -- which of them have a plan alone: "a session with any other set refuses it with 12", and so where counter 1 is not allowed
  pub instructions_alone : (s : Setup) (a : CounterSet) → s.device ≡ B → HasPlan s (Event 0xC0 0x01 a ∷ []) ↔ ((s.usable.0 ≡ 15) × (has a 1 ≡ true))
  pub stores_alone : (s : Setup) (a : CounterSet) → s.device ≡ B → HasPlan s (Event 0xCD 0x02 a ∷ []) ↔ ((has s.usable 3 ≡ true) × (has a 3 ≡ true))
