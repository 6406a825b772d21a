-- "Take a request exactly when it and those already taken in this turn have a plan": by prefixes of the queue, with `Legal`.
use Rattle.std.specs.Prelude.{◌≡◌, List, [], ◌∷◌, ◌++◌}
use Rattle.requests.specs.declared.Setup.{Setup}
use Rattle.requests.specs.declared.Entry.{Entry}
use Rattle.plans.specs.Legal.{HasPlan}
use Rattle.sessions.specs.Turns.{requests_of, taken, passed, turned}

-- the entry behind the queue q and those taken of q have a plan
abbrev pub FitsBehind : Setup → List Entry → Entry → Type 0
FitsBehind s q e = HasPlan s (requests_of (taken s q ++ e ∷ []))

-- what turns take under a setup
pub record TakingUnder (s : Setup) : Type 0 where
  -- nothing is taken or passed over before the first entry
  pub taken_none : taken s [] ≡ []
  pub passed_none : passed s [] ≡ []
  -- the entry behind q is taken where it fits, and passed over where it does not; those of q stay as they are
  pub taken_fits : (q : List Entry) (e : Entry) → FitsBehind s q e → taken s (q ++ e ∷ []) ≡ taken s q ++ e ∷ []
  pub passed_fits : (q : List Entry) (e : Entry) → FitsBehind s q e → passed s (q ++ e ∷ []) ≡ passed s q
  pub taken_not : (q : List Entry) (e : Entry) → ¬ FitsBehind s q e → taken s (q ++ e ∷ []) ≡ taken s q
  pub passed_not : (q : List Entry) (e : Entry) → ¬ FitsBehind s q e → passed s (q ++ e ∷ []) ≡ passed s q ++ e ∷ []
  -- those taken of the front of a queue begin those taken of the whole
  pub begins : (q rest : List Entry) → (more : List Entry) × (taken s (q ++ rest) ≡ taken s q ++ more)
  -- "Afterwards the queue is the ones passed over, then the taken ones, both in their former order."
  pub afterwards : (q : List Entry) → turned s q ≡ passed s q ++ taken s q

-- under every setup
abbrev pub Taking : Type 0
Taking = (s : Setup) → TakingUnder s
