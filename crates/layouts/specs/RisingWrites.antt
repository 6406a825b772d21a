-- "IA32_PERFEVTSELk (0186+k) = 0 for usable k, rising", "IA32_PMCk (00C1+k) = 0 for used k, rising", "PERFEVTSELk for used k, rising", and on S and C "k rising
-- throughout": of two writes of one kind the earlier has the smaller counter. Said of places in the list, and not by how it is made.
use Rattle.std.specs.Prelude.{◌≡◌, ◌≢◌, List, ◌∷◌, ◌++◌, ℕ, ◌<◌}
use Rattle.requests.specs.declared.Device.{Device}
use Rattle.requests.specs.declared.Setup.{Setup}
use Rattle.requests.specs.declared.Request.{Request}
use Rattle.requests.specs.Devices.{counter_count}
use Rattle.plans.specs.declared.Place.{Place}
use Rattle.plans.specs.Legal.{Legal}
use Rattle.layouts.specs.Layout.{control_at, counter_at_lem}
use Rattle.layouts.specs.Writes.{Write, writes}

-- the write clears the select of counter k
abbrev pub Clears : Device → ℕ → Write → Type 0
Clears d k w = (k < counter_count d) × (w.0 ≡ control_at d k) × (w.1 ≡ 0)

-- it gives counter k an event
abbrev pub Selects : Device → ℕ → Write → Type 0
Selects d k w = (k < counter_count d) × (w.0 ≡ control_at d k) × (w.1 ≢ 0)

-- it is to the count of counter k
abbrev pub Counts : Device → ℕ → Write → Type 0
Counts d k w = (k < counter_count d) × (w.0 ≡ counter_at_lem d k)

-- of two writes of the kind, wherever they stand in the list, the earlier has the smaller counter
abbrev pub Rising : (ℕ → Write → Type 0) → List Write → Type 0
Rising Kind ws = (before between after : List Write) (x y : Write) (j k : ℕ) → ws ≡ before ++ x ∷ between ++ y ∷ after → Kind j x → Kind k y → j < k

pub record RisingWrites : Type 0 where
  -- in the list of every legal plan
  pub cleared : (s : Setup) (rs : List Request) (ps : List Place) → Legal s rs ps → Rising (Clears s.device) (writes s rs ps)
  -- and of any places
  pub zeroed : (s : Setup) (rs : List Request) (ps : List Place) → Rising (Counts s.device) (writes s rs ps)
  pub selected : (s : Setup) (rs : List Request) (ps : List Place) → Rising (Selects s.device) (writes s rs ps)
