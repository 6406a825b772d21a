-- The first plan with one request more: an event or a packet request takes the least counter that it allows and the plan leaves, and the
-- others keep their places. So nothing is searched for it. Where the plan leaves it no counter, nothing is claimed: the others may move. Nor is
-- anything of an event that runs on one counter only, or behind a request that has none beside it.
use Rattle.std.specs.Prelude.{◌≡◌, ◌≢◌, true, ℕ, ◌+◌, ◌*◌, ◌^◌, ◌≤◌, length, Some}
use mathlib.Core.List.{List, [], ◌∷◌, ◌++◌, flat_map}
use Rattle.requests.specs.declared.CounterSet.{CounterSet}
use Rattle.requests.specs.declared.Setup.{Setup}
use Rattle.requests.specs.declared.Request.{Request}
use Rattle.requests.specs.declared.Request.TheVariants.{Event, Packet}
use Rattle.requests.specs.Devices.{has}
use Rattle.requests.specs.RuledEvents.{RunsOn, Lone}
use Rattle.plans.specs.declared.Place.{Place}
use Rattle.plans.specs.declared.Place.TheVariants.{Counter}
use Rattle.plans.specs.Lists.{All, OneValue}
use Rattle.plans.specs.Legal.{Usable, counters, packets_of}
use Rattle.plans.specs.Order.{First}
use Rattle.plans.specs.Search.{first_plan}
use Rattle.plans.specs.Packed.{code_of}

-- the request takes one counter of the set, and no RSP register
pub data OneCounter : Request → CounterSet → Type 0 where
  event : {c m : ℕ} {a : CounterSet} → OneCounter (Event c m a) a
  packet : {x y : ℕ} {a : CounterSet} → OneCounter (Packet x y a) a

-- counter k is usable, and the plan does not use it
abbrev pub Unused : Setup → List Place → ℕ → Type 0
Unused s ps k = Usable s k × All (λ (j : ℕ). k ≢ j) (counters ps)

-- k is the least allowed counter that the plan leaves
pub record LeastUnused (s : Setup) (a : CounterSet) (ps : List Place) (k : ℕ) : Type 0 where
  pub allowed : has a k ≡ true
  pub unused : Unused s ps k
  pub least : (j : ℕ) → has a j ≡ true → Unused s ps j → k ≤ j

-- the request may run on every counter, and beside each of these
pub record MayFollow (s : Setup) (rs : List Request) (r : Request) : Type 0 where
  pub anywhere : (k : ℕ) → ¬ RunsOn s.device r k
  pub beside : All (λ (q : Request). ¬ Lone s.device q) rs

pub record Extends : Type 0 where
  -- the first plan of the requests with one more behind them
  pub first : (s : Setup) (rs : List Request) (r : Request) (a : CounterSet) (ps : List Place) (k : ℕ) → OneCounter r a → MayFollow s rs r
      → OneValue (flat_map packets_of (rs ++ r ∷ [])) → LeastUnused s a ps k → First s rs ps → First s (rs ++ r ∷ []) (ps ++ Counter k ∷ [])
  -- so an event, which asks for no match and mask
  pub event : (s : Setup) (rs : List Request) (c m : ℕ) (a : CounterSet) (ps : List Place) (k : ℕ) → MayFollow s rs (Event c m a)
      → LeastUnused s a ps k → first_plan s rs ≡ Some ps → first_plan s (rs ++ Event c m a ∷ []) ≡ Some (ps ++ Counter k ∷ [])
  -- its number has six bits more, below the bit 1
  pub number : (ps : List Place) (k : ℕ) → code_of (ps ++ Counter k ∷ []) ≡ code_of ps + (63 + k * 8) * 2 ^ (6 * length ps)
