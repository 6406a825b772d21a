-- The counters that a plan leaves free, and the counter of an event behind it.
use Rattle.std.specs.Prelude.{◌≡◌, ◌≢◌, List, Bool, true, false, not, ℕ}
use Rattle.requests.specs.declared.CounterSet.{CounterSet}
use Rattle.requests.specs.declared.Device.{Device}
use Rattle.requests.specs.declared.EventRule.{EventRule}
use Rattle.requests.specs.declared.EventRule.TheVariants.{Anywhere, OnlyOn, AloneOn}
use Rattle.requests.specs.declared.Setup.{Setup}
use Rattle.requests.specs.declared.Request.{Request}
use Rattle.requests.specs.declared.Request.TheVariants.{Event}
use Rattle.requests.specs.Choice.{both}
use Rattle.requests.specs.Devices.{has}
use Rattle.requests.specs.EventRules.{rule_of}
use Rattle.plans.specs.declared.Place.{Place}
use Rattle.plans.specs.Lists.{All}
use Rattle.plans.specs.Legal.{Usable}
use Rattle.plans.specs.Extends.{Unused, LeastUnused, MayFollow}
use Rattle.plans.specs.Narrowed.{any_lone}
use Rattle.plans.specs.Packed.{places_from}

-- r is the set without these counters
pub record Without (set : CounterSet) (ks : List ℕ) (r : CounterSet) : Type 0 where
  pub inside : (i : ℕ) → has r i ≡ true → has set i ≡ true
  pub away : (i : ℕ) → has r i ≡ true → All (λ (j : ℕ). i ≢ j) ks
  pub rest : (i : ℕ) → has set i ≡ true → All (λ (j : ℕ). i ≢ j) ks → has r i ≡ true

-- r has the usable counters that the plan does not use
pub record LeftFree (s : Setup) (ps : List Place) (r : CounterSet) : Type 0 where
  pub unused : (i : ℕ) → has r i ≡ true → Unused s ps i
  pub all : (i : ℕ) → Unused s ps i → has r i ≡ true

-- whether the rule lets an event run on every counter
unfoldable pub is_anywhere : EventRule → Bool
is_anywhere Anywhere = true
is_anywhere (OnlyOn k) = false
is_anywhere (AloneOn k) = false

-- whether an event may run on every counter, and beside each of these requests
unfoldable pub may_follow : Device → List Request → ℕ → ℕ → Bool
may_follow d rs c m = both (is_anywhere (rule_of d c m)) (not (any_lone d rs))

-- the request is an event that may follow these, and k its counter behind their packed plan
pub data Beside (s : Setup) (rs : List Request) (code : ℕ) : Request → ℕ → Type 0 where
  event : {c m : ℕ} {a : CounterSet} {k : ℕ} → MayFollow s rs (Event c m a) → LeastUnused s a (places_from code 0 rs) k → Beside s rs code (Event c m a) k

-- some allowed counter is usable
abbrev pub AnyUsable : Setup → CounterSet → Type 0
AnyUsable s a = (k : ℕ) × (has a k ≡ true) × Usable s k
