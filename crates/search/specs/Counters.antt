-- Counters taken from the free ones, and what a plan asks of a setup: its device and its usable counters.
use Rattle.std.specs.Prelude.{Bool, true, false, ◌≡◌, ℕ, ◌-◌, ◌^◌, ◌<◌, ◌≤◌}
use Rattle.requests.specs.declared.CounterSet.{CounterSet}
use Rattle.requests.specs.Choice.{both}
use Rattle.requests.specs.Askings.{unasked}
use Rattle.requests.specs.Devices.{has}
use Rattle.requests.specs.declared.Device.{Device}
use Rattle.requests.specs.declared.Setup.{Setup}

-- a setup of the device with these usable counters
abbrev pub with_counters : Device → CounterSet → Setup
with_counters d usable = record { device = d; usable = usable; fixed = 0; overflow = unasked }

-- whether counter k is allowed and free
unfoldable pub available : CounterSet → CounterSet → ℕ → Bool
available allowed free k = both (has allowed k) (has free k)

-- the set without counter k
abbrev pub without : CounterSet → ℕ → CounterSet
without set k = record { 0 = set.0 - 2 ^ k }

-- r is the least counter of the set from k on, or, where there is none, past every set of 64 bits
pub record NextIn (set : CounterSet) (k r : ℕ) : Type 0 where
  pub not_before : k ≤ r
  pub none_between : (i : ℕ) → k ≤ i → i < r → has set i ≡ false
  pub there : r < 64 → has set r ≡ true

-- k is the least counter of the set, and `left` has the others
pub record Least (set : CounterSet) (k : ℕ) (left : CounterSet) : Type 0 where
  pub there : has set k ≡ true
  pub next : NextIn set 0 k
  pub others : left ≡ without set k
