-- The sets of counters that requests can leave free. They are the bits of one number: bit f stands for the set f, of at most six counters.
-- Where no set is left no plan is legal, and nothing needs to be searched. The converse is not claimed: neither registers nor the
-- rules of events are looked at.
use Rattle.std.specs.Prelude.{◌≡◌, List, [], ◌∷◌, ◌++◌, ℕ, zero, suc, ◌/◌, ◌^◌, ◌<◌, ◌≤◌}
use Rattle.std.specs.Int.Bits.{bit_and, bit_or}
use Rattle.requests.specs.declared.CounterSet.{CounterSet}
use Rattle.requests.specs.declared.Device.{Device}
use Rattle.requests.specs.declared.Setup.{Setup}
use Rattle.requests.specs.declared.Request.{Request}
use Rattle.requests.specs.declared.Request.TheVariants.{Event, Packet, Offcore, Latency}
use Rattle.requests.specs.Choice.{pick}
use Rattle.requests.specs.Bits.{bit}
use Rattle.requests.specs.Devices.{has, counter_count}
use Rattle.plans.specs.Legal.{HasPlan}

-- the sets that have counter k
unfoldable pub sets_with : ℕ → ℕ
sets_with zero = 0xAAAA_AAAA_AAAA_AAAA
sets_with (suc zero) = 0xCCCC_CCCC_CCCC_CCCC
sets_with (suc (suc zero)) = 0xF0F0_F0F0_F0F0_F0F0
sets_with (suc (suc (suc zero))) = 0xFF00_FF00_FF00_FF00
sets_with (suc (suc (suc (suc zero)))) = 0xFFFF_0000_FFFF_0000
sets_with (suc (suc (suc (suc (suc zero))))) = 0xFFFF_FFFF_0000_0000
sets_with (suc (suc (suc (suc (suc (suc k)))))) = 0

-- the sets that are left when counter k is taken from those that have it: the set f becomes f - 2^k
unfoldable pub taking : ℕ → ℕ → ℕ
taking k sets = bit_and sets (sets_with k) / 2 ^ (2 ^ k)

-- the sets that are left when one of the allowed counters below n is taken
unfoldable pub taking_one : ℕ → CounterSet → ℕ → ℕ
taking_one zero a sets = 0
taking_one (suc k) a sets = bit_or (taking_one k a sets) (pick (has a k) (taking k sets) 0)

-- the sets that a request leaves, on n counters
unfoldable pub left_by : ℕ → Request → ℕ → ℕ
left_by n (Event c m a) sets = taking_one n a sets
left_by n (Packet x y a) sets = taking_one n a sets
left_by n (Offcore w a) sets = taking_one n a sets
left_by n (Latency t a b) sets = taking_one n b (taking_one n a sets)

-- the sets that requests leave, one after another
unfoldable pub left_from : ℕ → ℕ → List Request → ℕ
left_from n sets [] = sets
left_from n sets (r ∷ rs) = left_from n (left_by n r sets) rs

-- the sets that they leave of the usable counters
unfoldable pub left_of : Setup → List Request → ℕ
left_of s rs = left_from (counter_count s.device) (2 ^ s.usable.0) rs

pub record Reach : Type 0 where
  -- no device has more counters than there are masks
  pub few : (d : Device) → counter_count d ≤ 6
  -- the mask of a counter has the bits of the sets that the counter is in
  pub masks : (f : CounterSet) (k : ℕ) → f.0 < 64 → k < 6 → bit f.0 (sets_with k) ≡ has f k
  -- one request more
  pub grows : (s : Setup) (rs : List Request) (r : Request) → left_of s (rs ++ r ∷ []) ≡ left_by (counter_count s.device) r (left_of s rs)
  -- where no set is left, no plan is legal
  pub unplanned : (s : Setup) (rs : List Request) → s.usable.0 < 64 → left_of s rs ≡ 0 → ¬ HasPlan s rs
