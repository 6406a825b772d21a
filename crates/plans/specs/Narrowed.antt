-- Order 12: what the rules of events make of requests before they are searched. Each request keeps the counters on which it may run, and a request
-- that wants every other counter quiet is let through only where they are.
use Rattle.std.specs.Prelude.{List, [], ◌∷◌, Bool, false, not, ℕ, ◌^◌, eqb, length}
use Rattle.requests.specs.declared.CounterSet.{CounterSet}
use Rattle.requests.specs.declared.Device.{Device}
use Rattle.requests.specs.declared.EventRule.{EventRule}
use Rattle.requests.specs.declared.EventRule.TheVariants.{Anywhere, OnlyOn, AloneOn}
use Rattle.requests.specs.declared.Request.{Request}
use Rattle.requests.specs.declared.Request.TheVariants.{Event, Packet, Offcore, Latency}
use Rattle.requests.specs.declared.Setup.{Setup}
use Rattle.requests.specs.Choice.{both, either, pick}
use Rattle.requests.specs.Devices.{has, all_counters}
use Rattle.requests.specs.EventRules.{rule_of, rule_for, wants_quiet}

-- counter k alone, where the set has it
unfoldable pub only_counter : ℕ → CounterSet → CounterSet
only_counter k a = record { 0 = pick (has a k) (2 ^ k) 0 }

-- the allowed counters on which the rule lets an event run
unfoldable pub allowed_by : EventRule → CounterSet → CounterSet
allowed_by Anywhere a = a
allowed_by (OnlyOn k) a = only_counter k a
allowed_by (AloneOn k) a = only_counter k a

-- the request with those
unfoldable pub narrowed : Device → Request → Request
narrowed d (Event c m a) = Event c m (allowed_by (rule_of d c m) a)
narrowed d (Packet x y a) = Packet x y a
narrowed d (Offcore w a) = Offcore w a
narrowed d (Latency t a b) = Latency t a b

-- whether one of the requests wants every other counter quiet
unfoldable pub any_lone : Device → List Request → Bool
any_lone d [] = false
any_lone d (r ∷ rs) = either (wants_quiet (rule_for d r)) (any_lone d rs)

-- whether every other counter is quiet where one wants it: it is the only request, and all counters are usable
unfoldable pub quiet_kept : Setup → List Request → Bool
quiet_kept s rs = either (not (any_lone s.device rs)) (both (eqb (length rs) 1) (eqb s.usable.0 (all_counters s.device)))
