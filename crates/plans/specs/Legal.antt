-- Document 01's legal plans, in its words, and order 12's for the events of B. Nothing here names the search.
use Rattle.std.specs.Prelude.{◌≡◌, ◌≢◌, true, ℕ, ◌<◌, eqb}
use mathlib.Core.List.{List, [], ◌∷◌, ◌++◌, flat_map, Memᴰ}
use Rattle.requests.specs.declared.CounterSet.{CounterSet}
use Rattle.requests.specs.declared.Device.{Device}
use Rattle.requests.specs.declared.Setup.{Setup}
use Rattle.requests.specs.declared.Request.{Request}
use Rattle.requests.specs.declared.Request.TheVariants.{Event, Packet, Offcore, Latency}
use Rattle.requests.specs.Choice.{pick}
use Rattle.requests.specs.Bits.{latency_word}
use Rattle.requests.specs.Devices.{has, counter_count, all_counters}
use Rattle.requests.specs.RuledEvents.{RunsOn, Lone}
use Rattle.plans.specs.Lists.{All, Pairwise, OneValue, Each}
use Rattle.plans.specs.Places.{counters_of}
use Rattle.plans.specs.declared.Place.{Place}
use Rattle.plans.specs.declared.Place.TheVariants.{Counter, WithRsp, Pair}

-- "each is .. allowed": a place of the request's kind, at counters that the request allows
pub data Allowed : Request → Place → Type 0 where
  event : {c m : ℕ} {a : CounterSet} {k : ℕ} → has a k ≡ true → Allowed (Event c m a) (Counter k)
  packet : {x y : ℕ} {a : CounterSet} {k : ℕ} → has a k ≡ true → Allowed (Packet x y a) (Counter k)
  offcore : {w : ℕ} {a : CounterSet} {k i : ℕ} → has a k ≡ true → i < 2 → Allowed (Offcore w a) (WithRsp k i)
  latency : {t : ℕ} {a b : CounterSet} {j k : ℕ} → has a j ≡ true → has b k ≡ true
      → Allowed (Latency t a b) (Pair j k)

-- "each is usable": a counter of the device, in the usable set
abbrev pub Usable : Setup → ℕ → Type 0
Usable s k = (k < counter_count s.device) × (has s.usable k ≡ true)

-- the words that a request asks of RSP register i
unfoldable pub words_of : ℕ → Request → Place → List ℕ
words_of i (Event c m a) p = []
words_of i (Packet x y a) p = []
words_of i (Offcore w a) (Counter k) = []
words_of i (Offcore w a) (WithRsp k j) = pick (eqb j i) (w ∷ []) []
words_of i (Offcore w a) (Pair j k) = []
words_of i (Latency t a b) p = latency_word i t ∷ []

-- the match and mask words that a request asks for
unfoldable pub packets_of : Request → List (ℕ × ℕ)
packets_of (Event c m a) = []
packets_of (Packet x y a) = (x, y) ∷ []
packets_of (Offcore w a) = []
packets_of (Latency t a b) = []

-- what f gives for each request and its place, joined
unfoldable pub of_all : {A : Type 0} → (Request → Place → List A) → List Request → List Place → List A
of_all f [] ps = []
of_all f (r ∷ rs) [] = []
of_all f (r ∷ rs) (p ∷ ps) = f r p ++ of_all f rs ps

-- a request that runs on one counter has its place there
abbrev pub Ruled : Device → Request → Place → Type 0
Ruled d r p = (k : ℕ) → RunsOn d r k → p ≡ Counter k

-- all counters of a plan
unfoldable pub counters : List Place → List ℕ
counters ps = flat_map counters_of ps

-- document 01: a plan "is legal when"
pub record Legal (s : Setup) (rs : List Request) (ps : List Place) : Type 0 where
  -- "all counters differ"
  pub differ : Pairwise ◌≢◌ (counters ps)
  -- "each is usable"
  pub usable_only : All (Usable s) (counters ps)
  -- "and allowed": each request has a place of its kind, at counters that it allows
  pub allowed : Each Allowed rs ps
  -- "each RSP register holds the one word that all its users asked for"
  pub one_word : (i : ℕ) → i < 2 → OneValue (of_all (words_of i) rs ps)
  -- "all packet requests have equal match and equal mask"
  pub one_packet : OneValue (flat_map packets_of rs)
  -- order 12: "runs on counter 1", "runs on counter 3 only"
  pub ruled : Each (Ruled s.device) rs ps
  -- "A legal plan with the first has no other request in it"
  pub alone : (r : Request) → Memᴰ r rs → Lone s.device r → rs ≡ r ∷ []
  -- "and needs the usable set 15", which is all counters
  pub quiet : (r : Request) → Memᴰ r rs → Lone s.device r → s.usable.0 ≡ all_counters s.device

-- some plan of the requests is legal
abbrev pub HasPlan : Setup → List Request → Type 0
HasPlan s rs = (ps : List Place) × Legal s rs ps
