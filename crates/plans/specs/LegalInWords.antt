-- Document 01: a plan "is legal when all counters differ, each is usable and allowed, each RSP register holds the one word that all its users asked
-- for, and all packet requests have equal match and equal mask"; order 12: the two rules of B. Said again of requests one by one and two by two,
-- with sets as numbers, so that neither a stricter `Legal` nor a laxer one is equivalent to it.
use Rattle.std.specs.Prelude.{◌≡◌, ◌≢◌, ◌⊎◌, ◌↔◌, List, [], ◌∷◌, ℕ, zero, suc, ◌+◌, ◌/◌, ◌%◌, ◌^◌, ◌<◌, length}
use Rattle.requests.specs.declared.CounterSet.{CounterSet}
use Rattle.requests.specs.declared.Device.{Device}
use Rattle.requests.specs.declared.Device.TheVariants.{G, S, C, B}
use Rattle.requests.specs.declared.Setup.{Setup}
use Rattle.requests.specs.declared.Request.{Request}
use Rattle.requests.specs.declared.Request.TheVariants.{Event, Packet, Offcore, Latency}
use Rattle.plans.specs.Legal.{Legal}
use Rattle.plans.specs.declared.Place.{Place}
use Rattle.plans.specs.declared.Place.TheVariants.{Counter, WithRsp, Pair}

-- request r and its place p stand n-th in their lists, from 0 on
pub data Nth (r : Request) (p : Place) : ℕ → List Request → List Place → Type 0 where
  here : {rs : List Request} {ps : List Place} → Nth r p zero (r ∷ rs) (p ∷ ps)
  later : {n : ℕ} {x : Request} {y : Place} {rs : List Request} {ps : List Place} → Nth r p n rs ps → Nth r p (suc n) (x ∷ rs) (y ∷ ps)

-- k is the counter of the place, or one of its two
abbrev pub Takes : Place → ℕ → Type 0
Takes (Counter j) k = j ≡ k
Takes (WithRsp j i) k = j ≡ k
Takes (Pair i j) k = (i ≡ k) ⊎ (j ≡ k)

-- the set has counter k: bit k of its number
abbrev pub InSet : CounterSet → ℕ → Type 0
InSet a k = a.0 / 2 ^ k % 2 ≡ 1

-- "four" counters, on C six
abbrev pub counters_on : Device → ℕ
counters_on G = 4
counters_on S = 4
counters_on (C b) = 6
counters_on B = 4

-- "its counter (latency: two), and an offcore request RSP0 or RSP1", each counter in the set that the request allows it; for a latency request
-- the first counter in the first set and the second in the second
abbrev pub Fitting : Request → Place → Type 0
Fitting (Event c m a) (Counter k) = InSet a k
Fitting (Event c m a) (WithRsp k i) = ⊥
Fitting (Event c m a) (Pair j k) = ⊥
Fitting (Packet x y a) (Counter k) = InSet a k
Fitting (Packet x y a) (WithRsp k i) = ⊥
Fitting (Packet x y a) (Pair j k) = ⊥
Fitting (Offcore w a) (Counter k) = ⊥
Fitting (Offcore w a) (WithRsp k i) = InSet a k × ((i ≡ 0) ⊎ (i ≡ 1))
Fitting (Offcore w a) (Pair j k) = ⊥
Fitting (Latency t a b) (Counter k) = ⊥
Fitting (Latency t a b) (WithRsp k i) = ⊥
Fitting (Latency t a b) (Pair j k) = InSet a j × InSet b k

-- the request is a user of RSP register i and asks for the word w there; a latency request asks for its type with bit 38 in RSP0, with bit 16 in RSP1
abbrev pub Asks : ℕ → Request → Place → ℕ → Type 0
Asks i (Event c m a) p w = ⊥
Asks i (Packet x y a) p w = ⊥
Asks i (Offcore v a) (Counter k) w = ⊥
Asks i (Offcore v a) (WithRsp k j) w = (j ≡ i) × (w ≡ v)
Asks i (Offcore v a) (Pair j k) w = ⊥
Asks i (Latency t a b) p w = ((i ≡ 0) × (w ≡ t + 0x4000000000)) ⊎ ((i ≡ 1) × (w ≡ t + 0x10000))

-- the sentence
pub record InWords (s : Setup) (rs : List Request) (ps : List Place) : Type 0 where
  -- each request has one place
  pub one_each : length ps ≡ length rs
  -- "all counters differ": a counter is one request's, and the two of a latency request differ
  pub differ : (m n k : ℕ) (r q : Request) (p o : Place) → Nth r p m rs ps → Nth q o n rs ps → Takes p k → Takes o k → m ≡ n
  pub two : (n j k : ℕ) (r : Request) → Nth r (Pair j k) n rs ps → j ≢ k
  -- "each is usable"
  pub usable : (n k : ℕ) (r : Request) (p : Place) → Nth r p n rs ps → Takes p k → (k < counters_on s.device) × InSet s.usable k
  -- "and allowed"
  pub allowed : (n : ℕ) (r : Request) (p : Place) → Nth r p n rs ps → Fitting r p
  -- "each RSP register holds the one word that all its users asked for": two users of one register asked for one word. Nothing is said of two registers
  pub one_word : (i v w m n : ℕ) (r q : Request) (p o : Place) → i < 2 → Nth r p m rs ps → Nth q o n rs ps → Asks i r p v → Asks i q o w → v ≡ w
  -- "all packet requests have equal match and equal mask"
  pub one_packet : (m n x y z u : ℕ) (a b : CounterSet) (p o : Place) → Nth (Packet x y a) p m rs ps → Nth (Packet z u b) o n rs ps → (x ≡ z) × (y ≡ u)
  -- on B C0/01 "runs on counter 1", "has no other request in it", "and needs the usable set 15"
  pub pdir : s.device ≡ B → (n : ℕ) (a : CounterSet) (p : Place) → Nth (Event 0xC0 0x01 a) p n rs ps
      → (p ≡ Counter 1) × (rs ≡ Event 0xC0 0x01 a ∷ []) × (s.usable.0 ≡ 15)
  -- CD/02 "runs on counter 3 only"
  pub stores : s.device ≡ B → (n : ℕ) (a : CounterSet) (p : Place) → Nth (Event 0xCD 0x02 a) p n rs ps → p ≡ Counter 3

-- a set by its number
abbrev set : ℕ → CounterSet
set n = record { 0 = n }

-- two offcore requests of one word at any counters
abbrev equal_words : ℕ → List Request
equal_words w = Offcore w (set 15) ∷ Offcore w (set 15) ∷ []

pub record LegalInWords : Type 0 where
  -- both ways
  pub legal : (s : Setup) (rs : List Request) (ps : List Place) → Legal s rs ps ↔ InWords s rs ps
  -- so a lone latency request at two counters is legal exactly where they differ and the first is in the first set, the second in the second
  pub latency : (s : Setup) (t j k : ℕ) (a b : CounterSet) → Legal s (Latency t a b ∷ []) (Pair j k ∷ [])
      ↔ ((j ≢ k) × ((j < counters_on s.device) × InSet s.usable j) × ((k < counters_on s.device) × InSet s.usable k) × InSet a j × InSet b k)
  -- equal words may stand in two registers, either way round, though the first plan has them share RSP0
  pub apart : (s : Setup) (w : ℕ) → s.device ≡ G → s.usable.0 ≡ 15 → Legal s (equal_words w) (WithRsp 0 0 ∷ WithRsp 1 1 ∷ [])
  pub apart_exchanged : (s : Setup) (w : ℕ) → s.device ≡ G → s.usable.0 ≡ 15 → Legal s (equal_words w) (WithRsp 0 1 ∷ WithRsp 1 0 ∷ [])
