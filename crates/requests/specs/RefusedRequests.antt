-- Document 01, 'Refusal numbers', 7 to 11: each row as a type, a constructor for each of its phrases. A check holds exactly where its row applies.
use Rattle.std.specs.Prelude.{◌≡◌, ◌↔◌, true, false, ℕ, ◌≤◌, ◌<◌}
use mathlib.Core.List.{List, ◌∷◌, Memᴰ}
use Rattle.requests.specs.Bits.{bit, type_bits, any_response, answer_bits, outstanding, rsp0_bits, match_bits, mask_bits}
use Rattle.requests.specs.Devices.{all_counters}
use Rattle.requests.specs.MaskRules.{MaskRule, alone, range, among, listed}
use Rattle.requests.specs.Catalogue.{events_of}
use Rattle.requests.specs.Checks.{kind_not_on, not_listed_lem, incomplete, out_of_range, conflicting}
use Rattle.requests.specs.declared.CounterSet.{CounterSet}
use Rattle.requests.specs.declared.Device.{Device}
use Rattle.requests.specs.declared.Device.TheVariants.{G, S, C, B}
use Rattle.requests.specs.declared.Request.{Request}
use Rattle.requests.specs.declared.Request.TheVariants.{Event, Packet, Offcore, Latency}

-- the word has a bit of the list
abbrev pub HasBit : List ℕ → ℕ → Type 0
HasBit ks w = (k : ℕ) × Memᴰ k ks × (bit k w ≡ true)

-- the word has no bit of the list
abbrev pub HasNone : List ℕ → ℕ → Type 0
HasNone ks w = (k : ℕ) → Memᴰ k ks → bit k w ≡ false

-- the word has a bit that is not of the list
abbrev pub HasReserved : List ℕ → ℕ → Type 0
HasReserved ks w = (k : ℕ) × (¬ Memᴰ k ks) × (bit k w ≡ true)

-- the rule lists the mask
abbrev pub Lists : MaskRule → ℕ → Type 0
Lists (alone n) m = m ≡ n
Lists (range low high) m = (low ≤ m) × (m ≤ high)
Lists (among ms) m = Memᴰ m ms

-- the mask is above all that the rule lists
abbrev pub Above : MaskRule → ℕ → Type 0
Above (alone n) m = n < m
Above (range low high) m = high < m
Above (among ms) m = (n : ℕ) → Memᴰ n ms → n < m

-- the device's catalogue has the code, in a row with these masks
abbrev pub InCatalogue : Device → ℕ → MaskRule → Type 0
InCatalogue d c masks = Memᴰ (listed c masks) (events_of d)

-- it has the code
abbrev pub CodeListed : Device → ℕ → Type 0
CodeListed d c = (masks : MaskRule) × InCatalogue d c masks

-- it has the code with the mask
abbrev pub PairListed : Device → ℕ → ℕ → Type 0
PairListed d c m = (masks : MaskRule) × InCatalogue d c masks × Lists masks m

-- where the pair of code and mask is listed as one
pub data PairsOn : Device → Type 0 where
  on_g_lem : PairsOn G
  on_b_lem : PairsOn B

-- where a listed code has its own masks
pub data CodesOn : Device → Type 0 where
  on_s_lem : CodesOn S
  on_c_lem : {b : ℕ} → CodesOn (C b)

-- the word that holds the request types of a request
pub data TypesIn : Request → ℕ → Type 0 where
  offcore_word : {w : ℕ} {a : CounterSet} → TypesIn (Offcore w a) w
  latency_types : {t : ℕ} {a b : CounterSet} → TypesIn (Latency t a b) t

-- an allowed set of a request
pub data AllowedSet : Request → CounterSet → Type 0 where
  of_event : {c m : ℕ} {a : CounterSet} → AllowedSet (Event c m a) a
  of_packet : {x y : ℕ} {a : CounterSet} → AllowedSet (Packet x y a) a
  of_offcore : {w : ℕ} {a : CounterSet} → AllowedSet (Offcore w a) a
  first_of_latency : {t : ℕ} {a b : CounterSet} → AllowedSet (Latency t a b) a
  second_of_latency : {t : ℕ} {a b : CounterSet} → AllowedSet (Latency t a b) b

-- 7: "request kind not on this device"
pub data KindNotOn : Device → Request → Type 0 where
  -- "S only"
  no_packet : {d : Device} {x y : ℕ} {a : CounterSet} → ¬ (d ≡ S) → KindNotOn d (Packet x y a)
  -- "G only"
  no_offcore : {d : Device} {w : ℕ} {a : CounterSet} → ¬ (d ≡ G) → KindNotOn d (Offcore w a)
  no_latency : {d : Device} {t : ℕ} {a b : CounterSet} → ¬ (d ≡ G) → KindNotOn d (Latency t a b)

-- 8
pub data NotListed : Device → Request → Type 0 where
  -- "G: pair not listed", B "8 as on G"
  pair : {d : Device} {c m : ℕ} {a : CounterSet} → PairsOn d → ¬ PairListed d c m → NotListed d (Event c m a)
  -- "S: code not listed", C "8 as on S"
  code : {d : Device} {c m : ℕ} {a : CounterSet} → CodesOn d → ¬ CodeListed d c → NotListed d (Event c m a)

-- 9
pub data Incomplete : Device → Request → Type 0 where
  -- mask 0 where others are listed: `zero-on-S` below has the words of S, `CBoxPages` those of C
  mask_0 : {d : Device} {c : ℕ} {masks : MaskRule} {a : CounterSet} → CodesOn d → InCatalogue d c masks → ¬ Lists masks 0 → Incomplete d (Event c 0 a)
  -- "no request type"
  no_type : {d : Device} {r : Request} {w : ℕ} → TypesIn r w → HasNone type_bits w → Incomplete d r
  -- "offcore with neither response bit nor bit 38"
  no_response : {d : Device} {w : ℕ} {a : CounterSet} → HasNone (any_response ∷ answer_bits) w → bit outstanding w ≡ false → Incomplete d (Offcore w a)

-- 10
pub data OutOfRange : Device → Request → Type 0 where
  -- another mask that is not listed: `above-on-S` below has the words of S, `CBoxPages` those of C
  mask_other : {d : Device} {c m : ℕ} {masks : MaskRule} {a : CounterSet} → CodesOn d → InCatalogue d c masks → ¬ Lists masks m → ¬ (m ≡ 0) → OutOfRange d (Event c m a)
  -- "reserved word .. bit"
  word_bit : {d : Device} {w : ℕ} {a : CounterSet} → HasReserved rsp0_bits w → OutOfRange d (Offcore w a)
  -- "reserved .. type bit"
  type_bit : {d : Device} {t : ℕ} {a b : CounterSet} → HasReserved type_bits t → OutOfRange d (Latency t a b)
  -- order 5: "Bits outside the fields .. are refused in match and in mask"
  match_bit : {d : Device} {x y : ℕ} {a : CounterSet} → HasReserved match_bits x → OutOfRange d (Packet x y a)
  mask_bit : {d : Device} {x y : ℕ} {a : CounterSet} → HasReserved mask_bits y → OutOfRange d (Packet x y a)
  -- "allowed set above 15", on C above 63: `Openings.bounds` gives the number
  wide_set : {d : Device} {r : Request} {a : CounterSet} → AllowedSet r a → all_counters d < a.0 → OutOfRange d r

-- 11
pub data Conflicting : Device → Request → Type 0 where
  -- "offcore with bit 38"
  bit_38 : {d : Device} {w : ℕ} {a : CounterSet} → bit outstanding w ≡ true → Conflicting d (Offcore w a)
  -- "bit 16 with a snoop answer", or with order 1's "one more answer"
  bit_16 : {d : Device} {w : ℕ} {a : CounterSet} → bit any_response w ≡ true → HasBit answer_bits w → Conflicting d (Offcore w a)

pub record RefusedRequests : Type 0 where
  pub seven : (d : Device) (r : Request) → (kind_not_on d r ≡ true) ↔ KindNotOn d r
  pub eight : (d : Device) (r : Request) → (not_listed_lem d r ≡ true) ↔ NotListed d r
  pub nine : (d : Device) (r : Request) → (incomplete d r ≡ true) ↔ Incomplete d r
  pub ten : (d : Device) (r : Request) → (out_of_range d r ≡ true) ↔ OutOfRange d r
  pub eleven : (d : Device) (r : Request) → (conflicting d r ≡ true) ↔ Conflicting d r
  -- "S: mask 0 where 1..3 is listed"
  pub zero_on_s : (c : ℕ) (masks : MaskRule) → InCatalogue S c masks → ¬ Lists masks 0 → masks ≡ range 1 3
  -- "S: mask above the listed range"
  pub above_on_s : (c m : ℕ) (masks : MaskRule) → InCatalogue S c masks → ¬ Lists masks m → ¬ (m ≡ 0) → Above masks m
