-- Document 01, 'Bench tries': the first plans that tries A to G turn on, those of packets on S, those of six counters on C, and those of order 12's
-- events on B; and the sets of counters that the requests of some of them can leave.
use Rattle.std.specs.Prelude.{◌≡◌, List, [], ◌∷◌, map, ℕ, ◌+◌, ◌^◌, Option, None, Some}
use Rattle.requests.specs.Askings.{unasked}
use Rattle.requests.specs.declared.CounterSet.{CounterSet}
use Rattle.requests.specs.declared.Device.{Device}
use Rattle.requests.specs.declared.Device.TheVariants.{G, S, C, B}
use Rattle.requests.specs.declared.Setup.{Setup}
use Rattle.requests.specs.declared.Request.{Request}
use Rattle.requests.specs.declared.Request.TheVariants.{Event, Packet, Offcore, Latency}
use Rattle.plans.specs.Places.{Counted, counted_of}
use Rattle.plans.specs.Search.{first_plan}
use Rattle.plans.specs.Reach.{left_of}
use Rattle.plans.specs.declared.Place.{Place}

-- what each request is given, as document 01 prints it: its counter or counters, each with its register or none
abbrev pub Taken : Type 0
Taken = List (List Counted)

-- requests on a device with a usable set, and what the first plan is to give them, or none
pub record Try : Type 0 where
  pub setup : Setup
  pub requests : List Request
  pub plan : Option Taken

-- a counter set by its number
abbrev set : ℕ → CounterSet
set n = record { 0 = n }

-- a row: the device, its usable set, the requests, what is expected
abbrev row : Device → ℕ → List Request → Option Taken → Try
row d usable rs plan = record { setup = record { device = d; usable = set usable; fixed = 0; overflow = unasked }; requests = rs; plan = plan }

-- Instruction Retired with an allowed set
abbrev instructions : ℕ → Request
instructions allowed = Event 0xC0 0x00 (set allowed)

-- UnHalted Core Cycles with an allowed set
abbrev cycles : ℕ → Request
cycles allowed = Event 0x3C 0x00 (set allowed)

-- RBOX_SNP_BYPASS, unit mask 3, with an allowed set
abbrev bypass : ℕ → Request
bypass allowed = Event 0x51 0x03 (set allowed)

-- TRANS_IRQ with an allowed set
abbrev transactions : ℕ → Request
transactions allowed = Event 0x19 0x00 (set allowed)

-- INST_RETIRED.ALL in its PDIR use with an allowed set
abbrev lone : ℕ → Request
lone allowed = Event 0xC0 0x01 (set allowed)

-- MEM_TRANS_RETIRED.PRECISE_STORE with an allowed set
abbrev stores : ℕ → Request
stores allowed = Event 0xCD 0x02 (set allowed)

-- an offcore word at any counter
abbrev offcore : ℕ → Request
offcore word = Offcore word (set 15)

-- a latency type at any two counters
abbrev latency : ℕ → Request
latency types = Latency types (set 15) (set 15)

-- a counter, for an event or a packet
abbrev counter : ℕ → List Counted
counter k = (k, None) ∷ []

-- a counter and the RSP register that it counts
abbrev counter_rsp : ℕ → ℕ → List Counted
counter_rsp k i = (k, Some i) ∷ []

-- the two counters of a latency request: "the first counts RSP0", "the second counts RSP1"
abbrev pair : ℕ → ℕ → List Counted
pair j k = (j, Some 0) ∷ (k, Some 1) ∷ []

-- the table
unfoldable pub plan_tries : List Try
plan_tries =
    -- A: the third request finds counter 0 taken
    row G 15 (instructions 1 ∷ latency 0x0001 ∷ []) (Some (counter 0 ∷ pair 1 2 ∷ []))
    ∷ row G 15 (instructions 1 ∷ latency 0x0001 ∷ cycles 1 ∷ []) None
    -- B: "the first goes to counter 1, the second to 0"; and going back over all requests
    ∷ row G 15 (instructions 15 ∷ cycles 1 ∷ []) (Some (counter 1 ∷ counter 0 ∷ []))
    ∷ row G 15 (instructions 15 ∷ cycles 7 ∷ instructions 3 ∷ cycles 1 ∷ []) (Some (counter 3 ∷ counter 2 ∷ counter 1 ∷ counter 0 ∷ []))
    -- C: "RSP1 is shared", the offcore request on counter 0 with the second counter of the latency request, 2; and the other way round
    ∷ row G 15 (offcore 0x10001 ∷ latency 0x0001 ∷ []) (Some (counter_rsp 0 1 ∷ pair 1 2 ∷ []))
    ∷ row G 15 (latency 0x0001 ∷ offcore 0x10001 ∷ []) (Some (pair 0 1 ∷ counter_rsp 2 1 ∷ []))
    -- D: "With 10002 the latency request waits", though either has a plan alone
    ∷ row G 15 (offcore 0x10002 ∷ latency 0x0001 ∷ []) None
    ∷ row G 15 (offcore 0x10002 ∷ []) (Some (counter_rsp 0 0 ∷ []))
    ∷ row G 15 (latency 0x0001 ∷ []) (Some (pair 0 1 ∷ []))
    -- E: of three different words "the third waits beside two free counters", 2 and 3; a word that is equal to the first shares RSP0
    ∷ row G 15 (offcore 0x10001 ∷ offcore 0x10002 ∷ offcore 0x10004 ∷ []) None
    ∷ row G 15 (offcore 0x10001 ∷ offcore 0x10002 ∷ []) (Some (counter_rsp 0 0 ∷ counter_rsp 1 1 ∷ []))
    ∷ row G 15 (offcore 0x10001 ∷ offcore 0x10002 ∷ offcore 0x10001 ∷ []) (Some (counter_rsp 0 0 ∷ counter_rsp 1 1 ∷ counter_rsp 2 0 ∷ []))
    -- F: counter 0 is not usable
    ∷ row G 14 (instructions 15 ∷ cycles 15 ∷ []) (Some (counter 1 ∷ counter 2 ∷ []))
    ∷ row G 14 (instructions 1 ∷ []) None
    -- G: latency 4 and 4 has no plan alone, 4 and 8 has one, and so has 8 and 4
    ∷ row G 15 (Latency 0x0001 (set 4) (set 4) ∷ []) None
    ∷ row G 15 (Latency 0x0001 (set 4) (set 8) ∷ []) (Some (pair 2 3 ∷ []))
    ∷ row G 15 (Latency 0x0001 (set 8) (set 4) ∷ []) (Some (pair 3 2 ∷ []))
    -- sets that hold one another or share a counter: the first counter is of the first set, the second of the second
    ∷ row G 15 (Latency 0x0001 (set 15) (set 1) ∷ []) (Some (pair 1 0 ∷ []))
    ∷ row G 15 (Latency 0x0001 (set 1) (set 15) ∷ []) (Some (pair 0 1 ∷ []))
    ∷ row G 15 (Latency 0x0001 (set 2) (set 15) ∷ []) (Some (pair 1 0 ∷ []))
    ∷ row G 15 (Latency 0x0001 (set 3) (set 1) ∷ []) (Some (pair 1 0 ∷ []))
    ∷ row G 15 (Latency 0x0001 (set 6) (set 3) ∷ []) (Some (pair 1 0 ∷ []))
    ∷ row G 15 (Latency 0x0001 (set 6) (set 12) ∷ []) (Some (pair 1 2 ∷ []))
    ∷ row G 15 (Latency 0x0001 (set 12) (set 6) ∷ []) (Some (pair 2 1 ∷ []))
    ∷ row G 15 (Latency 0x0001 (set 12) (set 4) ∷ []) (Some (pair 3 2 ∷ []))
    ∷ row G 6 (Latency 0x0001 (set 12) (set 3) ∷ []) (Some (pair 2 1 ∷ []))
    ∷ row G 15 (instructions 1 ∷ Latency 0x0001 (set 15) (set 1) ∷ []) None
    -- and neither may be empty
    ∷ row G 15 (Latency 0x0001 (set 15) (set 0) ∷ []) None
    ∷ row G 15 (Latency 0x0001 (set 0) (set 15) ∷ []) None
    ∷ row G 15 (Latency 0x0001 (set 0) (set 0) ∷ []) None
    -- equal words share RSP0, though a plan with either register is legal
    ∷ row G 15 (offcore 0x10001 ∷ offcore 0x10001 ∷ []) (Some (counter_rsp 0 0 ∷ counter_rsp 1 0 ∷ []))
    -- an offcore request stands at a counter that it allows, and waits where that is taken, though its word is held
    ∷ row G 15 (Offcore 0x10001 (set 4) ∷ []) (Some (counter_rsp 2 0 ∷ []))
    ∷ row G 15 (Offcore 0x10001 (set 8) ∷ Offcore 0x10001 (set 8) ∷ []) None
    ∷ row G 15 (offcore 0x10001 ∷ Offcore 0x10002 (set 1) ∷ []) (Some (counter_rsp 1 0 ∷ counter_rsp 0 1 ∷ []))
    -- usable sets with gaps
    ∷ row G 10 (latency 0x0001 ∷ []) (Some (pair 1 3 ∷ []))
    ∷ row G 10 (latency 0x0001 ∷ offcore 0x10001 ∷ []) None
    ∷ row G 13 (instructions 15 ∷ offcore 0x10002 ∷ cycles 15 ∷ []) (Some (counter 0 ∷ counter_rsp 2 0 ∷ counter 3 ∷ []))
    ∷ row G 9 (Offcore 0x10001 (set 6) ∷ []) None
    -- two latency requests share both registers where their types are equal
    ∷ row G 15 (latency 0x0001 ∷ latency 0x0001 ∷ []) (Some (pair 0 1 ∷ pair 2 3 ∷ []))
    ∷ row G 15 (latency 0x0001 ∷ latency 0x0002 ∷ []) None
    -- on S "all packet requests have equal match and equal mask"
    ∷ row S 15 (Packet 5 7 (set 15) ∷ Packet 5 7 (set 15) ∷ []) (Some (counter 0 ∷ counter 1 ∷ []))
    ∷ row S 15 (Packet 5 7 (set 15) ∷ Packet 5 6 (set 15) ∷ []) None
    ∷ row S 15 (Packet 5 7 (set 15) ∷ Packet 4 7 (set 15) ∷ []) None
    ∷ row S 15 (bypass 15 ∷ Packet 5 7 (set 1) ∷ Packet 5 7 (set 15) ∷ []) (Some (counter 1 ∷ counter 0 ∷ counter 2 ∷ []))
    ∷ row S 14 (Packet 5 7 (set 15) ∷ bypass 15 ∷ Packet 5 7 (set 15) ∷ []) (Some (counter 1 ∷ counter 2 ∷ counter 3 ∷ []))
    -- no request, as many as there are counters, and one more
    ∷ row S 15 [] (Some [])
    ∷ row S 15 (bypass 15 ∷ bypass 15 ∷ bypass 15 ∷ bypass 15 ∷ []) (Some (counter 0 ∷ counter 1 ∷ counter 2 ∷ counter 3 ∷ []))
    ∷ row S 15 (bypass 15 ∷ bypass 15 ∷ bypass 15 ∷ bypass 15 ∷ bypass 15 ∷ []) None
    -- counter 4 is none of G or S, whatever the sets say
    ∷ row G 31 (instructions 16 ∷ []) None
    ∷ row S 31 (bypass 16 ∷ []) None
    -- C has six counters
    ∷ row (C 7) 63 (transactions 63 ∷ transactions 63 ∷ transactions 63 ∷ transactions 63 ∷ transactions 63 ∷ transactions 1 ∷ [])
    (Some (counter 1 ∷ counter 2 ∷ counter 3 ∷ counter 4 ∷ counter 5 ∷ counter 0 ∷ []))
    ∷ row (C 7) 63 (transactions 32 ∷ []) (Some (counter 5 ∷ []))
    ∷ row (C 1) 48 (transactions 63 ∷ transactions 63 ∷ []) (Some (counter 4 ∷ counter 5 ∷ []))
    ∷ row (C 0) 127 (transactions 64 ∷ []) None
    -- B: C0/01 "runs on counter 1", where its allowed set has that
    ∷ row B 15 (lone 15 ∷ []) (Some (counter 1 ∷ []))
    ∷ row B 15 (lone 2 ∷ []) (Some (counter 1 ∷ []))
    ∷ row B 15 (lone 13 ∷ []) None
    -- "has no other request in it", before it or behind it
    ∷ row B 15 (lone 15 ∷ instructions 15 ∷ []) None
    ∷ row B 15 (instructions 15 ∷ lone 15 ∷ []) None
    ∷ row B 15 (lone 15 ∷ stores 15 ∷ []) None
    ∷ row B 15 (stores 15 ∷ lone 15 ∷ []) None
    ∷ row B 15 (lone 15 ∷ lone 15 ∷ []) None
    -- "needs the usable set 15"
    ∷ row B 14 (lone 15 ∷ []) None
    ∷ row B 7 (lone 15 ∷ []) None
    ∷ row B 2 (lone 15 ∷ []) None
    ∷ row B 31 (lone 15 ∷ []) None
    -- CD/02 "runs on counter 3 only", beside others, and two of them share no turn
    ∷ row B 15 (instructions 15 ∷ stores 8 ∷ []) (Some (counter 0 ∷ counter 3 ∷ []))
    ∷ row B 15 (stores 15 ∷ instructions 15 ∷ cycles 15 ∷ cycles 15 ∷ []) (Some (counter 3 ∷ counter 0 ∷ counter 1 ∷ counter 2 ∷ []))
    ∷ row B 15 (instructions 8 ∷ stores 15 ∷ []) None
    ∷ row B 15 (stores 15 ∷ stores 15 ∷ []) None
    ∷ row B 15 (stores 7 ∷ []) None
    ∷ row B 14 (stores 15 ∷ []) (Some (counter 3 ∷ []))
    ∷ row B 7 (stores 15 ∷ []) None
    -- other events of B, and these pairs on another device, run anywhere
    ∷ row B 15 (instructions 15 ∷ cycles 1 ∷ []) (Some (counter 1 ∷ counter 0 ∷ []))
    ∷ row G 15 (stores 15 ∷ lone 15 ∷ []) (Some (counter 0 ∷ counter 1 ∷ []))
    ∷ []

-- a plan as document 01 prints it
unfoldable pub taken_of : Option (List Place) → Option Taken
taken_of None = None
taken_of (Some ps) = Some (map counted_of ps)

-- what the first plan gives the requests
abbrev pub found : Try → Option Taken
found t = taken_of (first_plan t.setup t.requests)

-- what is expected
abbrev pub expected : Try → Option Taken
expected t = t.plan

-- in each row the first plan gives what is expected
abbrev pub PlanTries : Type 0
PlanTries = map found plan_tries ≡ map expected plan_tries

-- requests on a device with a usable set, and the sets of counters that they are to leave: bit f for the set f
pub record LeftTry : Type 0 where
  pub setup : Setup
  pub requests : List Request
  pub sets : ℕ

-- a row: the device, its usable set, the requests, what is expected
abbrev leaves : Device → ℕ → List Request → ℕ → LeftTry
leaves d usable rs sets = record { setup = record { device = d; usable = set usable; fixed = 0; overflow = unasked }; requests = rs; sets = sets }

-- the table
unfoldable pub left_tries : List LeftTry
left_tries =
    -- before the first request all usable counters are free
    leaves G 15 [] (2 ^ 15)
    -- A: the third request finds counter 0 taken
    ∷ leaves G 15 (instructions 1 ∷ latency 0x0001 ∷ cycles 1 ∷ []) 0
    -- B: the first goes to counter 1, 2 or 3, so that the second has counter 0; and going back over all requests
    ∷ leaves G 15 (instructions 15 ∷ cycles 1 ∷ []) (2 ^ 12 + 2 ^ 10 + 2 ^ 6)
    ∷ leaves G 15 (instructions 15 ∷ cycles 7 ∷ instructions 3 ∷ cycles 1 ∷ []) (2 ^ 0)
    -- E: of three different words the third waits, since no register is left; counters are
    ∷ leaves G 15 (offcore 0x10001 ∷ offcore 0x10002 ∷ offcore 0x10004 ∷ []) (2 ^ 8 + 2 ^ 4 + 2 ^ 2 + 2 ^ 1)
    -- F: counter 0 is not usable
    ∷ leaves G 14 (instructions 1 ∷ []) 0
    -- G: latency 4 and 4 has no plan alone, 4 and 8 leaves counters 0 and 1
    ∷ leaves G 15 (Latency 0x0001 (set 4) (set 4) ∷ []) 0
    ∷ leaves G 15 (Latency 0x0001 (set 4) (set 8) ∷ []) (2 ^ 3)
    -- packets, as many as there are counters, and one more
    ∷ leaves S 15 (Packet 5 7 (set 1) ∷ bypass 3 ∷ Packet 5 7 (set 7) ∷ bypass 15 ∷ []) (2 ^ 0)
    ∷ leaves S 15 (bypass 15 ∷ bypass 15 ∷ bypass 15 ∷ bypass 15 ∷ bypass 15 ∷ []) 0
    -- C: four of six counters, and two requests for one
    ∷ leaves (C 0) 63 (transactions 1 ∷ transactions 2 ∷ transactions 4 ∷ transactions 8 ∷ []) (2 ^ 48)
    ∷ leaves (C 0) 63 (transactions 32 ∷ transactions 32 ∷ []) 0
    -- B: the sets of all counters that are allowed, since rules are not looked at
    ∷ leaves B 15 (stores 12 ∷ []) (2 ^ 11 + 2 ^ 7)
    ∷ []

-- the sets that the requests leave
abbrev pub found_sets : LeftTry → ℕ
found_sets t = left_of t.setup t.requests

-- what is expected
abbrev pub expected_sets : LeftTry → ℕ
expected_sets t = t.sets

-- in each row the requests leave what is expected
abbrev pub LeftTries : Type 0
LeftTries = map found_sets left_tries ≡ map expected_sets left_tries
