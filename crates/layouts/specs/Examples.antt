-- Document 01, tries A, C and F, the empty plan, a plan on S, and one of order 2: whole write lists, computed.
use Rattle.std.specs.Prelude.{◌≡◌, List, [], ◌∷◌, map, ℕ}
use Rattle.requests.specs.declared.CounterSet.{CounterSet}
use Rattle.requests.specs.declared.Device.{Device}
use Rattle.requests.specs.declared.Device.TheVariants.{G, S}
use Rattle.requests.specs.declared.Setup.{Setup}
use Rattle.requests.specs.declared.Request.{Request}
use Rattle.requests.specs.declared.Request.TheVariants.{Event, Packet, Offcore, Latency}
use Rattle.requests.specs.Askings.{unasked}
use Rattle.plans.specs.declared.Place.{Place}
use Rattle.plans.specs.declared.Place.TheVariants.{Counter, WithRsp, Pair}
use Rattle.layouts.specs.Writes.{Write, writes}

-- counters 0 to 3
abbrev pub all : CounterSet
all = record { 0 = 15 }

-- a set by its number
abbrev pub set : ℕ → CounterSet
set n = record { 0 = n }

-- a device with a usable set and fixed enables
abbrev pub opened : Device → ℕ → ℕ → Setup
opened d usable fixed = record { device = d; usable = set usable; fixed = fixed; overflow = unasked }

-- a plan, and its whole write list
pub record Plan : Type 0 where
  pub setup : Setup
  pub requests : List Request
  pub places : List Place
  pub written : List Write

-- plans of the tries, and others
unfoldable pub plans : List Plan
plans =
    -- A. "event 1 C0 00 1" takes counter 0, "latency 2 0001 15 15" takes counter 1 with RSP0 and counter 2 with RSP1
    record {
      setup = opened G 15 0;
      requests = Event 0xC0 0x00 (set 1) ∷ Latency 0x0001 all all ∷ [];
      places = Counter 0 ∷ Pair 1 2 ∷ [];
      written =
          (0x038F, 0x0000000000000000)
          ∷ (0x0186, 0x0000000000000000)
          ∷ (0x0187, 0x0000000000000000)
          ∷ (0x0188, 0x0000000000000000)
          ∷ (0x0189, 0x0000000000000000)
          ∷ (0x01A6, 0x0000004000000001)
          ∷ (0x01A7, 0x0000000000010001)
          ∷ (0x00C1, 0x0000000000000000)
          ∷ (0x00C2, 0x0000000000000000)
          ∷ (0x00C3, 0x0000000000000000)
          ∷ (0x0186, 0x00000000004300C0)
          ∷ (0x0187, 0x00000000004301B7)
          ∷ (0x0188, 0x00000000004302B7)
          ∷ (0x038F, 0x0000000000000007)
          ∷ [];
    }
    -- usable 14 on S: a packet request takes counter 1, and 51/3 ("400351") counter 2
    ∷ record {
      setup = opened S 14 0;
      requests = Packet 0x0123456789ABCDEF 0x0000007F00000000 all ∷ Event 0x51 0x03 all ∷ [];
      places = Counter 1 ∷ Counter 2 ∷ [];
      written =
          (0x0C40, 0x0000000000000001)
          ∷ (0x0C52, 0x0000000000000000)
          ∷ (0x0C54, 0x0000000000000000)
          ∷ (0x0C56, 0x0000000000000000)
          ∷ (0x0E48, 0x0000000000000000)
          ∷ (0x0E49, 0x0123456789ABCDEF)
          ∷ (0x0E4A, 0x0000007F00000000)
          ∷ (0x0E48, 0x8000000000000000)
          ∷ (0x0C53, 0x0000000000000000)
          ∷ (0x0C55, 0x0000000000000000)
          ∷ (0x0C52, 0x0000000000400000)
          ∷ (0x0C54, 0x0000000000400351)
          ∷ (0x0C40, 0x0000000000000007)
          ∷ [];
    }
    -- F. "Usable 14: 038F gets 1 first". C0/00 takes counter 1; both RSP registers are unused
    ∷ record {
      setup = opened G 14 0;
      requests = Event 0xC0 0x00 all ∷ [];
      places = Counter 1 ∷ [];
      written =
          (0x038F, 0x0000000000000001)
          ∷ (0x0187, 0x0000000000000000)
          ∷ (0x0188, 0x0000000000000000)
          ∷ (0x0189, 0x0000000000000000)
          ∷ (0x01A6, 0x0000000000000000)
          ∷ (0x01A7, 0x0000000000000000)
          ∷ (0x00C2, 0x0000000000000000)
          ∷ (0x0187, 0x00000000004300C0)
          ∷ (0x038F, 0x0000000000000003)
          ∷ [];
    }
    -- C. "Offcore 10001, latency 0001: RSP1 is shared": the offcore request takes counter 0 with RSP1
    ∷ record {
      setup = opened G 15 0;
      requests = Offcore 0x10001 all ∷ Latency 0x0001 all all ∷ [];
      places = WithRsp 0 1 ∷ Pair 1 2 ∷ [];
      written =
          (0x038F, 0x0000000000000000)
          ∷ (0x0186, 0x0000000000000000)
          ∷ (0x0187, 0x0000000000000000)
          ∷ (0x0188, 0x0000000000000000)
          ∷ (0x0189, 0x0000000000000000)
          ∷ (0x01A6, 0x0000004000000001)
          ∷ (0x01A7, 0x0000000000010001)
          ∷ (0x00C1, 0x0000000000000000)
          ∷ (0x00C2, 0x0000000000000000)
          ∷ (0x00C3, 0x0000000000000000)
          ∷ (0x0186, 0x00000000004302B7)
          ∷ (0x0187, 0x00000000004301B7)
          ∷ (0x0188, 0x00000000004302B7)
          ∷ (0x038F, 0x0000000000000007)
          ∷ [];
    }
    -- "An empty queue gives an empty plan and a write list that turns the usable counters off"
    ∷ record {
      setup = opened S 6 0;
      requests = [];
      places = [];
      written =
          (0x0C40, 0x0000000000000009)
          ∷ (0x0C52, 0x0000000000000000)
          ∷ (0x0C54, 0x0000000000000000)
          ∷ (0x0E48, 0x0000000000000000)
          ∷ (0x0C40, 0x0000000000000009)
          ∷ [];
    }
    -- order 2: "every write to 038F carries it", beside the bits of unusable and used counters
    ∷ record {
      setup = opened G 14 2;
      requests = Event 0x3C 0x00 all ∷ [];
      places = Counter 1 ∷ [];
      written =
          (0x038F, 0x0000000200000001)
          ∷ (0x0187, 0x0000000000000000)
          ∷ (0x0188, 0x0000000000000000)
          ∷ (0x0189, 0x0000000000000000)
          ∷ (0x01A6, 0x0000000000000000)
          ∷ (0x01A7, 0x0000000000000000)
          ∷ (0x00C2, 0x0000000000000000)
          ∷ (0x0187, 0x000000000043003C)
          ∷ (0x038F, 0x0000000200000003)
          ∷ [];
    }
    ∷ []

-- the write list of a plan
unfoldable pub writes_of : Plan → List Write
writes_of p = writes p.setup p.requests p.places

pub record Examples : Type 0 where
  -- each plan's write list, whole and in order
  pub written : map writes_of plans ≡ map (λ (p : Plan). p.written) plans
