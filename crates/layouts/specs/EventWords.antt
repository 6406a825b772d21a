-- "The event word is 430000 + 100 × mask + code (all hex: user, OS and enable bits)", on S and C 400000 + 100 × mask + code, with 100000 more where a
-- session asks something of the U-Box; "Event B7 with unit mask 01 uses MSR_OFFCORE_RSP0, with 02 RSP1"; for a packet "Event code 0, unit mask 0".
-- What the control registers hold after a plan's writes, as numbers: no bit more and none less.
use Rattle.std.specs.Prelude.{◌≡◌, ◌⊎◌, List, ℕ, zero, suc, ◌+◌, ◌*◌, ◌<◌, Option, None, Some}
use Rattle.requests.specs.declared.Device.{Device}
use Rattle.requests.specs.declared.Device.TheVariants.{G, S, C, B}
use Rattle.requests.specs.declared.Setup.{Setup}
use Rattle.requests.specs.declared.Request.{Request}
use Rattle.requests.specs.declared.Request.TheVariants.{Event, Packet, Offcore, Latency}
use Rattle.plans.specs.declared.Place.{Place}
use Rattle.plans.specs.declared.Place.TheVariants.{Counter, WithRsp, Pair}
use Rattle.plans.specs.Legal.{Legal}
use Rattle.plans.specs.LegalInWords.{Nth, Takes, InSet, counters_on}
use Rattle.layouts.specs.Layout.{control_at}
use Rattle.layouts.specs.Writes.{writes, apply}

-- what every event word of a session has, by its device and what it asks: freeze, and a core
abbrev pub enabling : Device → ℕ → Option ℕ → ℕ
enabling G freeze core = 0x430000
enabling S zero None = 0x400000
enabling S zero (Some c) = 0x500000
enabling S (suc f) core = 0x500000
enabling (C b) zero None = 0x400000
enabling (C b) zero (Some c) = 0x500000
enabling (C b) (suc f) core = 0x500000
enabling B freeze core = 0x430000

-- of a session
abbrev pub enabling_of : Setup → ℕ
enabling_of s = enabling s.device s.overflow.freeze s.overflow.core

-- IA32_PERFEVTSELk, S_MSR_PMON_CTLk; those of the C-Boxes are `CBoxAddresses`'
abbrev pub control_of : Device → ℕ → ℕ
control_of G k = 0x0186 + k
control_of S k = 0x0C50 + 2 * k
control_of (C b) k = control_at (C b) k
control_of B k = 0x0186 + k

-- at its place the request has counter k count the event of code c and unit mask m
abbrev pub Counting : Request → Place → ℕ → ℕ → ℕ → Type 0
Counting (Event d n a) (Counter j) k c m = (j ≡ k) × (c ≡ d) × (m ≡ n)
Counting (Event d n a) (WithRsp j i) k c m = ⊥
Counting (Event d n a) (Pair i j) k c m = ⊥
Counting (Packet x y a) (Counter j) k c m = (j ≡ k) × (c ≡ 0) × (m ≡ 0)
Counting (Packet x y a) (WithRsp j i) k c m = ⊥
Counting (Packet x y a) (Pair i j) k c m = ⊥
Counting (Offcore w a) (Counter j) k c m = ⊥
Counting (Offcore w a) (WithRsp j i) k c m = (j ≡ k) × (c ≡ 0xB7) × (((i ≡ 0) × (m ≡ 1)) ⊎ ((i ≡ 1) × (m ≡ 2)))
Counting (Offcore w a) (Pair i j) k c m = ⊥
Counting (Latency t a b) (Counter j) k c m = ⊥
Counting (Latency t a b) (WithRsp j i) k c m = ⊥
Counting (Latency t a b) (Pair i j) k c m = (c ≡ 0xB7) × (((i ≡ k) × (m ≡ 1)) ⊎ ((j ≡ k) × (m ≡ 2)))

pub record EventWords : Type 0 where
  -- after the writes of every legal plan, from any registers, in the control register of each of its counters
  pub used : (s : Setup) (rs : List Request) (ps : List Place) → Legal s rs ps → (registers : ℕ → ℕ)
      → (n k c m : ℕ) (r : Request) (p : Place) → Nth r p n rs ps → Counting r p k c m
      → apply (writes s rs ps) registers (control_of s.device k) ≡ enabling_of s + 0x100 * m + c
  -- a usable counter of no request has 0
  pub unused : (s : Setup) (rs : List Request) (ps : List Place) → Legal s rs ps → (registers : ℕ → ℕ)
      → (k : ℕ) → k < counters_on s.device → InSet s.usable k
      → ((n : ℕ) (r : Request) (p : Place) → Nth r p n rs ps → ¬ Takes p k)
      → apply (writes s rs ps) registers (control_of s.device k) ≡ 0
