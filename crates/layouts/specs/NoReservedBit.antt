-- Demand 2, the writes: no reserved bit of the published layouts is set.
use Rattle.std.specs.Prelude.{◌≡◌, true, ℕ}
use mathlib.Core.List.{List, Memᴰ}
use Rattle.requests.specs.declared.CounterSet.{CounterSet}
use Rattle.requests.specs.declared.Setup.{Setup}
use Rattle.requests.specs.declared.Device.TheVariants.{G}
use Rattle.requests.specs.declared.Request.{Request}
use Rattle.requests.specs.declared.Request.TheVariants.{Latency}
use Rattle.requests.specs.Bits.{bit, only_bits, outstanding, latency_word}
use Rattle.requests.specs.Checks.{Formed}
use Rattle.plans.specs.declared.Place.{Place}
use Rattle.plans.specs.Lists.{All}
use Rattle.plans.specs.Legal.{Legal}
use Rattle.layouts.specs.Layout.{Register, registers_of, rsp0_at}
use Rattle.layouts.specs.Writes.{Write, writes}

-- a write to a register with reserved bits has only bits of its layout; bit 38 is not among those of RSP1
abbrev pub Clean : Setup → Write → Type 0
Clean s w = (register : Register) → Memᴰ register (registers_of s.device) → w.0 ≡ register.0 → only_bits register.1 w.1 ≡ true

-- a latency request of the list, and the word that it asks of RSP0
abbrev pub AsksOutstanding : List Request → ℕ → Type 0
AsksOutstanding rs w = (t : ℕ) × (a : CounterSet) × (b : CounterSet) × Memᴰ (Latency t a b) rs × (w ≡ latency_word 0 t)

pub record NoReservedBit : Type 0 where
  -- "no reserved bit": in the writes of every legal plan of well-formed requests
  pub clean : (s : Setup) (rs : List Request) (ps : List Place) → All (Formed s) rs → Legal s rs ps → All (Clean s) (writes s rs ps)
  -- bit 38 stands in RSP0 for a latency request only
  pub latency_only : (s : Setup) (rs : List Request) (ps : List Place) (w : ℕ) → s.device ≡ G → All (Formed s) rs → Legal s rs ps
      → Memᴰ (rsp0_at, w) (writes s rs ps) → bit outstanding w ≡ true → AsksOutstanding rs w
