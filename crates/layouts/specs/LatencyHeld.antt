-- **latency**: "the first counts RSP0 holding the type and bit 38 only; the second counts RSP1 holding the type and bit 16 only."
use Rattle.std.specs.Prelude.{◌≡◌, ℕ}
use mathlib.Core.List.{List, Memᴰ}
use Rattle.requests.specs.declared.CounterSet.{CounterSet}
use Rattle.requests.specs.declared.Device.TheVariants.{G}
use Rattle.requests.specs.declared.Setup.{Setup}
use Rattle.requests.specs.declared.Request.{Request}
use Rattle.requests.specs.declared.Request.TheVariants.{Latency}
use Rattle.requests.specs.Checks.{Formed}
use Rattle.requests.specs.LatencyWords.{TypeWith}
use Rattle.plans.specs.declared.Place.{Place}
use Rattle.plans.specs.Lists.{All}
use Rattle.plans.specs.Legal.{Legal}
use Rattle.layouts.specs.Writes.{writes, apply}

-- what the writes of every legal plan of well-formed requests leave, from any registers, where one is a latency request of these types
pub record LatencyHeld : Type 0 where
  pub first : (s : Setup) (rs : List Request) (ps : List Place) (types : ℕ) (a b : CounterSet) → s.device ≡ G → All (Formed s) rs → Legal s rs ps
      → Memᴰ (Latency types a b) rs → (registers : ℕ → ℕ) → TypeWith 38 types (apply (writes s rs ps) registers 0x01A6)
  pub second : (s : Setup) (rs : List Request) (ps : List Place) (types : ℕ) (a b : CounterSet) → s.device ≡ G → All (Formed s) rs → Legal s rs ps
      → Memᴰ (Latency types a b) rs → (registers : ℕ → ℕ) → TypeWith 16 types (apply (writes s rs ps) registers 0x01A7)
