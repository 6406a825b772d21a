-- "01A6 then 01A7, 0 where unused", and of the reader "an unused RSP must be 0": each RSP register by itself, whatever the other holds.
use Rattle.std.specs.Prelude.{◌≡◌, ◌≢◌, List, ℕ, ◌+◌, ◌<◌, get_or, None, Some}
use Rattle.requests.specs.declared.Device.TheVariants.{G}
use Rattle.requests.specs.declared.Opening.{Opening}
use Rattle.requests.specs.declared.Setup.{Setup}
use Rattle.requests.specs.declared.Request.{Request}
use Rattle.requests.specs.Refusals.{answer_number}
use Rattle.requests.specs.Devices.{setup_of}
use Rattle.plans.specs.declared.Place.{Place}
use Rattle.plans.specs.Legal.{Legal}
use Rattle.plans.specs.LegalInWords.{Nth, Asks, InSet}
use Rattle.layouts.specs.Writes.{writes, apply}
use Rattle.layouts.specs.Read.{answer_of, read_of}
use Rattle.layouts.specs.declared.RegisterValues.{RegisterValues}

-- the reader of a session on G accepts the values
abbrev pub AcceptedOnG : Opening → Setup → RegisterValues → Type 0
AcceptedOnG o s v = (setup_of o ≡ Some s) × (s.device ≡ G) × (answer_number (answer_of (read_of o v)) ≡ None)

-- no usable counter has the control word
abbrev pub NoCounterHas : Setup → RegisterValues → ℕ → Type 0
NoCounterHas s v w = (k : ℕ) → k < 4 → InSet s.usable k → get_or v.control k 0 ≢ w

pub record UnusedResponses : Type 0 where
  -- where no request of the plan asks for a word of register i, the writes leave 0 there, from any registers
  pub unused : (s : Setup) (rs : List Request) (ps : List Place) → s.device ≡ G → Legal s rs ps → (registers : ℕ → ℕ) (i : ℕ) → i < 2
      → ((n w : ℕ) (r : Request) (p : Place) → Nth r p n rs ps → ¬ Asks i r p w)
      → apply (writes s rs ps) registers (0x01A6 + i) ≡ 0
  -- where one does, that word
  pub used : (s : Setup) (rs : List Request) (ps : List Place) → s.device ≡ G → Legal s rs ps → (registers : ℕ → ℕ) (i : ℕ) → i < 2
      → (n w : ℕ) (r : Request) (p : Place) → Nth r p n rs ps → Asks i r p w
      → apply (writes s rs ps) registers (0x01A6 + i) ≡ w
  -- the reader accepts nothing but 0 in a register that no counter counts
  pub read_first : (o : Opening) (s : Setup) (v : RegisterValues) → AcceptedOnG o s v → NoCounterHas s v 0x4301B7 → v.filters.rsp0 ≡ 0
  pub read_second : (o : Opening) (s : Setup) (v : RegisterValues) → AcceptedOnG o s v → NoCounterHas s v 0x4302B7 → v.filters.rsp1 ≡ 0
