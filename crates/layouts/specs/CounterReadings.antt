-- The reader's answer at a counter, as it is given: "off, or event with its filter register and words", "An unusable counter is told as not ours".
-- In numbers, and without `told`, which other statements see it through.
use Rattle.std.specs.Prelude.{◌≡◌, ◌≢◌, ℕ, ◌+◌, ◌*◌, ◌<◌, get_or, None, Some}
use Rattle.requests.specs.declared.Device.TheVariants.{G, S}
use Rattle.requests.specs.declared.Opening.{Opening}
use Rattle.requests.specs.declared.Setup.{Setup}
use Rattle.requests.specs.Refusals.{answer_number}
use Rattle.requests.specs.Devices.{setup_of}
use Rattle.plans.specs.LegalInWords.{InSet}
use Rattle.layouts.specs.Read.{answer_of, states_of, read_of}
use Rattle.layouts.specs.EventWords.{enabling_of}
use Rattle.layouts.specs.declared.RegisterValues.{RegisterValues}
use Rattle.layouts.specs.declared.FilterRead.TheVariants.{NoFilter, Rsp, MatchMask}
use Rattle.layouts.specs.declared.CounterState.{CounterState}
use Rattle.layouts.specs.declared.CounterState.TheVariants.{NotOurs, Off, Counts}

-- the reader of the session accepts the values
abbrev pub Accepts : Opening → Setup → RegisterValues → Type 0
Accepts o s v = (setup_of o ≡ Some s) × (answer_number (answer_of (read_of o v)) ≡ None)

-- what it answers of counter k
abbrev pub state_at : Opening → RegisterValues → ℕ → CounterState
state_at o v k = get_or (states_of (read_of o v)) k NotOurs

-- the control value of counter k
abbrev pub word_in : RegisterValues → ℕ → ℕ
word_in v k = get_or v.control k 0

pub record CounterReadings : Type 0 where
  pub not_ours : (o : Opening) (s : Setup) (v : RegisterValues) → Accepts o s v → (k : ℕ) → k < 8 → ¬ InSet s.usable k → state_at o v k ≡ NotOurs
  pub off : (o : Opening) (s : Setup) (v : RegisterValues) → Accepts o s v → (k : ℕ) → k < 8 → InSet s.usable k → word_in v k ≡ 0 → state_at o v k ≡ Off
  -- "Event B7 with unit mask 01 uses MSR_OFFCORE_RSP0, with 02 RSP1": the register and what it holds
  pub first : (o : Opening) (s : Setup) (v : RegisterValues) → Accepts o s v → s.device ≡ G → (k : ℕ) → k < 8 → InSet s.usable k
      → word_in v k ≡ 0x4301B7 → state_at o v k ≡ Counts 0xB7 0x01 (Rsp 0 v.filters.rsp0)
  pub second : (o : Opening) (s : Setup) (v : RegisterValues) → Accepts o s v → s.device ≡ G → (k : ℕ) → k < 8 → InSet s.usable k
      → word_in v k ≡ 0x4302B7 → state_at o v k ≡ Counts 0xB7 0x02 (Rsp 1 v.filters.rsp1)
  -- a packet: "Event code 0, unit mask 0", with MATCH and MASK
  pub packet : (o : Opening) (s : Setup) (v : RegisterValues) → Accepts o s v → s.device ≡ S → (k : ℕ) → k < 8 → InSet s.usable k
      → word_in v k ≡ enabling_of s → state_at o v k ≡ Counts 0x00 0x00 (MatchMask v.filters.match_word v.filters.mask_word)
  -- every other event has no filter
  pub event : (o : Opening) (s : Setup) (v : RegisterValues) → Accepts o s v → (k c m : ℕ) → k < 8 → InSet s.usable k → c < 256 → m < 256
      → (s.device ≡ G → c ≢ 0xB7) → (s.device ≡ S → c ≢ 0) → word_in v k ≡ enabling_of s + 0x100 * m + c → state_at o v k ≡ Counts c m NoFilter
