-- Order 12: "The enable bits 1, and 3 with 63, go into IA32_PEBS_ENABLE as that page states, written at 03F1 just before the last write to 038F, and 0 is
-- written there when neither is taken. The list is otherwise G's without 01A6 and 01A7. The reader is given that register too and judges it by the same
-- rule." And of C0/01: "with every other general counter quiet", which "needs the usable set 15, for the reader too".
use Rattle.std.specs.Prelude.{◌≡◌, ◌≢◌, false, ℕ, ◌+◌, ◌<◌, get_or, None, Some}
use mathlib.Core.List.{List, [], ◌∷◌, ◌++◌, Memᴰ}
use Rattle.requests.specs.declared.CounterSet.{CounterSet}
use Rattle.requests.specs.declared.Device.TheVariants.{G, B}
use Rattle.requests.specs.declared.Opening.{Opening}
use Rattle.requests.specs.declared.Setup.{Setup}
use Rattle.requests.specs.declared.Request.{Request}
use Rattle.requests.specs.declared.Request.TheVariants.{Event}
use Rattle.requests.specs.Refusals.{answer_number}
use Rattle.requests.specs.Bits.{bit}
use Rattle.requests.specs.Devices.{setup_of}
use Rattle.requests.specs.Checks.{Formed}
use Rattle.plans.specs.declared.Place.{Place}
use Rattle.plans.specs.Lists.{All}
use Rattle.plans.specs.Legal.{Legal, Usable}
use Rattle.layouts.specs.Writes.{Write, writes, apply}
use Rattle.layouts.specs.Read.{answer_of, read_of}
use Rattle.layouts.specs.ExactReader.{LeavesValues}
use Rattle.layouts.specs.declared.RegisterValues.{RegisterValues}

-- "INST_RETIRED.ALL in its PDIR use (C0/01)" is among the requests
abbrev pub TakesPdir : List Request → Type 0
TakesPdir rs = (a : CounterSet) × Memᴰ (Event 0xC0 0x01 a) rs

-- "MEM_TRANS_RETIRED.PRECISE_STORE (CD/02)" is
abbrev pub TakesStores : List Request → Type 0
TakesStores rs = (a : CounterSet) × Memᴰ (Event 0xCD 0x02 a) rs

-- the value of 03F1 for the requests of a plan: bit 1; bits 3 and 63; 0
pub data Enables (rs : List Request) : ℕ → Type 0 where
  pdir : TakesPdir rs → Enables rs 0x0000000000000002
  stores : TakesStores rs → Enables rs 0x8000000000000008
  neither : ¬ TakesPdir rs → ¬ TakesStores rs → Enables rs 0x0000000000000000

-- the list ends with the writes to 03F1 and 038F, and 03F1 is written nowhere else
pub record WrittenLast (rs : List Request) (ws : List Write) : Type 0 where
  pub earlier : List Write
  pub value : ℕ
  pub last : ℕ
  pub list : ws ≡ earlier ++ (0x03F1, value) ∷ (0x038F, last) ∷ []
  pub once : All (λ (w : Write). w.0 ≢ 0x03F1) earlier
  pub enables : Enables rs value

-- the rest of a list, in its order, without the writes to the addresses
pub data Without (addresses : List ℕ) : List Write → List Write → Type 0 where
  nothing : Without addresses [] []
  left_out : {w : Write} {ws rest : List Write} → Memᴰ w.0 addresses → Without addresses ws rest → Without addresses (w ∷ ws) rest
  kept : {w : Write} {ws rest : List Write} → ¬ Memᴰ w.0 addresses → Without addresses ws rest → Without addresses (w ∷ ws) (w ∷ rest)

-- the same session on G
abbrev pub on_g : Setup → Setup
on_g s = record { device = G; usable = s.usable; fixed = s.fixed; overflow = s.overflow }

-- the reader of a session on B accepts the values
abbrev pub AcceptedOnB : Opening → Setup → RegisterValues → Type 0
AcceptedOnB o s v = (setup_of o ≡ Some s) × (s.device ≡ B) × (answer_number (answer_of (read_of o v)) ≡ None)

pub record PreciseEvents : Type 0 where
  -- on B, in the list of every legal plan of well-formed requests
  pub written : (s : Setup) (rs : List Request) (ps : List Place) → s.device ≡ B → All (Formed s) rs → Legal s rs ps → WrittenLast rs (writes s rs ps)
  -- and on no other device
  pub elsewhere : (s : Setup) (rs : List Request) (ps : List Place) → s.device ≢ B → All (λ (w : Write). w.0 ≢ 0x03F1) (writes s rs ps)
  pub otherwise_as_on_g : (s : Setup) (rs : List Request) (ps : List Place) → s.device ≡ B
      → (rest : List Write) × Without (0x03F1 ∷ []) (writes s rs ps) rest × Without (0x01A6 ∷ 0x01A7 ∷ []) (writes (on_g s) rs ps) rest
  -- beside C0/01 no other counter has an event, nor is enabled
  pub quiet : (s : Setup) (rs : List Request) (ps : List Place) → s.device ≡ B → Legal s rs ps → TakesPdir rs
      → (registers : ℕ → ℕ) (k : ℕ) → k < 4 → k ≢ 1
      → (apply (writes s rs ps) registers (0x0186 + k) ≡ 0) × (bit k (apply (writes s rs ps) registers 0x038F) ≡ false)
  -- the reader: the value is that of the plan which left the values ..
  pub read : (s : Setup) (v : RegisterValues) → s.device ≡ B → (plan : LeavesValues s v) → Enables plan.requests v.pebs
  -- .. and it accepts C0/01 in counter 1 alone, with the usable set 15 and the value 2; CD/02 in counter 3, with its value; and without them 0
  pub read_pdir : (o : Opening) (s : Setup) (v : RegisterValues) → AcceptedOnB o s v → (k : ℕ) → Usable s k → get_or v.control k 0 ≡ 0x4301C0
      → (k ≡ 1) × (s.usable.0 ≡ 15) × ((j : ℕ) → j < 4 → j ≢ 1 → get_or v.control j 0 ≡ 0) × (v.pebs ≡ 0x0000000000000002)
  pub read_stores : (o : Opening) (s : Setup) (v : RegisterValues) → AcceptedOnB o s v → (k : ℕ) → Usable s k → get_or v.control k 0 ≡ 0x4302CD
      → (k ≡ 3) × (v.pebs ≡ 0x8000000000000008)
  pub read_neither : (o : Opening) (s : Setup) (v : RegisterValues) → AcceptedOnB o s v
      → ((k : ℕ) → Usable s k → (get_or v.control k 0 ≢ 0x4301C0) × (get_or v.control k 0 ≢ 0x4302CD)) → v.pebs ≡ 0x0000000000000000
