-- "Let the counters rest while you write": which writes of a plan's list stand before each of its writes.
use Rattle.std.specs.Prelude.{◌≡◌, ◌≢◌, ◌⊎◌, true, false, ℕ}
use mathlib.Core.List.{List, [], ◌∷◌, ◌++◌, flat_map, Memᴰ}
use Rattle.requests.specs.declared.Setup.{Setup}
use Rattle.requests.specs.declared.Device.TheVariants.{S}
use Rattle.requests.specs.declared.Request.{Request}
use Rattle.requests.specs.Askings.{asked}
use Rattle.requests.specs.Bits.{bit}
use Rattle.plans.specs.declared.Place.{Place}
use Rattle.plans.specs.Lists.{All}
use Rattle.plans.specs.Legal.{Legal, Usable, packets_of}
use Rattle.layouts.specs.Layout.{layout_of, control_at, counter_at_lem, filters_at, mm_cfg_at, match_at, mask_at, ubox_at}
use Rattle.layouts.specs.Writes.{Write, writes, apply}

-- the last of the writes to the address has the value
pub record LastWritten (ws : List Write) (address value : ℕ) : Type 0 where
  pub earlier : List Write
  pub since : List Write
  pub list : ws ≡ earlier ++ (address, value) ∷ since
  pub no_other : All (λ (w : Write). w.0 ≢ address) since

-- a value of the global control register that enables no usable counter
abbrev pub EnablesNone : Setup → ℕ → Type 0
EnablesNone s v = (k : ℕ) → Usable s k → bit k v ≡ false

-- the last value written to it is such a one
abbrev pub Disabled : Setup → List Write → Type 0
Disabled s before = (v : ℕ) × LastWritten before (layout_of s.device).global v × EnablesNone s v

-- every usable counter's select has been written 0
abbrev pub Cleared : Setup → List Write → Type 0
Cleared s before = (k : ℕ) → Usable s k → Memᴰ (control_at s.device k, 0) before

-- and has been written nothing else since
abbrev pub Quiet : Setup → List Write → Type 0
Quiet s before = (k : ℕ) → Usable s k → LastWritten before (control_at s.device k) 0

-- a write to a filter register, or to a usable counter's count
pub data Prepares (s : Setup) (w : Write) : Type 0 where
  filter : Memᴰ w.0 (filters_at s.device) → Prepares s w
  count : (k : ℕ) → Usable s k → w.0 ≡ counter_at_lem s.device k → Prepares s w

-- a write that gives the usable counter k an event
abbrev pub Selects : Setup → ℕ → Write → Type 0
Selects s k w = Usable s k × (w.0 ≡ control_at s.device k) × (w.1 ≢ 0)

-- MATCH and MASK have the words that a request asks for
abbrev pub Matching : List Request → List Write → Type 0
Matching rs before = (x : ℕ) × (y : ℕ) × Memᴰ (x, y) (flat_map packets_of rs) × LastWritten before match_at x × LastWritten before mask_at y

-- a write of the list for the requests, after the writes `before`
pub record AtRest (s : Setup) (rs : List Request) (before : List Write) (w : Write) : Type 0 where
  -- any other register is written while the global control register enables no usable counter
  pub disabled : w.0 ≢ (layout_of s.device).global → Disabled s before
  -- a filter register, a count or an event is written after every usable counter's select is cleared ..
  pub cleared : Prepares s w ⊎ ((k : ℕ) × Selects s k w) → Cleared s before
  -- .. a filter register or a count while no usable counter has an event, an event where its own counter has none
  pub prepared : Prepares s w → Quiet s before
  pub event_alone : (k : ℕ) → Selects s k w → LastWritten before (control_at s.device k) 0
  -- a counter gets its event, and is enabled, after its count is zeroed
  pub event_zeroed : (k : ℕ) → Selects s k w → LastWritten before (counter_at_lem s.device k) 0
  pub start_zeroed : w.0 ≡ (layout_of s.device).global → (k : ℕ) → Usable s k → bit k w.1 ≡ true → LastWritten before (counter_at_lem s.device k) 0
  -- 004, 2.5.3.4: "if MM_CFG[63] == 1, a write to match/mask will produce a GP fault"
  pub match_off : s.device ≡ S → Memᴰ w.0 (match_at ∷ mask_at ∷ []) → LastWritten before mm_cfg_at 0
  -- "Set MM_CFG reg bit 63 to 1 to start matching": after MATCH and MASK
  pub match_set : s.device ≡ S → w.0 ≡ mm_cfg_at → w.1 ≢ 0 → Matching rs before

-- the first write is to the global control register, and enables no usable counter
pub record StoppedFirst (s : Setup) (ws : List Write) : Type 0 where
  pub value : ℕ
  pub later : List Write
  pub list : ws ≡ ((layout_of s.device).global, value) ∷ later
  pub enables_none : EnablesNone s value

-- the last write is to the global control register, and none before it enables a usable counter
pub record EnabledLast (s : Setup) (ws : List Write) : Type 0 where
  pub before : List Write
  pub value : ℕ
  pub list : ws ≡ before ++ ((layout_of s.device).global, value) ∷ []
  pub not_before : All (λ (w : Write). w.0 ≡ (layout_of s.device).global → EnablesNone s w.1) before

pub record Rests (s : Setup) (rs : List Request) (ws : List Write) : Type 0 where
  pub stopped_first : StoppedFirst s ws
  -- at every place of the list
  pub at_rest : (before : List Write) (w : Write) (later : List Write) → ws ≡ before ++ w ∷ later → AtRest s rs before w
  pub enabled_last : EnabledLast s ws

-- where something is asked, two writes of the U-Box frame the list, and the U-Box holds 0 at every write between them
pub record Framed (inner ws : List Write) : Type 0 where
  pub value : ℕ
  pub list : ws ≡ (ubox_at, 0) ∷ inner ++ (ubox_at, value) ∷ []
  pub stopped : (before : List Write) (w : Write) (later : List Write) → inner ≡ before ++ w ∷ later → LastWritten ((ubox_at, 0) ∷ before) ubox_at 0

-- the counters rest while the list of the device's own registers is written, which is all of it where nothing is asked
pub record RestsInside (s : Setup) (rs : List Request) (ws : List Write) : Type 0 where
  pub inner : List Write
  pub rests : Rests s rs inner
  pub alone : asked s ≡ false → ws ≡ inner
  pub framed : asked s ≡ true → Framed inner ws

-- the writes of every legal plan
abbrev pub RestWhileWritten : Type 0
RestWhileWritten = (s : Setup) (rs : List Request) (ps : List Place) → Legal s rs ps → RestsInside s rs (writes s rs ps)

-- the last value written to a register is what it then holds, whatever the registers held before
abbrev pub LastIsHeld : Type 0
LastIsHeld = (ws : List Write) (a v : ℕ) → LastWritten ws a v → (registers : ℕ → ℕ) → apply ws registers a ≡ v
