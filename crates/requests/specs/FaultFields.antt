-- Document 02, order 11: "The checks of a request shall give, beside the number, the field at fault, counted from 0 at the verb; where several fields
-- fail under one number, the leftmost." What fails in which field, in the words of the rows of document 01 and the orders, a constructor for each
-- number and field of a line.
use Rattle.std.specs.Prelude.{◌≡◌, ◌↔◌, ℕ, suc, ◌<◌, Some}
use Rattle.requests.specs.Bits.{type_bits, rsp0_bits, match_bits, mask_bits}
use Rattle.requests.specs.Choice.{first_holding}
use Rattle.requests.specs.Devices.{all_counters, opening_table}
use Rattle.requests.specs.MaskRules.{MaskRule}
use Rattle.requests.specs.Checks.{request_refusal}
use Rattle.requests.specs.Openings.{letter_code, most_usable, most_fixed, most_box, NothingAsked, InRange, NotAsked, GivenFor}
use Rattle.requests.specs.RefusedRequests.{HasReserved, Lists, InCatalogue, CodesOn}
use Rattle.requests.specs.RefusedRequests as rows
use Rattle.requests.specs.Faults.{refusal_in, opening_fault, request_fault}
use Rattle.requests.specs.declared.CounterSet.{CounterSet}
use Rattle.requests.specs.declared.Device.{Device}
use Rattle.requests.specs.declared.Device.TheVariants.{G, S, C, B}
use Rattle.requests.specs.declared.Setup.{Setup}
use Rattle.requests.specs.declared.Opening.{Opening}
use Rattle.requests.specs.declared.Request.{Request}
use Rattle.requests.specs.declared.Request.TheVariants.{Event, Packet, Offcore, Latency}
use Rattle.requests.specs.declared.Refusal.{Refusal}
use Rattle.requests.specs.declared.Refusal.TheVariants.{BadOpening, KindNotOnDevice, NotListed, OutOfRange, Incomplete, Conflicting}
use Rattle.requests.specs.declared.Fault.{Fault}

-- the request, on the device, fails under this refusal in this field
pub data FailsAt : Device → Request → Refusal → ℕ → Type 0 where
  -- 7: "7 .. give field 0"
  kind : {d : Device} {r : Request} → rows.KindNotOn d r → FailsAt d r KindNotOnDevice 0
  -- 8: "8 gives the code's field", also where the mask alone makes the pair unlisted
  event_code : {d : Device} {c m : ℕ} {a : CounterSet} → rows.NotListed d (Event c m a) → FailsAt d (Event c m a) NotListed 2
  -- 10: `event` id code mask allowed
  event_mask : {d : Device} {c m : ℕ} {masks : MaskRule} {a : CounterSet} → CodesOn d → InCatalogue d c masks → ¬ Lists masks m → ¬ (m ≡ 0) → FailsAt d (Event c m a) OutOfRange 3
  event_allowed : {d : Device} {c m : ℕ} {a : CounterSet} → all_counters d < a.0 → FailsAt d (Event c m a) OutOfRange 4
  -- 10: `packet` id match mask allowed
  packet_match : {d : Device} {x y : ℕ} {a : CounterSet} → HasReserved match_bits x → FailsAt d (Packet x y a) OutOfRange 2
  packet_mask : {d : Device} {x y : ℕ} {a : CounterSet} → HasReserved mask_bits y → FailsAt d (Packet x y a) OutOfRange 3
  packet_allowed : {d : Device} {x y : ℕ} {a : CounterSet} → all_counters d < a.0 → FailsAt d (Packet x y a) OutOfRange 4
  -- 10: `offcore` id word allowed
  offcore_word : {d : Device} {w : ℕ} {a : CounterSet} → HasReserved rsp0_bits w → FailsAt d (Offcore w a) OutOfRange 2
  offcore_allowed : {d : Device} {w : ℕ} {a : CounterSet} → all_counters d < a.0 → FailsAt d (Offcore w a) OutOfRange 3
  -- 10: `latency` id type first second
  latency_type : {d : Device} {t : ℕ} {a b : CounterSet} → HasReserved type_bits t → FailsAt d (Latency t a b) OutOfRange 2
  latency_first : {d : Device} {t : ℕ} {a b : CounterSet} → all_counters d < a.0 → FailsAt d (Latency t a b) OutOfRange 3
  latency_second : {d : Device} {t : ℕ} {a b : CounterSet} → all_counters d < b.0 → FailsAt d (Latency t a b) OutOfRange 4
  -- 9: the mask of an event, the word, the type
  mask_lacks : {d : Device} {c m : ℕ} {a : CounterSet} → rows.Incomplete d (Event c m a) → FailsAt d (Event c m a) Incomplete 3
  word_lacks : {d : Device} {w : ℕ} {a : CounterSet} → rows.Incomplete d (Offcore w a) → FailsAt d (Offcore w a) Incomplete 2
  type_lacks : {d : Device} {t : ℕ} {a b : CounterSet} → rows.Incomplete d (Latency t a b) → FailsAt d (Latency t a b) Incomplete 2
  -- 11: the word
  word_conflicts : {d : Device} {w : ℕ} {a : CounterSet} → rows.Conflicting d (Offcore w a) → FailsAt d (Offcore w a) Conflicting 2

-- where the freeze stands in the `open` line of a device: letter usable fixed freeze core, on C letter usable fixed box freeze core
abbrev pub freeze_at : Device → ℕ
freeze_at G = 4
freeze_at S = 4
freeze_at (C b) = 5
freeze_at B = 4

-- the opening fails under this refusal in this field
pub data OpeningFailsAt (o : Opening) : Refusal → ℕ → Type 0 where
  -- 3: "device unknown"
  letter : ((d : Device) → ¬ (o.device ≡ letter_code d)) → OpeningFailsAt o BadOpening 1
  -- "usable set 0 or above" the device's bound
  none_usable : (d : Device) → o.device ≡ letter_code d → o.usable.0 ≡ 0 → OpeningFailsAt o BadOpening 2
  usable_above : (d : Device) → o.device ≡ letter_code d → most_usable d < o.usable.0 → OpeningFailsAt o BadOpening 2
  -- fixed enables that the device has not
  fixed_above : (d : Device) → o.device ≡ letter_code d → most_fixed d < o.fixed → OpeningFailsAt o BadOpening 3
  -- a box that the device has not, over the calls also one on G, S or B
  box_above : (d : Device) → o.device ≡ letter_code d → most_box d < o.cbox → OpeningFailsAt o BadOpening 4
  -- 7: "asking on G", and on B
  asked_elsewhere : NotAsked o → ¬ NothingAsked o.overflow → OpeningFailsAt o KindNotOnDevice 0
  -- 10: "freeze 0 or 1 (else 10)", "A core number that does not fit the field"
  freeze_above : (d : Device) → o.device ≡ letter_code d → 1 < o.overflow.freeze → OpeningFailsAt o OutOfRange (freeze_at d)
  core_above : (d : Device) (c : ℕ) → o.device ≡ letter_code d → o.overflow.core ≡ Some c → 7 < c → OpeningFailsAt o OutOfRange (suc (freeze_at d))

pub record FaultFields : Type 0 where
  -- "Numbers and their order stay": without the field, it is the answer of the checks
  pub numbers : (s : Setup) (r : Request) → refusal_in (request_fault s r) ≡ request_refusal s r
  pub opening_numbers : (o : Opening) → refusal_in (opening_fault o) ≡ first_holding (opening_table o)
  -- it fails in the field that is given, and under that number in no field left of it
  pub fails : (s : Setup) (r : Request) (f : Fault) → request_fault s r ≡ Some f → FailsAt s.device r f.refusal f.field
  pub leftmost : (s : Setup) (r : Request) (f : Fault) → request_fault s r ≡ Some f → (k : ℕ) → k < f.field → ¬ FailsAt s.device r f.refusal k
  pub opening_fails : (o : Opening) (f : Fault) → opening_fault o ≡ Some f → OpeningFailsAt o f.refusal f.field
  pub opening_leftmost : (o : Opening) (f : Fault) → opening_fault o ≡ Some f → (k : ℕ) → k < f.field → ¬ OpeningFailsAt o f.refusal k
  -- the fields share out what document 01 and the orders say of each number
  pub seven : (d : Device) (r : Request) → rows.KindNotOn d r ↔ ((k : ℕ) × FailsAt d r KindNotOnDevice k)
  pub eight : (d : Device) (r : Request) → rows.NotListed d r ↔ ((k : ℕ) × FailsAt d r NotListed k)
  pub nine : (d : Device) (r : Request) → rows.Incomplete d r ↔ ((k : ℕ) × FailsAt d r Incomplete k)
  pub ten : (d : Device) (r : Request) → rows.OutOfRange d r ↔ ((k : ℕ) × FailsAt d r OutOfRange k)
  pub eleven : (d : Device) (r : Request) → rows.Conflicting d r ↔ ((k : ℕ) × FailsAt d r Conflicting k)
  pub opening_three : (o : Opening) → ((d : Device) → ¬ GivenFor o d) ↔ ((k : ℕ) × OpeningFailsAt o BadOpening k)
  pub opening_seven : (o : Opening) → (NotAsked o × (¬ NothingAsked o.overflow)) ↔ ((k : ℕ) × OpeningFailsAt o KindNotOnDevice k)
  pub opening_ten : (o : Opening) (d : Device) → o.device ≡ letter_code d → (¬ InRange o.overflow) ↔ ((k : ℕ) × OpeningFailsAt o OutOfRange k)
