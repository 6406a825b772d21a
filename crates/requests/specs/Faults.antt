-- Document 02, order 11: the checks with the field at fault, "counted from 0 at the verb; where several fields fail under one number, the leftmost".
-- The fields are those of the lines: `open` letter usable fixed, on C the box, freeze core; `event` id code mask allowed; `packet` id match mask
-- allowed; `offcore` id word allowed; `latency` id type first second. Of order 6's call the number of turns is field 1.
use Rattle.std.specs.Prelude.{List, [], ◌∷◌, true, not, ℕ, ◌+◌, eqb, leb, ltb, Option, None, Some, Result, Ok, Err, ⊤}
use Rattle.requests.specs.Choice.{both, pick, Row, first_holding}
use Rattle.requests.specs.Bits.{only_bits, type_bits, rsp0_bits, match_bits, mask_bits}
use Rattle.requests.specs.Askings.{overflow_not_on, core_fits}
use Rattle.requests.specs.Devices.{all_fixed, box_count, device_of, usable_set}
use Rattle.requests.specs.Catalogue.{mask_not_listed}
use Rattle.requests.specs.Checks.{kind_not_on, not_listed_lem, too_wide, incomplete, conflicting}
use Rattle.requests.specs.declared.Device.{Device}
use Rattle.requests.specs.declared.Setup.{Setup}
use Rattle.requests.specs.declared.Opening.{Opening}
use Rattle.requests.specs.declared.Request.{Request}
use Rattle.requests.specs.declared.Request.TheVariants.{Event, Packet, Offcore, Latency}
use Rattle.requests.specs.declared.Refusal.{Refusal}
use Rattle.requests.specs.declared.Refusal.TheVariants.{NotInGrammar, CallOrder, BadOpening, BadId, IdWaiting, IdNotWaiting, KindNotOnDevice, NotListed, Incomplete, OutOfRange, Conflicting, NoPlanAlone, QueueFull, SliceTooShort, NotLeftByPlan}
use Rattle.requests.specs.Answers.{Answer}
use Rattle.requests.specs.declared.Fault.{Fault}
use Rattle.requests.specs.declared.Fields.{Fields}

-- a refusal at a field
abbrev pub at : Refusal → ℕ → Fault
at x k = record { refusal = x; field = k }

-- the refusal of a fault, without the field
unfoldable pub refusal_in : Option Fault → Option Refusal
refusal_in None = None
refusal_in (Some f) = Some f.refusal

-- a fault, as it is answered
unfoldable pub checked_as : Option Fault → Result ⊤ Fault
checked_as None = Ok tt
checked_as (Some f) = Err f

-- ---- the tables: rows in the order in which they are checked, and under one number from the left

-- the field of the freeze: it stands behind the box, where the device has several
unfoldable pub freeze_field : Device → ℕ
freeze_field d = pick (ltb 1 (box_count d)) 5 4

-- what a device finds in an opening: 3, 7, 10
unfoldable pub opening_faults : Device → Opening → List (Row Fault)
opening_faults d o =
    (not (usable_set d o.usable), at BadOpening 2)
    ∷ (not (leb o.fixed (all_fixed d)), at BadOpening 3)
    ∷ (not (ltb o.cbox (box_count d)), at BadOpening 4)
    ∷ (overflow_not_on d o.overflow, at KindNotOnDevice 0)
    ∷ (not (leb o.overflow.freeze 1), at OutOfRange (freeze_field d))
    ∷ (not (core_fits o.overflow.core), at OutOfRange (freeze_field d + 1))
    ∷ []

-- the same of every opening: 3 at the letter where no device has it
unfoldable pub opening_fault_table : Opening → List (Row Fault)
opening_fault_table o = elim (device_of o.device o.cbox) [ None ↦ (true, at BadOpening 1) ∷ [] | Some d ↦ opening_faults d o ]

-- what a device finds in a request: 7, 8, 10, 9, 11
unfoldable pub request_faults : Device → Request → List (Row Fault)
request_faults d (Event c m a) =
    (kind_not_on d (Event c m a), at KindNotOnDevice 0)
    ∷ (not_listed_lem d (Event c m a), at NotListed 2)
    ∷ (both (not (eqb m 0)) (mask_not_listed d c m), at OutOfRange 3)
    ∷ (too_wide d a, at OutOfRange 4)
    ∷ (incomplete d (Event c m a), at Incomplete 3)
    ∷ []
request_faults d (Packet x y a) =
    (kind_not_on d (Packet x y a), at KindNotOnDevice 0)
    ∷ (not (only_bits match_bits x), at OutOfRange 2)
    ∷ (not (only_bits mask_bits y), at OutOfRange 3)
    ∷ (too_wide d a, at OutOfRange 4)
    ∷ []
request_faults d (Offcore w a) =
    (kind_not_on d (Offcore w a), at KindNotOnDevice 0)
    ∷ (not (only_bits rsp0_bits w), at OutOfRange 2)
    ∷ (too_wide d a, at OutOfRange 3)
    ∷ (incomplete d (Offcore w a), at Incomplete 2)
    ∷ (conflicting d (Offcore w a), at Conflicting 2)
    ∷ []
request_faults d (Latency t a b) =
    (kind_not_on d (Latency t a b), at KindNotOnDevice 0)
    ∷ (not (only_bits type_bits t), at OutOfRange 2)
    ∷ (too_wide d a, at OutOfRange 3)
    ∷ (too_wide d b, at OutOfRange 4)
    ∷ (incomplete d (Latency t a b), at Incomplete 2)
    ∷ []

-- the fault of an opening
unfoldable pub opening_fault : Opening → Option Fault
opening_fault o = first_holding (opening_fault_table o)

-- the fault of a request
unfoldable pub request_fault : Setup → Request → Option Fault
request_fault s r = first_holding (request_faults s.device r)

-- ---- the field of a refusal, once the number is known: what the call was given matters under 3, 10 and 9 alone

-- the field of an event, a packet, an offcore or a latency request that is refused with 10
unfoldable pub range_field : Device → Request → ℕ
range_field d (Event c m a) = pick (both (not (eqb m 0)) (mask_not_listed d c m)) 3 4
range_field d (Packet x y a) = pick (only_bits match_bits x) (pick (only_bits mask_bits y) 4 3) 2
range_field d (Offcore w a) = pick (only_bits rsp0_bits w) 3 2
range_field d (Latency t a b) = pick (only_bits type_bits t) (pick (too_wide d a) 3 4) 2

-- of one that is refused with 9
unfoldable pub lack_field : Request → ℕ
lack_field (Event c m a) = 3
lack_field (Packet x y a) = 0
lack_field (Offcore w a) = 2
lack_field (Latency t a b) = 2

-- the fields of an add
unfoldable pub request_fields : Device → Request → Fields
request_fields d r = record { opening = 0; range = range_field d r; lack = lack_field r }

-- the field of an opening that the device refuses with 3, or with 10
unfoldable pub opening_field : Device → Opening → ℕ
opening_field d o = pick (usable_set d o.usable) (pick (leb o.fixed (all_fixed d)) 4 3) 2

unfoldable pub asking_field : Device → Opening → ℕ
asking_field d o = pick (leb o.overflow.freeze 1) (freeze_field d + 1) (freeze_field d)

-- the fields of an open, by the device of its letter
unfoldable pub fields_on : Device → Opening → Fields
fields_on d o = record { opening = opening_field d o; range = asking_field d o; lack = 0 }

unfoldable pub opening_fields : Opening → Fields
opening_fields o = elim (device_of o.device o.cbox) [ None ↦ record { opening = 1; range = 0; lack = 0 } | Some d ↦ fields_on d o ]

-- those of order 6's call: 10 is at the number of turns
unfoldable pub turns_fields : Fields
turns_fields = record { opening = 0; range = 1; lack = 0 }

-- those of a drop and a turn
unfoldable pub no_fields : Fields
no_fields = record { opening = 0; range = 0; lack = 0 }

-- "Refusals 2, 7, 12, 13 and 14 .. give field 0; 8 gives the code's field"; 4, 5 and 6 are at the id, 11 at the word
unfoldable pub field_of : Refusal → Fields → ℕ
field_of NotInGrammar f = 0
field_of CallOrder f = 0
field_of BadOpening f = f.opening
field_of BadId f = 1
field_of IdWaiting f = 1
field_of IdNotWaiting f = 1
field_of KindNotOnDevice f = 0
field_of NotListed f = 2
field_of Incomplete f = f.lack
field_of OutOfRange f = f.range
field_of Conflicting f = 2
field_of NoPlanAlone f = 0
field_of QueueFull f = 0
field_of SliceTooShort f = 0
field_of NotLeftByPlan f = 0

-- the field of an answer: 0 where the call is accepted
unfoldable pub answer_field : Answer → Fields → ℕ
answer_field (Ok tt) f = 0
answer_field (Err x) f = field_of x f

-- a refusal with its field
unfoldable pub with_field : Fields → Option Refusal → Option Fault
with_field f None = None
with_field f (Some x) = Some (at x (field_of x f))
