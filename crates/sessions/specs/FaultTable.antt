-- Document 02, order 11: the refusal table with the field at fault, for every call, in the order in which it is checked, and under one number from the
-- left. "Refusals 2, 7, 12, 13 and 14 .. give field 0"; 4, 5 and 6 are at the id, 10 of turns at once at their number.
use Rattle.std.specs.Prelude.{◌≡◌, List, [], ◌∷◌, ◌++◌, true, not, ℕ, ◌*◌, ltb, leb, length, Option}
use Rattle.requests.specs.declared.Device.{Device}
use Rattle.requests.specs.declared.Setup.{Setup}
use Rattle.requests.specs.declared.Request.{Request}
use Rattle.requests.specs.declared.Entry.{Entry}
use Rattle.requests.specs.declared.Refusal.TheVariants.{CallOrder, BadId, IdWaiting, IdNotWaiting, OutOfRange, NoPlanAlone, QueueFull, SliceTooShort}
use Rattle.requests.specs.declared.Fault.{Fault}
use Rattle.requests.specs.declared.Fields.{Fields}
use Rattle.requests.specs.Choice.{either, Row, first_holding}
use Rattle.requests.specs.Faults.{at, opening_fault_table, request_faults, opening_fields, request_fields, turns_fields, no_fields}
use Rattle.plans.specs.Search.{has_plan_lem}
use Rattle.sessions.specs.Turns.{taken, writes_of, lists_of, joined}
use Rattle.sessions.specs.Calls.{Call, Open, Add, Drop, Turn, Turns, Plain, not_open_lem, opened, waits}
use Rattle.sessions.specs.Table.{outside_ids, turns_limit}

-- the rows of each call past 2
unfoldable pub add_faults : ℕ → Setup → List Entry → ℕ → Request → List (Row Fault)
add_faults limit s q id r =
    (outside_ids id, at BadId 1) ∷ (waits id q, at IdWaiting 1)
    ∷ request_faults s.device r ++ (not (has_plan_lem s (r ∷ [])), at NoPlanAlone 0) ∷ (leb limit (length q), at QueueFull 0) ∷ []

unfoldable pub drop_faults : List Entry → ℕ → List (Row Fault)
drop_faults q id = (outside_ids id, at BadId 1) ∷ (not (waits id q), at IdNotWaiting 1) ∷ []

unfoldable pub turn_faults : Setup → List Entry → ℕ → List (Row Fault)
turn_faults s q room = (ltb room (2 * length (writes_of s (taken s q))), at SliceTooShort 0) ∷ []

unfoldable pub turns_faults : Setup → List Entry → ℕ → ℕ → ℕ → List (Row Fault)
turns_faults s q n room places =
    (ltb turns_limit n, at OutOfRange 1) ∷ (either (ltb room (2 * length (joined (lists_of s n q)))) (ltb places n), at SliceTooShort 0) ∷ []

-- the table
unfoldable pub fault_table : ℕ → Plain → Call → List (Row Fault)
fault_table limit not_open_lem (Open o) = opening_fault_table o
fault_table limit not_open_lem (Add id r) = (true, at CallOrder 0) ∷ []
fault_table limit not_open_lem (Drop id) = (true, at CallOrder 0) ∷ []
fault_table limit not_open_lem (Turn room) = (true, at CallOrder 0) ∷ []
fault_table limit not_open_lem (Turns n room places) = (true, at CallOrder 0) ∷ []
fault_table limit (opened s q) (Open o) = (true, at CallOrder 0) ∷ []
fault_table limit (opened s q) (Add id r) = add_faults limit s q id r
fault_table limit (opened s q) (Drop id) = drop_faults q id
fault_table limit (opened s q) (Turn room) = turn_faults s q room
fault_table limit (opened s q) (Turns n room places) = turns_faults s q n room places

-- by which row a call is refused in a state, and at which field; none is an accepted call
unfoldable pub fault : ℕ → Plain → Call → Option Fault
fault limit p c = first_holding (fault_table limit p c)

-- the fields of a call on a device
unfoldable pub fields_of : Device → Call → Fields
fields_of d (Open o) = opening_fields o
fields_of d (Add id r) = request_fields d r
fields_of d (Drop id) = no_fields
fields_of d (Turn room) = no_fields
fields_of d (Turns n room places) = turns_fields

-- the device of a state, where it has one
unfoldable pub On : Plain → Device → Type 0
On not_open_lem d = Unit {0}
On (opened s q) d = s.device ≡ d
