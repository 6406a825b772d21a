-- Document 02, order 11: the refusal table of a lent session with the field at fault. "3 for the lent records" gives field 0, before the fields of an
-- opening.
use Rattle.std.specs.Prelude.{List, ◌∷◌, ℕ, length, Option}
use Rattle.requests.specs.declared.Device.{Device}
use Rattle.requests.specs.declared.Opening.{Opening}
use Rattle.requests.specs.declared.Entry.{Entry}
use Rattle.requests.specs.declared.Refusal.TheVariants.{CallOrder, BadOpening}
use Rattle.requests.specs.declared.Fault.{Fault}
use Rattle.requests.specs.declared.Fields.{Fields}
use Rattle.requests.specs.Choice.{pick, Row, first_holding}
use Rattle.requests.specs.Faults.{at, opening_fields, request_fields, turns_fields, no_fields}
use Rattle.sessions.specs.Calls.{Call, Open, Add, Drop, Turn, Turns}
use Rattle.sessions.specs.FaultTable.{fault_table}
use Rattle.lent_sessions.specs.Records.{is_count}
use Rattle.lent_sessions.specs.Lent.{plain_with, out_of_order_lem, bad_rows}
use Rattle.lent_sessions.specs.declared.LentSession.{LentSession}

-- the table
unfoldable pub lent_fault_table : LentSession → List Entry → Call → List (Row Fault)
lent_fault_table s rows c =
    (out_of_order_lem s c, at CallOrder 0) ∷ (bad_rows s.setup rows c, at BadOpening 0) ∷ fault_table (length rows) (plain_with s rows) c

-- by which row a call is refused, and at which field; none is an accepted call
unfoldable pub lent_fault : LentSession → List Entry → Call → Option Fault
lent_fault s rows c = first_holding (lent_fault_table s rows c)

-- the fields of an open with n records: a number that may not be lent is no field of its line
unfoldable pub lent_opening_fields : ℕ → Opening → Fields
lent_opening_fields n o = pick (is_count n) (opening_fields o) no_fields

-- the fields of a call with n records
unfoldable pub lent_fields_of : Device → ℕ → Call → Fields
lent_fields_of d n (Open o) = lent_opening_fields n o
lent_fields_of d n (Add id r) = request_fields d r
lent_fields_of d n (Drop id) = no_fields
lent_fields_of d n (Turn room) = no_fields
lent_fields_of d n (Turns m room places) = turns_fields
