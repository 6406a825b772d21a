-- Document 02, order 11: the field of each row of the refusal table, in the words of document 01 and the orders, and what it settles for every call:
-- "Numbers and their order stay", and the field is the leftmost that fails under the number.
use Rattle.std.specs.Prelude.{◌≡◌, ℕ, ◌<◌, List, Some}
use Rattle.requests.specs.declared.Device.{Device}
use Rattle.requests.specs.declared.Opening.{Opening}
use Rattle.requests.specs.declared.Setup.{Setup}
use Rattle.requests.specs.declared.Request.{Request}
use Rattle.requests.specs.declared.Entry.{Entry}
use Rattle.requests.specs.declared.Refusal.{Refusal}
use Rattle.requests.specs.declared.Refusal.TheVariants.{CallOrder, BadId, IdWaiting, IdNotWaiting, OutOfRange, NoPlanAlone, QueueFull, SliceTooShort}
use Rattle.requests.specs.declared.Fault.{Fault}
use Rattle.requests.specs.Refusals.{number_of}
use Rattle.requests.specs.Faults.{refusal_in, with_field}
use Rattle.requests.specs.FaultFields.{FailsAt, OpeningFailsAt}
use Rattle.sessions.specs.Calls.{Call, Open, Add, Turns, Plain, not_open_lem, opened}
use Rattle.sessions.specs.Table.{refusal}
use Rattle.sessions.specs.RefusalTable.{Applies}
use Rattle.sessions.specs.FaultTable.{fault, fields_of, On}

-- the row of this refusal applies to the call in the state, and fails in this field of the call
pub data AppliesAt (limit : ℕ) : Plain → Call → Refusal → ℕ → Type 0 where
  -- "Refusals 2, 7, 12, 13 and 14 .. give field 0": 7 is among the rows of an opening and of a request
  two : {p : Plain} {c : Call} → Applies limit p c 2 → AppliesAt limit p c CallOrder 0
  twelve : {p : Plain} {c : Call} → Applies limit p c 12 → AppliesAt limit p c NoPlanAlone 0
  thirteen : {p : Plain} {c : Call} → Applies limit p c 13 → AppliesAt limit p c QueueFull 0
  fourteen : {p : Plain} {c : Call} → Applies limit p c 14 → AppliesAt limit p c SliceTooShort 0
  -- the id
  four : {p : Plain} {c : Call} → Applies limit p c 4 → AppliesAt limit p c BadId 1
  five : {p : Plain} {c : Call} → Applies limit p c 5 → AppliesAt limit p c IdWaiting 1
  six : {p : Plain} {c : Call} → Applies limit p c 6 → AppliesAt limit p c IdNotWaiting 1
  -- 3, 7, 10 of an opening; 7 to 11 of a request
  of_opening : {o : Opening} {x : Refusal} {k : ℕ} → OpeningFailsAt o x k → AppliesAt limit not_open_lem (Open o) x k
  of_request : {s : Setup} {q : List Entry} {id : ℕ} {r : Request} {x : Refusal} {k : ℕ} → FailsAt s.device r x k → AppliesAt limit (opened s q) (Add id r) x k
  -- order 6: "n is 0 to 64, above that 10"
  of_turns : {s : Setup} {q : List Entry} {n room places : ℕ} → 64 < n → AppliesAt limit (opened s q) (Turns n room places) OutOfRange 1

pub record FaultRows : Type 0 where
  -- "Numbers and their order stay": without the field it is the refusal table
  pub numbers : (limit : ℕ) (p : Plain) (c : Call) → refusal_in (fault limit p c) ≡ refusal limit p c
  -- the row applies in the field that is given, and in no field left of it
  pub applies : (limit : ℕ) (p : Plain) (c : Call) (f : Fault) → fault limit p c ≡ Some f → AppliesAt limit p c f.refusal f.field
  pub leftmost : (limit : ℕ) (p : Plain) (c : Call) (f : Fault) → fault limit p c ≡ Some f → (k : ℕ) → k < f.field → ¬ AppliesAt limit p c f.refusal k
  -- a row that applies in a field is one of the refusal table
  pub only : (limit : ℕ) (p : Plain) (c : Call) (x : Refusal) (k : ℕ) → AppliesAt limit p c x k → Applies limit p c (number_of x)
  -- once the number is known, the field depends on the arguments of the call and the device alone
  pub fields : (limit : ℕ) (p : Plain) (c : Call) (d : Device) → On p d → fault limit p c ≡ with_field (fields_of d c) (refusal limit p c)
