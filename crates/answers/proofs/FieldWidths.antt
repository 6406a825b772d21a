-- The field of a refusal is 0 to 7, whatever the call was given: one digit. Assumes nothing.
use Rattle.std.specs.Prelude.{Option, None, Some}
use mathlib.Core.Bool.{Bool, true, false, not}
use mathlib.Core.Path.{◌≡◌, refl}
use Prim.Native.Nat.{ℕ, ◌+◌, ◌-◌, ◌≤◌}
use native.Mathlib.Omega.{arith}
use lib.Dec.{eqb, ltb, leb}
use Rattle.requests.specs.declared.Device.{Device}
use Rattle.requests.specs.declared.Opening.{Opening}
use Rattle.requests.specs.declared.Request.{Request}
use Rattle.requests.specs.declared.Request.TheVariants.{Event, Packet, Offcore, Latency}
use Rattle.requests.specs.declared.Refusal.{Refusal}
use Rattle.requests.specs.declared.Refusal.TheVariants.{NotInGrammar, CallOrder, BadOpening, BadId, IdWaiting, IdNotWaiting, KindNotOnDevice, NotListed, Incomplete, OutOfRange, Conflicting, NoPlanAlone, QueueFull, SliceTooShort, NotLeftByPlan}
use Rattle.requests.specs.declared.Fault.{Fault}
use Rattle.requests.specs.declared.Fields.{Fields}
use Rattle.requests.specs.Choice.{both, pick}
use Rattle.requests.specs.Bits.{only_bits, type_bits, rsp0_bits, match_bits, mask_bits}
use Rattle.requests.specs.Catalogue.{mask_not_listed}
use Rattle.requests.specs.Checks.{too_wide}
use Rattle.requests.specs.Devices.{all_fixed, box_count, device_of, usable_set}
use Rattle.requests.specs.Faults.{freeze_field, range_field, lack_field, request_fields, opening_field, asking_field, fields_on, opening_fields, turns_fields, no_fields, field_of, with_field}
use Rattle.requests.proofs.FaultRows.{fields_on_lem, fields_none}
use Rattle.sessions.specs.Calls.{Call, Open, Add, Drop, Turn, Turns}
use Rattle.sessions.specs.FaultTable.{fields_of}
use Rattle.names.specs.Named.{named_field}

-- fields of one digit
pub record Small (f : Fields) : Type 0 where
  pub opening : f.opening ≤ 7
  pub range : f.range ≤ 7
  pub lack : f.lack ≤ 7

pick_small : (b : Bool) (i j n : ℕ) → i ≤ n → j ≤ n → pick b i j ≤ n
pick_small true i j n h k = h
pick_small false i j n h k = k

range_small : (d : Device) (r : Request) → range_field d r ≤ 7
unfolding range_field
range_small d (Event c m a) = pick_small (both (not (eqb m 0)) (mask_not_listed d c m)) 3 4 7 (omega arith) (omega arith)
range_small d (Packet x y a) =
    pick_small (only_bits match_bits x) (pick (only_bits mask_bits y) 4 3) 2 7 (pick_small (only_bits mask_bits y) 4 3 7 (omega arith) (omega arith)) (omega arith)
range_small d (Offcore w a) = pick_small (only_bits rsp0_bits w) 3 2 7 (omega arith) (omega arith)
range_small d (Latency t a b) =
    pick_small (only_bits type_bits t) (pick (too_wide d a) 3 4) 2 7 (pick_small (too_wide d a) 3 4 7 (omega arith) (omega arith)) (omega arith)

lack_small : (r : Request) → lack_field r ≤ 7
unfolding lack_field
lack_small (Event c m a) = omega arith
lack_small (Packet x y a) = omega arith
lack_small (Offcore w a) = omega arith
lack_small (Latency t a b) = omega arith

freeze_small : (d : Device) → freeze_field d ≤ 5
unfolding freeze_field
freeze_small d = pick_small (ltb 1 (box_count d)) 5 4 5 (omega arith) (omega arith)

opening_field_small : (d : Device) (o : Opening) → opening_field d o ≤ 7
unfolding opening_field
opening_field_small d o =
    pick_small (usable_set d o.usable) (pick (leb o.fixed (all_fixed d)) 4 3) 2 7
    (pick_small (leb o.fixed (all_fixed d)) 4 3 7 (omega arith) (omega arith)) (omega arith)

asking_field_small : (d : Device) (o : Opening) → asking_field d o ≤ 7
unfolding asking_field
asking_field_small d o =
    pick_small (leb o.overflow.freeze 1) (freeze_field d + 1) (freeze_field d) 7 (omega (arith, freeze_small d)) (omega (arith, freeze_small d))

opening_small : (o : Opening) → Small (opening_fields o)
unfolding fields_on
opening_small o = go (device_of o.device o.cbox) refl
  where
    go : (x : Option Device) → device_of o.device o.cbox ≡ x → Small (opening_fields o)
    go None e = rw (fields_none o e) (record { opening = omega arith; range = omega arith; lack = omega arith })
    go (Some d) e = rw (fields_on_lem o d e) (record { opening = opening_field_small d o; range = asking_field_small d o; lack = omega arith })

-- those of every call
pub call_small : (d : Device) (c : Call) → Small (fields_of d c)
unfolding fields_of request_fields turns_fields no_fields
call_small d (Open o) = opening_small o
call_small d (Add id r) = record { opening = omega arith; range = range_small d r; lack = lack_small r }
call_small d (Drop id) = record { opening = omega arith; range = omega arith; lack = omega arith }
call_small d (Turn room) = record { opening = omega arith; range = omega arith; lack = omega arith }
call_small d (Turns n room places) = record { opening = omega arith; range = omega arith; lack = omega arith }

field_small : (x : Refusal) (f : Fields) → Small f → field_of x f ≤ 7
unfolding field_of
field_small NotInGrammar f s = omega arith
field_small CallOrder f s = omega arith
field_small BadOpening f s = s.opening
field_small BadId f s = omega arith
field_small IdWaiting f s = omega arith
field_small IdNotWaiting f s = omega arith
field_small KindNotOnDevice f s = omega arith
field_small NotListed f s = omega arith
field_small Incomplete f s = s.lack
field_small OutOfRange f s = s.range
field_small Conflicting f s = omega arith
field_small NoPlanAlone f s = omega arith
field_small QueueFull f s = omega arith
field_small SliceTooShort f s = omega arith
field_small NotLeftByPlan f s = omega arith

-- a fault with a field of one digit
abbrev pub OneDigit : Option Fault → Type 0
OneDigit None = Unit {0}
OneDigit (Some f) = f.field ≤ 7

pub told_small : (f : Fields) → Small f → (x : Option Refusal) → OneDigit (with_field f x)
unfolding with_field
told_small f s None = tt
told_small f s (Some x) = field_small x f s

-- in a request by name no field moves right
pub named_small : (k : ℕ) → k ≤ 7 → named_field k ≤ 7
unfolding named_field
named_small k h = pick_small (leb k 2) k (k - 1) 7 h (omega arith)
