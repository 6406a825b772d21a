-- The first row of a table with fields is the first row without them, with the field of its refusal. Assumes nothing.
use Rattle.std.specs.Prelude.{Option, None, Some, Ok, Err}
use mathlib.Core.Path.{◌≡◌, refl, ap, ◌∙◌}
use mathlib.Core.Bool.{Bool, true, false, not}
use mathlib.Core.List.{List, [], ◌∷◌}
use Prim.Native.Nat.{ℕ, ◌+◌, ◌≤◌}
use native.Mathlib.Omega.{arith}
use lib.Dec.{eqb, leb, ltb}
use Rattle.requests.specs.Choice.{both, either, pick, Row, first_holding}
use Rattle.requests.specs.Bits.{only_bits, type_bits, rsp0_bits, match_bits, mask_bits}
use Rattle.requests.specs.Refusals.{answer_for}
use Rattle.requests.specs.Askings.{overflow_not_on, core_fits, overflow_fits}
use Rattle.requests.specs.Devices.{all_fixed, box_count, device_of, usable_set, opens, rows_where, on_device, opening_table, opened_by}
use Rattle.requests.specs.Catalogue.{mask_not_listed}
use Rattle.requests.specs.Checks.{kind_not_on, not_listed_lem, too_wide, out_of_range, incomplete, conflicting, request_rows, request_refusal}
use Rattle.requests.specs.Faults.{at, refusal_in, checked_as, freeze_field, opening_faults, opening_fault_table, request_faults, opening_fault, request_fault, range_field, lack_field, request_fields, opening_field, asking_field, fields_on, opening_fields, field_of, with_field}
use Rattle.requests.specs.declared.Device.{Device}
use Rattle.requests.specs.declared.Setup.{Setup}
use Rattle.requests.specs.declared.Opening.{Opening}
use Rattle.requests.specs.declared.Request.{Request}
use Rattle.requests.specs.declared.Request.TheVariants.{Event, Packet, Offcore, Latency}
use Rattle.requests.specs.declared.Refusal.{Refusal}
use Rattle.requests.specs.declared.Refusal.TheVariants.{BadOpening, KindNotOnDevice, NotListed, OutOfRange, Incomplete, Conflicting}
use Rattle.requests.specs.declared.Fields.{Fields}
use Rattle.requests.proofs.Openings.{opened_some, opened_none, taken_table}

-- ---- requests

-- the rows 7, 8, 10, 9, 11 of five tests
abbrev rows : Bool → Bool → Bool → Bool → Bool → List (Row Refusal)
rows k n r i x = (k, KindNotOnDevice) ∷ (n, NotListed) ∷ (r, OutOfRange) ∷ (i, Incomplete) ∷ (x, Conflicting) ∷ []

abbrev fields : ℕ → ℕ → Fields
fields range lack = record { opening = 0; range = range; lack = lack }

event_rows : (k n m w i : Bool)
    → first_holding ((k, at KindNotOnDevice 0) ∷ (n, at NotListed 2) ∷ (m, at OutOfRange 3) ∷ (w, at OutOfRange 4) ∷ (i, at Incomplete 3) ∷ [])
    ≡ with_field (fields (pick m 3 4) 3) (first_holding (rows k n (either m w) i false))
unfolding first_holding with_field field_of either
event_rows true n m w i = refl
event_rows false true m w i = refl
event_rows false false true w i = refl
event_rows false false false true i = refl
event_rows false false false false true = refl
event_rows false false false false false = refl

packet_rows : (k x y w : Bool)
    → first_holding ((k, at KindNotOnDevice 0) ∷ (not x, at OutOfRange 2) ∷ (not y, at OutOfRange 3) ∷ (w, at OutOfRange 4) ∷ [])
    ≡ with_field (fields (pick x (pick y 4 3) 2) 0) (first_holding (rows k false (either (not x) (either (not y) w)) false false))
unfolding first_holding with_field field_of either
packet_rows true x y w = refl
packet_rows false false y w = refl
packet_rows false true false w = refl
packet_rows false true true true = refl
packet_rows false true true false = refl

offcore_rows : (k o w i x : Bool)
    → first_holding ((k, at KindNotOnDevice 0) ∷ (not o, at OutOfRange 2) ∷ (w, at OutOfRange 3) ∷ (i, at Incomplete 2) ∷ (x, at Conflicting 2) ∷ [])
    ≡ with_field (fields (pick o 3 2) 2) (first_holding (rows k false (either (not o) w) i x))
unfolding first_holding with_field field_of either
offcore_rows true o w i x = refl
offcore_rows false false w i x = refl
offcore_rows false true true i x = refl
offcore_rows false true false true x = refl
offcore_rows false true false false true = refl
offcore_rows false true false false false = refl

latency_rows : (k o a b i : Bool)
    → first_holding ((k, at KindNotOnDevice 0) ∷ (not o, at OutOfRange 2) ∷ (a, at OutOfRange 3) ∷ (b, at OutOfRange 4) ∷ (i, at Incomplete 2) ∷ [])
    ≡ with_field (fields (pick o (pick a 3 4) 2) 2) (first_holding (rows k false (either (not o) (either a b)) i false))
unfolding first_holding with_field field_of either
latency_rows true o a b i = refl
latency_rows false false a b i = refl
latency_rows false true true b i = refl
latency_rows false true false true i = refl
latency_rows false true false false true = refl
latency_rows false true false false false = refl

fault_on : (d : Device) (r : Request)
    → first_holding (request_faults d r)
    ≡ with_field (request_fields d r) (first_holding (rows (kind_not_on d r) (not_listed_lem d r) (out_of_range d r) (incomplete d r) (conflicting d r)))
unfolding request_faults request_fields range_field lack_field not_listed_lem out_of_range incomplete conflicting
fault_on d (Event c m a) =
    event_rows (kind_not_on d (Event c m a)) (not_listed_lem d (Event c m a)) (both (not (eqb m 0)) (mask_not_listed d c m)) (too_wide d a) (incomplete d (Event c m a))
fault_on d (Packet x y a) = packet_rows (kind_not_on d (Packet x y a)) (only_bits match_bits x) (only_bits mask_bits y) (too_wide d a)
fault_on d (Offcore w a) =
    offcore_rows (kind_not_on d (Offcore w a)) (only_bits rsp0_bits w) (too_wide d a) (incomplete d (Offcore w a)) (conflicting d (Offcore w a))
fault_on d (Latency t a b) =
    latency_rows (kind_not_on d (Latency t a b)) (only_bits type_bits t) (too_wide d a) (too_wide d b) (incomplete d (Latency t a b))

-- the fault of a request is its refusal with that field
pub request_told : (s : Setup) (r : Request) → request_fault s r ≡ with_field (request_fields s.device r) (request_refusal s r)
unfolding request_fault request_refusal request_rows
request_told s r = fault_on s.device r

-- ---- openings

opening_rows_lem : (u f b k z c : Bool) (n : ℕ)
    → first_holding ((not u, at BadOpening 2) ∷ (not f, at BadOpening 3) ∷ (not b, at BadOpening 4) ∷ (k, at KindNotOnDevice 0) ∷ (not z, at OutOfRange n) ∷ (not c, at OutOfRange (n + 1)) ∷ [])
    ≡ with_field (record { opening = pick u (pick f 4 3) 2; range = pick z (n + 1) n; lack = 0 })
    (first_holding ((not (both u (both f b)), BadOpening) ∷ (k, KindNotOnDevice) ∷ (not (both z c), OutOfRange) ∷ []))
unfolding first_holding with_field field_of both
opening_rows_lem false f b k z c n = refl
opening_rows_lem true false b k z c n = refl
opening_rows_lem true true false k z c n = refl
opening_rows_lem true true true true z c n = refl
opening_rows_lem true true true false false c n = refl
opening_rows_lem true true true false true false n = refl
opening_rows_lem true true true false true true n = refl

-- the fault of an opening is its refusal with that field
pub opening_told : (o : Opening) → opening_fault o ≡ with_field (opening_fields o) (first_holding (opening_table o))
unfolding opening_fault opening_fault_table opening_faults opening_fields fields_on opening_field asking_field opening_table rows_where on_device opens overflow_fits first_holding with_field field_of
opening_told o = go (device_of o.device o.cbox) refl
  where
    go : (x : Option Device) → device_of o.device o.cbox ≡ x → opening_fault o ≡ with_field (opening_fields o) (first_holding (opening_table o))
    go None h = rw (h, opening_fault, opening_fault_table, opening_fields, opening_table, on_device) refl
    go (Some d) h =
        rw (h, opening_fault, opening_fault_table, opening_fields, opening_table, on_device)
        (opening_rows_lem (usable_set d o.usable) (leb o.fixed (all_fixed d)) (ltb o.cbox (box_count d)) (overflow_not_on d o.overflow) (leb o.overflow.freeze 1) (core_fits o.overflow.core) (freeze_field d))

-- the fields of an opening with the letter of a device, or of none
pub fields_on_lem : (o : Opening) (d : Device) → device_of o.device o.cbox ≡ Some d → opening_fields o ≡ fields_on d o
unfolding opening_fields
fields_on_lem o d h = rw (h, opening_fields)

pub fields_none : (o : Opening) → device_of o.device o.cbox ≡ None → opening_fields o ≡ record { opening = 1; range = 0; lack = 0 }
unfolding opening_fields
fields_none o h = rw (h, opening_fields)

-- ---- the field beside a refusal

-- it falls away
pub field_dropped : (f : Fields) (x : Option Refusal) → refusal_in (with_field f x) ≡ x
unfolding refusal_in with_field
field_dropped f None = refl
field_dropped f (Some x) = refl

-- an answer, and what is told with its field
pub passed_told : (f : Fields) (x : Option Refusal) → answer_for x ≡ (Ok tt) → checked_as (with_field f x) ≡ Ok tt
unfolding answer_for checked_as with_field
passed_told f None e = refl
passed_told f (Some x) e = let z : ◌≡◌ {A = ℕ} 0 1 = cc in absurd (omega arith)

pub failed_told : (f : Fields) (x : Option Refusal) (y : Refusal) → answer_for x ≡ Err y → checked_as (with_field f x) ≡ Err (at y (field_of y f))
unfolding answer_for checked_as with_field
failed_told f None y e = let z : ◌≡◌ {A = ℕ} 0 1 = cc in absurd (omega arith)
failed_told f (Some x) y e = let h : x ≡ y = cc in ap (λ (z : Refusal). Err (at z (field_of z f))) h

-- the field of the freeze is a small number
pub freeze_small : (d : Device) (n : ℕ) → n ≡ freeze_field d → n ≤ 5
unfolding freeze_field
freeze_small d n e = rw e (go (ltb 1 (box_count d)))
  where
    go : (b : Bool) → pick b 5 4 ≤ 5
    go true = omega arith
    go false = omega arith

-- what an opening opens, and what is told of it with its field
pub opening_passes : (o : Opening) (s : Setup) → opened_by o ≡ Ok s → checked_as (opening_fault o) ≡ Ok tt
unfolding checked_as with_field
opening_passes o s e = ap checked_as (opening_told o ∙ ap (with_field (opening_fields o)) (taken_table o s (opened_some o s e)))

pub opening_fails : (o : Opening) (x : Refusal) → opened_by o ≡ Err x → checked_as (opening_fault o) ≡ Err (at x (field_of x (opening_fields o)))
unfolding checked_as with_field
opening_fails o x e = ap checked_as (opening_told o ∙ ap (with_field (opening_fields o)) (opened_none o x e).1)
