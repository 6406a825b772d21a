-- The table with fields is the refusal table with the field of each refusal: by its rows, and the laws of the checks. Assumes nothing.
use Rattle.std.specs.Prelude.{Option, None, Some}
use mathlib.Core.Path.{◌≡◌, refl, ap, sym, ◌∙◌}
use mathlib.Core.List.{List, [], ◌∷◌, ◌++◌}
use mathlib.Core.Bool.{Bool, true, false, not}
use Prim.Native.Nat.{ℕ, ◌*◌}
use lib.Dec.{ltb, leb}
use lib.ListN.{length}
use Rattle.requests.specs.declared.Device.{Device}
use Rattle.requests.specs.declared.Device.TheVariants.{G}
use Rattle.requests.specs.declared.Setup.{Setup}
use Rattle.requests.specs.declared.Request.{Request}
use Rattle.requests.specs.declared.Refusal.{Refusal}
use Rattle.requests.specs.declared.Refusal.TheVariants.{BadId, IdWaiting, IdNotWaiting, OutOfRange, NoPlanAlone, QueueFull, SliceTooShort}
use Rattle.requests.specs.declared.Fault.{Fault}
use Rattle.requests.specs.declared.Fields.{Fields}
use Rattle.requests.specs.Choice.{either, Row, first_holding}
use Rattle.requests.specs.Checks.{request_rows, request_refusal}
use Rattle.requests.specs.Faults.{at, refusal_in, request_faults, opening_fault, request_fault, request_fields, turns_fields, no_fields, field_of, with_field}
use Rattle.requests.proofs.FaultRows.{request_told, opening_told, field_dropped}
use Rattle.plans.specs.Search.{has_plan_lem}
use Rattle.sessions.specs.Turns.{taken, writes_of, lists_of, joined}
use Rattle.sessions.specs.Calls.{Call, Open, Add, Drop, Turn, Turns, Plain, not_open_lem, opened, waits}
use Rattle.sessions.specs.Table.{outside_ids, add_rows, drop_rows, turn_rows, turns_limit, turns_rows, before_open, once_open, table, refusal}
use Rattle.sessions.specs.FaultTable.{add_faults, drop_faults, turn_faults, turns_faults, fault_table, fault, fields_of, On}
use Rattle.sessions.proofs.TableAnswers.{holding_first, holding_rest}

-- ---- rows that stand alone

last_told : (f : Fields) (a b : Bool)
    → first_holding ((a, at NoPlanAlone 0) ∷ (b, at QueueFull 0) ∷ []) ≡ with_field f (first_holding ((a, NoPlanAlone) ∷ (b, QueueFull) ∷ []))
unfolding first_holding with_field field_of
last_told f true b = refl
last_told f false true = refl
last_told f false false = refl

ids_told : (f : Fields) (a b : Bool) (xs : List (Row Fault)) (ys : List (Row Refusal)) → first_holding xs ≡ with_field f (first_holding ys)
    → first_holding ((a, at BadId 1) ∷ (b, at IdWaiting 1) ∷ xs) ≡ with_field f (first_holding ((a, BadId) ∷ (b, IdWaiting) ∷ ys))
unfolding first_holding with_field field_of
ids_told f true b xs ys e = refl
ids_told f false true xs ys e = refl
ids_told f false false xs ys e = e

drop_told : (a b : Bool)
    → first_holding ((a, at BadId 1) ∷ (b, at IdNotWaiting 1) ∷ []) ≡ with_field no_fields (first_holding ((a, BadId) ∷ (b, IdNotWaiting) ∷ []))
unfolding first_holding with_field field_of
drop_told true b = refl
drop_told false true = refl
drop_told false false = refl

turn_told : (a : Bool) → first_holding ((a, at SliceTooShort 0) ∷ []) ≡ with_field no_fields (first_holding ((a, SliceTooShort) ∷ []))
unfolding first_holding with_field field_of
turn_told true = refl
turn_told false = refl

turns_told : (a b : Bool)
    → first_holding ((a, at OutOfRange 1) ∷ (b, at SliceTooShort 0) ∷ []) ≡ with_field turns_fields (first_holding ((a, OutOfRange) ∷ (b, SliceTooShort) ∷ []))
unfolding first_holding with_field field_of turns_fields
turns_told true b = refl
turns_told false true = refl
turns_told false false = refl

-- ---- the checks of a request, and what follows them
module _ (s : Setup) (r : Request) (a b : Bool) where
  abbrev last_faults : List (Row Fault)
  last_faults = (a, at NoPlanAlone 0) ∷ (b, at QueueFull 0) ∷ []

  abbrev last_rows : List (Row Refusal)
  last_rows = (a, NoPlanAlone) ∷ (b, QueueFull) ∷ []

  abbrev fields : Fields
  fields = request_fields s.device r

  abbrev Told : Type 0
  Told = first_holding (request_faults s.device r ++ last_faults) ≡ with_field fields (first_holding (request_rows s r ++ last_rows))

  none_told : request_refusal s r ≡ None → Told
  unfolding request_refusal request_fault with_field
  none_told e =
      holding_rest (request_faults s.device r) last_faults (request_told s r ∙ ap (with_field fields) e)
      ∙ last_told fields a b
      ∙ ap (with_field fields) (sym (holding_rest (request_rows s r) last_rows e))

  some_told : (x : Refusal) → request_refusal s r ≡ Some x → Told
  unfolding request_refusal request_fault with_field
  some_told x e =
      holding_first (request_faults s.device r) last_faults (at x (field_of x fields)) (request_told s r ∙ ap (with_field fields) e)
      ∙ ap (with_field fields) (sym (holding_first (request_rows s r) last_rows x e))

  request_tail : Told
  request_tail = go (request_refusal s r) refl
    where
      go : (x : Option Refusal) → request_refusal s r ≡ x → Told
      go None e = none_told e
      go (Some x) e = some_told x e

-- ---- the calls

pub fields_told : (limit : ℕ) (p : Plain) (c : Call) (d : Device) → On p d → fault limit p c ≡ with_field (fields_of d c) (refusal limit p c)
unfolding fault fault_table add_faults drop_faults turn_faults turns_faults fields_of refusal table before_open once_open add_rows drop_rows turn_rows turns_rows On opening_fault first_holding with_field field_of
fields_told limit not_open_lem (Open o) d h = opening_told o
fields_told limit not_open_lem (Add id r) d h = refl
fields_told limit not_open_lem (Drop id) d h = refl
fields_told limit not_open_lem (Turn room) d h = refl
fields_told limit not_open_lem (Turns n room places) d h = refl
fields_told limit (opened s q) (Open o) d h = refl
fields_told limit (opened s q) (Add id r) d h =
    let alone = not (has_plan_lem s (r ∷ [])) in
    let full = leb limit (length q) in
    rw (sym h)
    (ids_told (request_fields s.device r) (outside_ids id) (waits id q)
    (request_faults s.device r ++ (alone, at NoPlanAlone 0) ∷ (full, at QueueFull 0) ∷ [])
    (request_rows s r ++ (alone, NoPlanAlone) ∷ (full, QueueFull) ∷ [])
    (request_tail s r alone full))
fields_told limit (opened s q) (Drop id) d h = drop_told (outside_ids id) (not (waits id q))
fields_told limit (opened s q) (Turn room) d h = turn_told (ltb room (2 * length (writes_of s (taken s q))))
fields_told limit (opened s q) (Turns n room places) d h =
    turns_told (ltb turns_limit n) (either (ltb room (2 * length (joined (lists_of s n q)))) (ltb places n))

-- any device will do
device_of_lem : (p : Plain) → (d : Device) × On p d
unfolding On
device_of_lem not_open_lem = (G, tt)
device_of_lem (opened s q) = (s.device, refl)

pub numbers_told : (limit : ℕ) (p : Plain) (c : Call) → refusal_in (fault limit p c) ≡ refusal limit p c
numbers_told limit p c =
    let (d, h) = device_of_lem p in
    ap refusal_in (fields_told limit p c d h) ∙ field_dropped (fields_of d c) (refusal limit p c)
