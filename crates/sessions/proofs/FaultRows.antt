-- The row by which a call is refused applies in the field that is given, and in no field left of it: by the refusal table for the rows of field 0 and
-- of the id, and by the laws of the checks for the others. Assumes nothing.
use Rattle.std.proofs.lemmas.Option.{none-some, same_Some}
use Rattle.std.specs.Prelude.{Some}
use mathlib.Core.Path.{◌≡◌, refl, sym}
use mathlib.Core.List.{List, [], ◌∷◌, ◌++◌}
use mathlib.Core.Logic.{◌⊎◌, inl, inr, ⊎_elim}
use mathlib.Core.Bool.{Bool, true, false, not}
use Prim.Native.Nat.{ℕ, ◌*◌, ◌<◌}
use native.Mathlib.Omega.{arith}
use lib.Dec.{ltb, leb}
use lib.ListN.{length}
use Rattle.requests.specs.declared.Opening.{Opening}
use Rattle.requests.specs.declared.Setup.{Setup}
use Rattle.requests.specs.declared.Request.{Request}
use Rattle.requests.specs.declared.Entry.{Entry}
use Rattle.requests.specs.declared.Refusal.{Refusal}
use Rattle.requests.specs.declared.Refusal.TheVariants.{CallOrder, BadId, IdWaiting, IdNotWaiting, OutOfRange, NoPlanAlone, QueueFull, SliceTooShort}
use Rattle.requests.specs.declared.Fault.{Fault}
use Rattle.requests.specs.Choice.{either, Row, first_holding}
use Rattle.requests.specs.Refusals.{number_of}
use Rattle.requests.specs.Faults.{at, request_faults, opening_fault, request_fault}
use Rattle.requests.specs.FaultFields.{FailsAt, OpeningFailsAt}
use Rattle.requests.specs.FaultFields as fields
use Rattle.requests.proofs.FaultFields.{fault_fields, not_in_range}
use Rattle.requests.proofs.FailingFields.{request_leftmost}
use Rattle.requests.proofs.FailingOpenings.{opening_leftmost}
use Rattle.plans.specs.Search.{has_plan_lem}
use Rattle.sessions.specs.Turns.{taken, writes_of, lists_of, joined}
use Rattle.sessions.specs.Calls.{Call, Open, Add, Drop, Turn, Turns, Plain, not_open_lem, opened, waits}
use Rattle.sessions.specs.Table.{outside_ids, turns_limit}
use Rattle.sessions.specs.RefusalTable.{Applies, add_before, drop_before, turn_before, turns_before, second_open, no_device, asked_elsewhere, asked_outside, add_id, drop_id, id_waits, id_not_waits, kind, not_listed, lacks, range, many, conflict, alone, full, short, lists_short, ends_short}
use Rattle.sessions.specs.FaultTable.{add_faults, drop_faults, turn_faults, turns_faults, fault_table, fault}
use Rattle.sessions.specs.FaultRows.{AppliesAt, two, twelve, thirteen, fourteen, four, five, six, of_opening, of_request, of_turns, FaultRows}
use Rattle.sessions.proofs.Conditions.{not_test, id_test, waits_test, alone_test, full_test, short_test, many_test, turns_short_test}
use Rattle.sessions.proofs.FaultTable.{fields_told, numbers_told}

-- the row applies in the field of the fault, and in no field left of it
record Leftmost (limit : ℕ) (p : Plain) (c : Call) (f : Fault) : Type 0 where
  applies : AppliesAt limit p c f.refusal f.field
  first : (k : ℕ) → k < f.field → ¬ AppliesAt limit p c f.refusal k

-- ---- the first row that holds

-- it is the first row, or one of the rest
split : {A : Type 0} (row : Row A) (rows : List (Row A)) (a : A) → first_holding (row ∷ rows) ≡ Some a → ((row.0 ≡ true) × (row.1 ≡ a)) ⊎ (first_holding rows ≡ Some a)
unfolding first_holding
split (true, x) rows a e = inl (refl, same_Some x a e)
split (false, x) rows a e = inr e

-- it is of the first table, or of the second
split_tables : {A : Type 0} (xs ys : List (Row A)) (a : A) → first_holding (xs ++ ys) ≡ Some a → (first_holding xs ≡ Some a) ⊎ (first_holding ys ≡ Some a)
unfolding first_holding
split_tables [] ys a e = inr e
split_tables ((true, x) ∷ xs) ys a e = inl e
split_tables ((false, x) ∷ xs) ys a e = split_tables xs ys a e

-- a fault of the first row, where that is leftmost, or of the rest
row : {limit : ℕ} {p : Plain} {c : Call} (b : Bool) (g : Fault) (rows : List (Row Fault)) (f : Fault) → first_holding ((b, g) ∷ rows) ≡ Some f
    → (b ≡ true → Leftmost limit p c g) → (first_holding rows ≡ Some f → Leftmost limit p c f) → Leftmost limit p c f
row b g rows f e here rest = ⊎_elim (λ t. rw (sym t.1) (here t.0)) rest (split (b, g) rows f e)

no_row : {limit : ℕ} {p : Plain} {c : Call} (f : Fault) → first_holding [] ≡ Some f → Leftmost limit p c f
unfolding first_holding
no_row f e = absurd (none-some f e)

-- ---- no field left of it

none_left : {limit : ℕ} {p : Plain} {c : Call} {x : Refusal} (k : ℕ) → k < 0 → ¬ AppliesAt limit p c x k
none_left k l h = absurd (omega arith)

-- a row of field 0
at_verb : {limit : ℕ} {p : Plain} {c : Call} (x : Refusal) → AppliesAt limit p c x 0 → Leftmost limit p c (at x 0)
at_verb x h = record { applies = h; first = none_left }

-- the checks of an opening and of a request do not give the numbers of the id
id_left : {limit : ℕ} (p : Plain) (c : Call) (k : ℕ) → k < 1 → ¬ AppliesAt limit p c BadId k
id_left p c k l (four h) = absurd (omega arith)
id_left p c k l (of_opening h) = elim h [ ]
id_left p c k l (of_request h) = elim h [ ]

waits_left : {limit : ℕ} (p : Plain) (c : Call) (k : ℕ) → k < 1 → ¬ AppliesAt limit p c IdWaiting k
waits_left p c k l (five h) = absurd (omega arith)
waits_left p c k l (of_opening h) = elim h [ ]
waits_left p c k l (of_request h) = elim h [ ]

not_waits_left : {limit : ℕ} (p : Plain) (c : Call) (k : ℕ) → k < 1 → ¬ AppliesAt limit p c IdNotWaiting k
not_waits_left p c k l (six h) = absurd (omega arith)
not_waits_left p c k l (of_opening h) = elim h [ ]
not_waits_left p c k l (of_request h) = elim h [ ]

turns_left : {limit : ℕ} {s : Setup} {q : List Entry} {n room places : ℕ} (k : ℕ) → k < 1 → ¬ AppliesAt limit (opened s q) (Turns n room places) OutOfRange k
turns_left k l (of_turns h) = absurd (omega arith)

-- nor do the other rows give theirs
opening_left : {limit : ℕ} (o : Opening) (x : Refusal) (j : ℕ) → OpeningFailsAt o x j → ((k : ℕ) → k < j → ¬ OpeningFailsAt o x k)
    → (k : ℕ) → k < j → ¬ AppliesAt limit not_open_lem (Open o) x k
opening_left o x j fails left k l (two h) = elim fails [ ]
opening_left o x j fails left k l (twelve h) = elim fails [ ]
opening_left o x j fails left k l (thirteen h) = elim fails [ ]
opening_left o x j fails left k l (fourteen h) = elim fails [ ]
opening_left o x j fails left k l (four h) = elim fails [ ]
opening_left o x j fails left k l (five h) = elim fails [ ]
opening_left o x j fails left k l (six h) = elim fails [ ]
opening_left o x j fails left k l (of_opening h) = left k l h

request_left : {limit : ℕ} (s : Setup) (q : List Entry) (id : ℕ) (r : Request) (x : Refusal) (j : ℕ) → FailsAt s.device r x j
    → ((k : ℕ) → k < j → ¬ FailsAt s.device r x k) → (k : ℕ) → k < j → ¬ AppliesAt limit (opened s q) (Add id r) x k
request_left s q id r x j fails left k l (two h) = elim fails [ ]
request_left s q id r x j fails left k l (twelve h) = elim fails [ ]
request_left s q id r x j fails left k l (thirteen h) = elim fails [ ]
request_left s q id r x j fails left k l (fourteen h) = elim fails [ ]
request_left s q id r x j fails left k l (four h) = elim fails [ ]
request_left s q id r x j fails left k l (five h) = elim fails [ ]
request_left s q id r x j fails left k l (six h) = elim fails [ ]
request_left s q id r x j fails left k l (of_request h) = left k l h

-- ---- the calls

module _ (limit : ℕ) where
  open_fault : (o : Opening) (f : Fault) → opening_fault o ≡ Some f → Leftmost limit not_open_lem (Open o) f
  open_fault o f e =
      let l = opening_leftmost o f e in
      record { applies = of_opening l.fails; first = opening_left o f.refusal f.field l.fails l.first }

  -- 2
  out_of_order : (p : Plain) (c : Call) (f : Fault) → Applies limit p c 2 → first_holding ((true, at CallOrder 0) ∷ []) ≡ Some f → Leftmost limit p c f
  out_of_order p c f h e = row true (at CallOrder 0) [] f e (λ t. at_verb CallOrder (two h)) (no_row f)

  module _ (s : Setup) (q : List Entry) where
    request_fault_lem : (id : ℕ) (r : Request) (f : Fault) → request_fault s r ≡ Some f → Leftmost limit (opened s q) (Add id r) f
    request_fault_lem id r f e =
        let l = request_leftmost s r f e in
        record { applies = of_request l.fails; first = request_left s q id r f.refusal f.field l.fails l.first }

    add_fault : (id : ℕ) (r : Request) (f : Fault) → first_holding (add_faults limit s q id r) ≡ Some f → Leftmost limit (opened s q) (Add id r) f
    unfolding add_faults request_fault
    add_fault id r f e =
        row (outside_ids id) (at BadId 1) _ f e (λ h. record { applies = four (add_id ((id_test id).0 h)); first = id_left (opened s q) (Add id r) })
        (λ e1. row (waits id q) (at IdWaiting 1) _ f e1 (λ h. record { applies = five (id_waits ((waits_test id q).0 h)); first = waits_left (opened s q) (Add id r) })
        (λ e2. ⊎_elim (request_fault_lem id r f) last (split_tables (request_faults s.device r) _ f e2)))
      where
        last : first_holding ((not (has_plan_lem s (r ∷ [])), at NoPlanAlone 0) ∷ (leb limit (length q), at QueueFull 0) ∷ []) ≡ Some f → Leftmost limit (opened s q) (Add id r) f
        last e3 =
            row (not (has_plan_lem s (r ∷ []))) (at NoPlanAlone 0) _ f e3 (λ h. at_verb NoPlanAlone (twelve (alone ((alone_test s r).0 h))))
            (λ e4. row (leb limit (length q)) (at QueueFull 0) [] f e4 (λ h. at_verb QueueFull (thirteen (full ((full_test limit (length q)).0 h)))) (no_row f))

    drop_fault : (id : ℕ) (f : Fault) → first_holding (drop_faults q id) ≡ Some f → Leftmost limit (opened s q) (Drop id) f
    unfolding drop_faults
    drop_fault id f e =
        row (outside_ids id) (at BadId 1) _ f e (λ h. record { applies = four (drop_id ((id_test id).0 h)); first = id_left (opened s q) (Drop id) })
        (λ e1. row (not (waits id q)) (at IdNotWaiting 1) [] f e1
        (λ h. record { applies = six (id_not_waits ((not_test (waits_test id q)).0 h)); first = not_waits_left (opened s q) (Drop id) })
        (no_row f))

    turn_fault : (room : ℕ) (f : Fault) → first_holding (turn_faults s q room) ≡ Some f → Leftmost limit (opened s q) (Turn room) f
    unfolding turn_faults
    turn_fault room f e =
        row (ltb room (2 * length (writes_of s (taken s q)))) (at SliceTooShort 0) [] f e
        (λ h. let t = (short_test s q room).0 h in at_verb SliceTooShort (fourteen (short t.1 t.2)))
        (no_row f)

    turns_fault : (n room places : ℕ) (f : Fault) → first_holding (turns_faults s q n room places) ≡ Some f → Leftmost limit (opened s q) (Turns n room places) f
    unfolding turns_faults
    turns_fault n room places f e =
        row (ltb turns_limit n) (at OutOfRange 1) _ f e (λ h. record { applies = of_turns ((many_test n).0 h); first = turns_left })
        (λ e1. row (either (ltb room (2 * length (joined (lists_of s n q)))) (ltb places n)) (at SliceTooShort 0) [] f e1
        (λ h. at_verb SliceTooShort (fourteen (⊎_elim (λ t. lists_short t.1 t.2) (λ l. ends_short l) ((turns_short_test s q n room places).0 h))))
        (no_row f))

call_fault : (limit : ℕ) (p : Plain) (c : Call) (f : Fault) → fault limit p c ≡ Some f → Leftmost limit p c f
unfolding fault fault_table opening_fault
call_fault limit not_open_lem (Open o) f e = open_fault limit o f e
call_fault limit not_open_lem (Add id r) f e = out_of_order limit not_open_lem (Add id r) f add_before e
call_fault limit not_open_lem (Drop id) f e = out_of_order limit not_open_lem (Drop id) f drop_before e
call_fault limit not_open_lem (Turn room) f e = out_of_order limit not_open_lem (Turn room) f turn_before e
call_fault limit not_open_lem (Turns n room places) f e = out_of_order limit not_open_lem (Turns n room places) f turns_before e
call_fault limit (opened s q) (Open o) f e = out_of_order limit (opened s q) (Open o) f second_open e
call_fault limit (opened s q) (Add id r) f e = add_fault limit s q id r f e
call_fault limit (opened s q) (Drop id) f e = drop_fault limit s q id f e
call_fault limit (opened s q) (Turn room) f e = turn_fault limit s q room f e
call_fault limit (opened s q) (Turns n room places) f e = turns_fault limit s q n room places f e

-- ---- a row that applies in a field applies

opening_applies : (limit : ℕ) (o : Opening) (x : Refusal) (k : ℕ) → OpeningFailsAt o x k → Applies limit not_open_lem (Open o) (number_of x)
unfolding number_of
opening_applies limit o x k (fields.letter h) = no_device ((fault_fields.opening_three o).1 (k, fields.letter h))
opening_applies limit o x k (fields.none_usable d l h) = no_device ((fault_fields.opening_three o).1 (k, fields.none_usable d l h))
opening_applies limit o x k (fields.usable_above d l h) = no_device ((fault_fields.opening_three o).1 (k, fields.usable_above d l h))
opening_applies limit o x k (fields.fixed_above d l h) = no_device ((fault_fields.opening_three o).1 (k, fields.fixed_above d l h))
opening_applies limit o x k (fields.box_above d l h) = no_device ((fault_fields.opening_three o).1 (k, fields.box_above d l h))
opening_applies limit o x k (fields.asked_elsewhere h n) = asked_elsewhere h n
opening_applies limit o x k (fields.freeze_above d l h) = asked_outside (not_in_range o k (fields.freeze_above d l h))
opening_applies limit o x k (fields.core_above d c l e h) = asked_outside (not_in_range o k (fields.core_above d c l e h))

request_applies : (limit : ℕ) (s : Setup) (q : List Entry) (id : ℕ) (r : Request) (x : Refusal) (k : ℕ) → FailsAt s.device r x k → Applies limit (opened s q) (Add id r) (number_of x)
unfolding number_of
request_applies limit s q id r x k (fields.kind h) = kind h
request_applies limit s q id r x k (fields.event_code h) = not_listed h
request_applies limit s q id r x k (fields.event_mask on row out nonzero) = range ((fault_fields.ten s.device r).1 (k, fields.event_mask on row out nonzero))
request_applies limit s q id r x k (fields.event_allowed h) = range ((fault_fields.ten s.device r).1 (k, fields.event_allowed h))
request_applies limit s q id r x k (fields.packet_match h) = range ((fault_fields.ten s.device r).1 (k, fields.packet_match h))
request_applies limit s q id r x k (fields.packet_mask h) = range ((fault_fields.ten s.device r).1 (k, fields.packet_mask h))
request_applies limit s q id r x k (fields.packet_allowed h) = range ((fault_fields.ten s.device r).1 (k, fields.packet_allowed h))
request_applies limit s q id r x k (fields.offcore_word h) = range ((fault_fields.ten s.device r).1 (k, fields.offcore_word h))
request_applies limit s q id r x k (fields.offcore_allowed h) = range ((fault_fields.ten s.device r).1 (k, fields.offcore_allowed h))
request_applies limit s q id r x k (fields.latency_type h) = range ((fault_fields.ten s.device r).1 (k, fields.latency_type h))
request_applies limit s q id r x k (fields.latency_first h) = range ((fault_fields.ten s.device r).1 (k, fields.latency_first h))
request_applies limit s q id r x k (fields.latency_second h) = range ((fault_fields.ten s.device r).1 (k, fields.latency_second h))
request_applies limit s q id r x k (fields.mask_lacks h) = lacks h
request_applies limit s q id r x k (fields.word_lacks h) = lacks h
request_applies limit s q id r x k (fields.type_lacks h) = lacks h
request_applies limit s q id r x k (fields.word_conflicts h) = conflict h

only : (limit : ℕ) (p : Plain) (c : Call) (x : Refusal) (k : ℕ) → AppliesAt limit p c x k → Applies limit p c (number_of x)
unfolding number_of
only limit p c x k (two h) = h
only limit p c x k (twelve h) = h
only limit p c x k (thirteen h) = h
only limit p c x k (fourteen h) = h
only limit p c x k (four h) = h
only limit p c x k (five h) = h
only limit p c x k (six h) = h
only limit p c x k (of_opening {o = o} h) = opening_applies limit o x k h
only limit p c x k (of_request {s = s} {q = q} {id = id} {r = r} h) = request_applies limit s q id r x k h
only limit p c x k (of_turns h) = many h

pub fault_rows : FaultRows
fault_rows =
    record {
      numbers = numbers_told;
      applies = λ limit p c f e. (call_fault limit p c f e).applies;
      leftmost = λ limit p c f e. (call_fault limit p c f e).first;
      only = only;
      fields = fields_told;
    }
