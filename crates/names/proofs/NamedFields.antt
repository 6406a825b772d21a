-- The field of a named request is that of the event that its name stands for, with code and mask at the name. Assumes nothing.
use Rattle.std.proofs.lemmas.Option.{same_Some}
use Rattle.std.specs.Prelude.{None, Some}
use mathlib.Core.Path.{◌≡◌, refl, ap, sym, subst, ◌∙◌}
use mathlib.Core.List.{List}
use Prim.Native.Nat.{ℕ, ◌<◌}
use native.Mathlib.Omega.{arith}
use Rattle.requests.specs.Devices.{letter_of}
use Rattle.requests.specs.Checks.{request_refusal}
use Rattle.requests.specs.Faults.{at, request_fault, request_fields, with_field, field_of}
use Rattle.requests.specs.FaultFields.{FailsAt, kind, event_code, event_mask, event_allowed}
use Rattle.requests.specs.FaultFields as fields
use Rattle.requests.specs.declared.CounterSet.{CounterSet}
use Rattle.requests.specs.declared.Device.{Device}
use Rattle.requests.specs.declared.Fault.{Fault}
use Rattle.requests.specs.declared.Refusal.{Refusal}
use Rattle.requests.specs.declared.Refusal.TheVariants.{KindNotOnDevice, NotListed}
use Rattle.requests.specs.declared.Request.{Request}
use Rattle.requests.specs.declared.Request.TheVariants.{Event}
use Rattle.requests.specs.declared.Setup.{Setup}
use Rattle.requests.proofs.FaultRows.{request_told}
use Rattle.requests.proofs.FaultFields.{fault_fields}
use Rattle.names.specs.Lists.{NameLists}
use Rattle.names.specs.LookUp.{row_named}
use Rattle.names.specs.Named.{request_named, named_field}
use Rattle.names.specs.NamedRequests.{Finds}
use Rattle.names.specs.NamedFields.{RowFailsAt, not_listed, mask_lacks, mask_out, allowed, NamedFields}
use Rattle.names.specs.declared.Row.{Row}
use Rattle.names.proofs.Requesting.{named_requests}

-- where the event of a row fails, the row does
row_fails : (d : Device) (row : Row) (a : CounterSet) (x : Refusal) (k : ℕ) → FailsAt d (Event row.code row.mask a) x k → RowFailsAt d row a x (named_field k)
unfolding named_field
row_fails d row a x k (kind h) = elim h [ ]
row_fails d row a x k (event_code h) = not_listed h
row_fails d row a x k (event_mask on listed out nonzero) = mask_out on listed out nonzero
row_fails d row a x k (event_allowed h) = allowed h
row_fails d row a x k (fields.mask_lacks h) = mask_lacks h

-- where the event fails in a field and in none left of it, so does the row
row_left : (d : Device) (row : Row) (a : CounterSet) (x : Refusal) (j : ℕ) → FailsAt d (Event row.code row.mask a) x j
    → ((k : ℕ) → k < j → ¬ FailsAt d (Event row.code row.mask a) x k) → (k : ℕ) → k < named_field j → ¬ RowFailsAt d row a x k
unfolding named_field
row_left d row a x j (kind h) left k l r = elim h [ ]
row_left d row a x j (event_code h) left k l (not_listed r) = absurd (omega arith)
row_left d row a x j (event_mask on listed out nonzero) left k l (mask_out p q r z) = absurd (omega arith)
row_left d row a x j (event_mask on listed out nonzero) left k l (allowed r) = absurd (omega arith)
row_left d row a x j (event_allowed h) left k l (mask_out p q r z) = left 3 (omega arith) (event_mask p q r z)
row_left d row a x j (event_allowed h) left k l (allowed r) = absurd (omega arith)
row_left d row a x j (fields.mask_lacks h) left k l (mask_lacks r) = absurd (omega arith)

-- the fault of a request with this refusal
told : (s : Setup) (r : Request) (x : Refusal) → request_refusal s r ≡ Some x → request_fault s r ≡ Some (at x (field_of x (request_fields s.device r)))
unfolding with_field
told s r x e = request_told s r ∙ ap (with_field (request_fields s.device r)) e

module _ (n : NameLists) (name : List ℕ) (row : Row) (s : Setup) (a : CounterSet) (f : Fault) (finds : Finds n name row) (here : letter_of row.device ≡ letter_of s.device) (e : request_fault s (request_named n name s.device a) ≡ Some f) where
  event_fault : request_fault s (Event row.code row.mask a) ≡ Some f
  event_fault = subst (λ (r : Request). request_fault s r ≡ Some f) (named_requests.found n name row s.device a finds here) e

  fails : RowFailsAt s.device row a f.refusal (named_field f.field)
  fails = row_fails s.device row a f.refusal f.field (fault_fields.fails s (Event row.code row.mask a) f event_fault)

  leftmost : (k : ℕ) → k < named_field f.field → ¬ RowFailsAt s.device row a f.refusal k
  leftmost =
      row_left s.device row a f.refusal f.field (fault_fields.fails s (Event row.code row.mask a) f event_fault)
      (fault_fields.leftmost s (Event row.code row.mask a) f event_fault)

missing : (n : NameLists) (name : List ℕ) (s : Setup) (a : CounterSet) (f : Fault) → row_named n name ≡ None
    → request_fault s (request_named n name s.device a) ≡ Some f → (f.refusal ≡ NotListed) × (named_field f.field ≡ 2)
unfolding named_field field_of
missing n name s a f h e =
    let is : at NotListed 2 ≡ f = same_Some _ _ (sym (told s (request_named n name s.device a) NotListed (named_requests.missing n name s a h)) ∙ e) in
    (ap (λ (g : Fault). g.refusal) (sym is), ap (λ (g : Fault). named_field g.field) (sym is))

elsewhere : (n : NameLists) (name : List ℕ) (row : Row) (s : Setup) (a : CounterSet) → Finds n name row → ¬ (letter_of row.device ≡ letter_of s.device)
    → request_fault s (request_named n name s.device a) ≡ Some (at KindNotOnDevice 0)
unfolding field_of
elsewhere n name row s a finds other = told s (request_named n name s.device a) KindNotOnDevice (named_requests.elsewhere n name row s a finds other)

pub named_fields_lem : NamedFields
unfolding named_field
named_fields_lem = record { verb = refl; id = refl; fails = fails; leftmost = leftmost; elsewhere = elsewhere; missing = missing }
