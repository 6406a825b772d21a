-- What the checks of a request give fails in that field, and under that number in no field left of it: by the tests of each row. Assumes nothing.
use Rattle.std.proofs.lemmas.Option.{none-some, same_Some}
use Rattle.std.specs.Prelude.{Some}
use mathlib.Core.Path.{◌≡◌, refl, ap, sym}
use mathlib.Core.Bool.{Bool, true, false, not}
use mathlib.Core.List.{[], ◌∷◌}
use Prim.Native.Nat.{ℕ, ◌<◌}
use native.Mathlib.Omega.{arith}
use lib.Dec.{eqb}
use borrow.Author.Tests.{eqb-false, ne_eqb, ltb-true, lt-ltb, not-true}
use Rattle.requests.specs.Choice.{both, first_holding}
use Rattle.requests.specs.Bits.{only_bits, type_bits, rsp0_bits, match_bits, mask_bits}
use Rattle.requests.specs.Devices.{all_counters}
use Rattle.requests.specs.MaskRules.{MaskRule}
use Rattle.requests.specs.Catalogue.{mask_not_listed}
use Rattle.requests.specs.Checks.{kind_not_on, not_listed_lem, too_wide, incomplete, conflicting}
use Rattle.requests.specs.RefusedRequests.{Lists, InCatalogue, CodesOn}
use Rattle.requests.specs.Faults.{at, request_faults, request_fault}
use Rattle.requests.specs.FaultFields.{FailsAt, kind, event_code, event_mask, event_allowed, packet_match, packet_mask, packet_allowed, offcore_word, offcore_allowed, latency_type, latency_first, latency_second, mask_lacks, word_lacks, type_lacks, word_conflicts}
use Rattle.requests.specs.declared.CounterSet.{CounterSet}
use Rattle.requests.specs.declared.Device.{Device}
use Rattle.requests.specs.declared.Setup.{Setup}
use Rattle.requests.specs.declared.Request.{Request}
use Rattle.requests.specs.declared.Request.TheVariants.{Event, Packet, Offcore, Latency}
use Rattle.requests.specs.declared.Refusal.{Refusal}
use Rattle.requests.specs.declared.Refusal.TheVariants.{KindNotOnDevice, NotListed, OutOfRange, Incomplete, Conflicting}
use Rattle.requests.specs.declared.Fault.{Fault}
use Rattle.requests.proofs.Tests.{both_ways, both_parts, true_both}
use Rattle.requests.proofs.BitMembers.{permitted_reserved, types_reserved, reserved_only, match_reserved, mask_reserved}
use Rattle.requests.proofs.ExactRows.{mask_row, row_mask, refused_requests}

-- the request fails in the field of the fault, and in no field left of it
pub record Leftmost (d : Device) (r : Request) (f : Fault) : Type 0 where
  pub fails : FailsAt d r f.refusal f.field
  pub first : (k : ℕ) → k < f.field → ¬ FailsAt d r f.refusal k

-- a fault that is found
found : {d : Device} {r : Request} (g f : Fault) → Some g ≡ Some f → Leftmost d r g → Leftmost d r f
found {d} {r} g f e l = rw (sym (same_Some g f e)) l

-- ---- the tests under 10

wide : (d : Device) (a : CounterSet) → too_wide d a ≡ true → all_counters d < a.0
unfolding too_wide
wide d a h = ltb-true _ _ h

not_wide : (d : Device) (a : CounterSet) → too_wide d a ≡ false → ¬ (all_counters d < a.0)
unfolding too_wide
not_wide d a h l = both_ways (lt-ltb _ _ l) h

mask_out : (d : Device) (c m : ℕ) (a : CounterSet) → both (not (eqb m 0)) (mask_not_listed d c m) ≡ true → FailsAt d (Event c m a) OutOfRange 3
mask_out d c m a h =
    let p = both_parts (not (eqb m 0)) (mask_not_listed d c m) h in
    let row = mask_row d c m p.1 in
    event_mask row.0 row.1.1 row.1.2 (eqb-false m 0 (not-true _ p.0))

mask_in : (d : Device) (c m : ℕ) (masks : MaskRule) → both (not (eqb m 0)) (mask_not_listed d c m) ≡ false → CodesOn d → InCatalogue d c masks → ¬ Lists masks m → ¬ (m ≡ 0) → ⊥
mask_in d c m masks h on row out nonzero = both_ways (true_both _ _ (ap not (ne_eqb m 0 nonzero)) (row_mask d on c m masks row out)) h

-- ---- no field left of it

-- 0 has none
none_left : {d : Device} {r : Request} {x : Refusal} → (k : ℕ) → k < 0 → ¬ FailsAt d r x k
none_left k l h = absurd (omega arith)

code_left : {d : Device} {c m : ℕ} {a : CounterSet} → (k : ℕ) → k < 2 → ¬ FailsAt d (Event c m a) NotListed k
code_left k l (event_code h) = absurd (omega arith)

mask_left : {d : Device} {c m : ℕ} {a : CounterSet} → (k : ℕ) → k < 3 → ¬ FailsAt d (Event c m a) OutOfRange k
mask_left k l (event_mask on row out nonzero) = absurd (omega arith)
mask_left k l (event_allowed h) = absurd (omega arith)

event_left : (d : Device) (c m : ℕ) (a : CounterSet) → both (not (eqb m 0)) (mask_not_listed d c m) ≡ false → (k : ℕ) → k < 4 → ¬ FailsAt d (Event c m a) OutOfRange k
event_left d c m a e k l (event_mask {masks = masks} on row out nonzero) = mask_in d c m masks e on row out nonzero
event_left d c m a e k l (event_allowed h) = absurd (omega arith)

mask_lack_left : {d : Device} {c m : ℕ} {a : CounterSet} → (k : ℕ) → k < 3 → ¬ FailsAt d (Event c m a) Incomplete k
mask_lack_left k l (mask_lacks h) = absurd (omega arith)

packet_match_left : {d : Device} {x y : ℕ} {a : CounterSet} → (k : ℕ) → k < 2 → ¬ FailsAt d (Packet x y a) OutOfRange k
packet_match_left k l (packet_match h) = absurd (omega arith)
packet_match_left k l (packet_mask h) = absurd (omega arith)
packet_match_left k l (packet_allowed h) = absurd (omega arith)

packet_mask_left : (d : Device) (x y : ℕ) (a : CounterSet) → only_bits match_bits x ≡ true → (k : ℕ) → k < 3 → ¬ FailsAt d (Packet x y a) OutOfRange k
packet_mask_left d x y a e k l (packet_match h) = both_ways e (reserved_only match_bits x h)
packet_mask_left d x y a e k l (packet_mask h) = absurd (omega arith)
packet_mask_left d x y a e k l (packet_allowed h) = absurd (omega arith)

packet_left : (d : Device) (x y : ℕ) (a : CounterSet) → only_bits match_bits x ≡ true → only_bits mask_bits y ≡ true → (k : ℕ) → k < 4 → ¬ FailsAt d (Packet x y a) OutOfRange k
packet_left d x y a e f k l (packet_match h) = both_ways e (reserved_only match_bits x h)
packet_left d x y a e f k l (packet_mask h) = both_ways f (reserved_only mask_bits y h)
packet_left d x y a e f k l (packet_allowed h) = absurd (omega arith)

word_left : {d : Device} {w : ℕ} {a : CounterSet} → (k : ℕ) → k < 2 → ¬ FailsAt d (Offcore w a) OutOfRange k
word_left k l (offcore_word h) = absurd (omega arith)
word_left k l (offcore_allowed h) = absurd (omega arith)

offcore_left : (d : Device) (w : ℕ) (a : CounterSet) → only_bits rsp0_bits w ≡ true → (k : ℕ) → k < 3 → ¬ FailsAt d (Offcore w a) OutOfRange k
offcore_left d w a e k l (offcore_word h) = both_ways e (reserved_only rsp0_bits w h)
offcore_left d w a e k l (offcore_allowed h) = absurd (omega arith)

word_lack_left : {d : Device} {w : ℕ} {a : CounterSet} → (k : ℕ) → k < 2 → ¬ FailsAt d (Offcore w a) Incomplete k
word_lack_left k l (word_lacks h) = absurd (omega arith)

word_conflict_left : {d : Device} {w : ℕ} {a : CounterSet} → (k : ℕ) → k < 2 → ¬ FailsAt d (Offcore w a) Conflicting k
word_conflict_left k l (word_conflicts h) = absurd (omega arith)

type_left : {d : Device} {t : ℕ} {a b : CounterSet} → (k : ℕ) → k < 2 → ¬ FailsAt d (Latency t a b) OutOfRange k
type_left k l (latency_type h) = absurd (omega arith)
type_left k l (latency_first h) = absurd (omega arith)
type_left k l (latency_second h) = absurd (omega arith)

first_left : (d : Device) (t : ℕ) (a b : CounterSet) → only_bits type_bits t ≡ true → (k : ℕ) → k < 3 → ¬ FailsAt d (Latency t a b) OutOfRange k
first_left d t a b e k l (latency_type h) = both_ways e (reserved_only type_bits t h)
first_left d t a b e k l (latency_first h) = absurd (omega arith)
first_left d t a b e k l (latency_second h) = absurd (omega arith)

second_left : (d : Device) (t : ℕ) (a b : CounterSet) → only_bits type_bits t ≡ true → too_wide d a ≡ false → (k : ℕ) → k < 4 → ¬ FailsAt d (Latency t a b) OutOfRange k
second_left d t a b e n k l (latency_type h) = both_ways e (reserved_only type_bits t h)
second_left d t a b e n k l (latency_first h) = not_wide d a n h
second_left d t a b e n k l (latency_second h) = absurd (omega arith)

type_lack_left : {d : Device} {t : ℕ} {a b : CounterSet} → (k : ℕ) → k < 2 → ¬ FailsAt d (Latency t a b) Incomplete k
type_lack_left k l (type_lacks h) = absurd (omega arith)

-- ---- the tables

kind_fault : (d : Device) (r : Request) → kind_not_on d r ≡ true → Leftmost d r (at KindNotOnDevice 0)
kind_fault d r h = record { fails = kind ((refused_requests.seven d r).0 h); first = none_left }

event_fault : (d : Device) (c m : ℕ) (a : CounterSet) (f : Fault) → first_holding (request_faults d (Event c m a)) ≡ Some f → Leftmost d (Event c m a) f
unfolding request_faults first_holding
event_fault d c m a f e =
    go (kind_not_on d (Event c m a)) (not_listed_lem d (Event c m a)) (both (not (eqb m 0)) (mask_not_listed d c m)) (too_wide d a) (incomplete d (Event c m a)) refl refl refl refl refl e
  where
    go : (k n r w i : Bool) → kind_not_on d (Event c m a) ≡ k → not_listed_lem d (Event c m a) ≡ n → both (not (eqb m 0)) (mask_not_listed d c m) ≡ r → too_wide d a ≡ w
        → incomplete d (Event c m a) ≡ i
        → first_holding ((k, at KindNotOnDevice 0) ∷ (n, at NotListed 2) ∷ (r, at OutOfRange 3) ∷ (w, at OutOfRange 4) ∷ (i, at Incomplete 3) ∷ []) ≡ Some f
        → Leftmost d (Event c m a) f
    go true n r w i ek en er ew ei e = found (at KindNotOnDevice 0) f e (kind_fault d (Event c m a) ek)
    go false true r w i ek en er ew ei e =
        found (at NotListed 2) f e (record { fails = event_code ((refused_requests.eight d (Event c m a)).0 en); first = code_left })
    go false false true w i ek en er ew ei e = found (at OutOfRange 3) f e (record { fails = mask_out d c m a er; first = mask_left })
    go false false false true i ek en er ew ei e = found (at OutOfRange 4) f e (record { fails = event_allowed (wide d a ew); first = event_left d c m a er })
    go false false false false true ek en er ew ei e =
        found (at Incomplete 3) f e (record { fails = mask_lacks ((refused_requests.nine d (Event c m a)).0 ei); first = mask_lack_left })
    go false false false false false ek en er ew ei e = absurd (none-some f e)

packet_fault : (d : Device) (x y : ℕ) (a : CounterSet) (f : Fault) → first_holding (request_faults d (Packet x y a)) ≡ Some f → Leftmost d (Packet x y a) f
unfolding request_faults first_holding
packet_fault d x y a f e = go (kind_not_on d (Packet x y a)) (only_bits match_bits x) (only_bits mask_bits y) (too_wide d a) refl refl refl refl e
  where
    go : (k p q w : Bool) → kind_not_on d (Packet x y a) ≡ k → only_bits match_bits x ≡ p → only_bits mask_bits y ≡ q → too_wide d a ≡ w
        → first_holding ((k, at KindNotOnDevice 0) ∷ (not p, at OutOfRange 2) ∷ (not q, at OutOfRange 3) ∷ (w, at OutOfRange 4) ∷ []) ≡ Some f
        → Leftmost d (Packet x y a) f
    go true p q w ek ep eq ew e = found (at KindNotOnDevice 0) f e (kind_fault d (Packet x y a) ek)
    go false false q w ek ep eq ew e = found (at OutOfRange 2) f e (record { fails = packet_match (match_reserved x ep); first = packet_match_left })
    go false true false w ek ep eq ew e = found (at OutOfRange 3) f e (record { fails = packet_mask (mask_reserved y eq); first = packet_mask_left d x y a ep })
    go false true true true ek ep eq ew e = found (at OutOfRange 4) f e (record { fails = packet_allowed (wide d a ew); first = packet_left d x y a ep eq })
    go false true true false ek ep eq ew e = absurd (none-some f e)

offcore_fault : (d : Device) (w : ℕ) (a : CounterSet) (f : Fault) → first_holding (request_faults d (Offcore w a)) ≡ Some f → Leftmost d (Offcore w a) f
unfolding request_faults first_holding
offcore_fault d w a f e =
    go (kind_not_on d (Offcore w a)) (only_bits rsp0_bits w) (too_wide d a) (incomplete d (Offcore w a)) (conflicting d (Offcore w a)) refl refl refl refl refl e
  where
    go : (k o t i x : Bool) → kind_not_on d (Offcore w a) ≡ k → only_bits rsp0_bits w ≡ o → too_wide d a ≡ t → incomplete d (Offcore w a) ≡ i → conflicting d (Offcore w a) ≡ x
        → first_holding ((k, at KindNotOnDevice 0) ∷ (not o, at OutOfRange 2) ∷ (t, at OutOfRange 3) ∷ (i, at Incomplete 2) ∷ (x, at Conflicting 2) ∷ []) ≡ Some f
        → Leftmost d (Offcore w a) f
    go true o t i x ek eo et ei ex e = found (at KindNotOnDevice 0) f e (kind_fault d (Offcore w a) ek)
    go false false t i x ek eo et ei ex e = found (at OutOfRange 2) f e (record { fails = offcore_word (permitted_reserved w eo); first = word_left })
    go false true true i x ek eo et ei ex e = found (at OutOfRange 3) f e (record { fails = offcore_allowed (wide d a et); first = offcore_left d w a eo })
    go false true false true x ek eo et ei ex e =
        found (at Incomplete 2) f e (record { fails = word_lacks ((refused_requests.nine d (Offcore w a)).0 ei); first = word_lack_left })
    go false true false false true ek eo et ei ex e =
        found (at Conflicting 2) f e (record { fails = word_conflicts ((refused_requests.eleven d (Offcore w a)).0 ex); first = word_conflict_left })
    go false true false false false ek eo et ei ex e = absurd (none-some f e)

latency_fault : (d : Device) (t : ℕ) (a b : CounterSet) (f : Fault) → first_holding (request_faults d (Latency t a b)) ≡ Some f → Leftmost d (Latency t a b) f
unfolding request_faults first_holding
latency_fault d t a b f e =
    go (kind_not_on d (Latency t a b)) (only_bits type_bits t) (too_wide d a) (too_wide d b) (incomplete d (Latency t a b)) refl refl refl refl refl e
  where
    go : (k o v w i : Bool) → kind_not_on d (Latency t a b) ≡ k → only_bits type_bits t ≡ o → too_wide d a ≡ v → too_wide d b ≡ w → incomplete d (Latency t a b) ≡ i
        → first_holding ((k, at KindNotOnDevice 0) ∷ (not o, at OutOfRange 2) ∷ (v, at OutOfRange 3) ∷ (w, at OutOfRange 4) ∷ (i, at Incomplete 2) ∷ []) ≡ Some f
        → Leftmost d (Latency t a b) f
    go true o v w i ek eo ev ew ei e = found (at KindNotOnDevice 0) f e (kind_fault d (Latency t a b) ek)
    go false false v w i ek eo ev ew ei e = found (at OutOfRange 2) f e (record { fails = latency_type (types_reserved t eo); first = type_left })
    go false true true w i ek eo ev ew ei e = found (at OutOfRange 3) f e (record { fails = latency_first (wide d a ev); first = first_left d t a b eo })
    go false true false true i ek eo ev ew ei e = found (at OutOfRange 4) f e (record { fails = latency_second (wide d b ew); first = second_left d t a b eo ev })
    go false true false false true ek eo ev ew ei e =
        found (at Incomplete 2) f e (record { fails = type_lacks ((refused_requests.nine d (Latency t a b)).0 ei); first = type_lack_left })
    go false true false false false ek eo ev ew ei e = absurd (none-some f e)

pub request_leftmost : (s : Setup) (r : Request) (f : Fault) → request_fault s r ≡ Some f → Leftmost s.device r f
unfolding request_fault
request_leftmost s (Event c m a) f e = event_fault s.device c m a f e
request_leftmost s (Packet x y a) f e = packet_fault s.device x y a f e
request_leftmost s (Offcore w a) f e = offcore_fault s.device w a f e
request_leftmost s (Latency t a b) f e = latency_fault s.device t a b f e
