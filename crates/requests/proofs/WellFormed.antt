-- The refusals 7 to 11 refuse exactly the requests that the paragraphs do not describe, by the rows that apply to them. Assumes nothing.
use mathlib.Core.Path.{◌≡◌, refl, sym, subst, ◌∙◌}
use mathlib.Core.Logic.{inl, inr, ⊎_elim}
use mathlib.Core.Bool.{Bool, true, false}
use mathlib.Core.List.Memᴰ
use mathlib.Mathlib.Data.Bool.Basic.{eq-false_of_not-eq-true, eq-true_of_not-eq-false}
use Prim.Native.Nat.{ℕ, ◌≤◌}
use native.Mathlib.Decide.{ℕ_discrete}
use native.Mathlib.Nat.{lt_of_not-le}
use native.Mathlib.Omega.{arith}
use lib.Dec.{lit<}
use Rattle.requests.specs.Choice.{either}
use Rattle.requests.specs.Bits.{bit, in_list, any_bit, only_bits, type_bits, any_response, answer_bits, outstanding, rsp0_bits, rsp1_bits, match_bits, mask_bits}
use Rattle.requests.specs.Devices.{all_counters}
use Rattle.requests.specs.MaskRules.{MaskRule}
use Rattle.requests.specs.Catalogue.{events_of, pair_in}
use Rattle.requests.specs.RefusedRequests.{Lists, InCatalogue, PairListed, PairsOn, CodesOn, offcore_word, latency_types, AllowedSet, of_event, of_packet, of_offcore, first_of_latency, second_of_latency, no_packet, no_offcore, no_latency, NotListed, pair, code, Incomplete, mask_0, no_type, no_response, OutOfRange, mask_other, word_bit, type_bit, wide_set, Conflicting, bit_38, bit_16, match_bit, mask_bit}
use Rattle.requests.specs.WellFormedRequests.{OneResponse, Described, event, packet, offcore, latency, WellFormedRequests}
use Rattle.requests.specs.declared.CounterSet.{CounterSet}
use Rattle.requests.specs.declared.Device.{Device}
use Rattle.requests.specs.declared.Device.TheVariants.{G, S}
use Rattle.requests.specs.declared.Setup.{Setup}
use Rattle.requests.specs.declared.Request.{Request}
use Rattle.requests.specs.declared.Request.TheVariants.{Event, Packet, Offcore, Latency}
use Rattle.requests.proofs.Tests.{both_ways}
use Rattle.requests.proofs.BitLists.{only_without, reserved}
use Rattle.requests.proofs.BitMembers.{any_has, any_of_has, none_has, none_of_has, none_has_more, permitted_reserved, types_reserved, reserved_only, match_reserved, mask_reserved}
use Rattle.requests.proofs.CatalogueRows.{pair_row, row_pair, one_row_on, judged}
use Rattle.requests.proofs.ExactRows.{is_s, is_g}
use Rattle.requests.proofs.Passes.{Passes, passes, formed_by}

-- an allowed set of a request that passes is one of the device's counters
counters : (d : Device) (r : Request) (a : CounterSet) → Passes d r → AllowedSet r a → a.0 ≤ all_counters d
counters d r a p of = omega (arith, lt_of_not-le (λ l. p.in_range (wide_set of l)))

-- **event**

pair_listed : (d : Device) (c m : ℕ) (a : CounterSet) → Passes d (Event c m a) → pair_in (events_of d) c m ≡ true
pair_listed d c m a p = eq-true_of_not-eq-false (λ e. ⊎_elim (λ j. unpaired e j.0) (λ j. uncoded e j.0) (judged d))
  where
    unpaired : pair_in (events_of d) c m ≡ false → PairsOn d → ⊥
    unpaired e on = p.listed (pair on (λ l. both_ways (row_pair (events_of d) c m l.0 l.1 l.2) e))

    unlisted : CodesOn d → (masks : MaskRule) → InCatalogue d c masks → ¬ Lists masks m → Dec (m ≡ 0) → ⊥
    unlisted on masks row out (yes zero) = (rw zero at p).complete (mask_0 on row (rw zero at out))
    unlisted on masks row out (no other) = p.in_range (mask_other on row out other)

    uncoded : pair_in (events_of d) c m ≡ false → CodesOn d → ⊥
    uncoded e on = p.listed (code on (λ row. unlisted on row.0 row.1 (λ l. both_ways (row_pair (events_of d) c m row.0 row.1 l) e) (ℕ_discrete m 0)))

-- the masks of a listed pair are those of any row with its code
same_row : (d : Device) (c m : ℕ) → CodesOn d → PairListed d c m → (masks : MaskRule) → InCatalogue d c masks → Lists masks m
same_row d c m on l masks row = subst (λ (x : MaskRule). Lists x m) (one_row_on d on c l.0 masks l.1 row) l.2

module _ (c m : ℕ) (a : CounterSet) where
  pair_not_unlisted : (d : Device) → PairListed d c m → ¬ NotListed d (Event c m a)
  pair_not_unlisted d l (pair on none) = none l
  pair_not_unlisted d l (code on none) = none (l.0, l.1)

  pair_in_range : (d : Device) → PairListed d c m → a.0 ≤ all_counters d → ¬ OutOfRange d (Event c m a)
  pair_in_range d l fits (wide_set of_event wide) = omega (arith, fits, wide)
  pair_in_range d l fits (mask_other {masks = masks} on row out some) = out (same_row d c m on l masks row)

pair_complete : (d : Device) (c m : ℕ) (a : CounterSet) → PairListed d c m → ¬ Incomplete d (Event c m a)
pair_complete d c m a l (mask_0 {masks = masks} on row out) = out (same_row d c 0 on l masks row)
pair_complete d c m a l (no_type types none) = elim types [ ]

event_passes : (d : Device) (c m : ℕ) (a : CounterSet) → pair_in (events_of d) c m ≡ true → a.0 ≤ all_counters d → Passes d (Event c m a)
event_passes d c m a h fits =
    let l = pair_row (events_of d) c m h in
    record {
      kind = λ x. elim x [ ];
      listed = pair_not_unlisted c m a d l;
      in_range = pair_in_range c m a d l fits;
      complete = pair_complete d c m a l;
      consistent = λ x. elim x [ ];
    }

-- **packet**

packet_in_range : (d : Device) (x y : ℕ) (a : CounterSet) → only_bits match_bits x ≡ true → only_bits mask_bits y ≡ true → a.0 ≤ all_counters d
    → ¬ OutOfRange d (Packet x y a)
packet_in_range d x y a matching masking fits (match_bit h) = both_ways matching (reserved_only match_bits x h)
packet_in_range d x y a matching masking fits (mask_bit h) = both_ways masking (reserved_only mask_bits y h)
packet_in_range d x y a matching masking fits (wide_set of_packet wide) = omega (arith, fits, wide)

packet_complete : (d : Device) (x y : ℕ) (a : CounterSet) → ¬ Incomplete d (Packet x y a)
packet_complete d x y a (no_type types none) = elim types [ ]

packet_passes : (d : Device) (x y : ℕ) (a : CounterSet) → d ≡ S → only_bits match_bits x ≡ true → only_bits mask_bits y ≡ true → a.0 ≤ all_counters d → Passes d (Packet x y a)
packet_passes d x y a on-s matching masking fits =
    record {
      kind = λ h. elim h [ no_packet n ↦ n on-s ];
      listed = λ h. elim h [ ];
      in_range = packet_in_range d x y a matching masking fits;
      complete = packet_complete d x y a;
      consistent = λ h. elim h [ ];
    }

-- **offcore**

-- without bit 38, the permitted bits are those of RSP1
rsp1_bits_lem : (w : ℕ) → bit outstanding w ≡ false → only_bits rsp0_bits w ≡ only_bits rsp1_bits w
unfolding rsp0_bits
rsp1_bits_lem w none = only_without rsp1_bits outstanding w none

-- a word with bits of RSP1 only has not bit 38
pub no_outstanding : (w : ℕ) → only_bits rsp1_bits w ≡ true → bit outstanding w ≡ false
unfolding in_list rsp1_bits type_bits any_response answer_bits outstanding either
no_outstanding w only = reserved rsp1_bits outstanding w (lit< tt) refl only

offcore_described : (s : Setup) (w : ℕ) (a : CounterSet) → Passes s.device (Offcore w a) → Described s (Offcore w a)
offcore_described s w a p =
    offcore (is_g _ (λ n. p.kind (no_offcore n))) (sym (rsp1_bits_lem w off) ∙ eq-true_of_not-eq-false (λ e. p.in_range (word_bit (permitted_reserved w e))))
    (eq-true_of_not-eq-false (λ e. p.complete (no_type offcore_word (none_has type_bits w e))))
    (one (bit any_response w) refl (any_bit answer_bits w) refl)
    (counters _ _ a p of_offcore)
  where
    off : bit outstanding w ≡ false
    off = eq-false_of_not-eq-true (λ h. p.consistent (bit_38 h))

    one : (x : Bool) → bit any_response w ≡ x → (y : Bool) → any_bit answer_bits w ≡ y → OneResponse w
    one true h false k = inl (h, k)
    one false h true k = inr (h, k)
    one true h true k = absurd (p.consistent (bit_16 h (any_has answer_bits w k)))
    one false h false k = absurd (p.complete (no_response (none_has_more any_response answer_bits w h (none_has answer_bits w k)) off))

module _ (d : Device) (w : ℕ) (a : CounterSet) (only : only_bits rsp1_bits w ≡ true) where
  offcore_in_range : a.0 ≤ all_counters d → ¬ OutOfRange d (Offcore w a)
  offcore_in_range fits (word_bit h) = both_ways (rsp1_bits_lem w (no_outstanding w only) ∙ only) (reserved_only rsp0_bits w h)
  offcore_in_range fits (wide_set of_offcore wide) = omega (arith, fits, wide)

  offcore_complete : any_bit type_bits w ≡ true → OneResponse w → ¬ Incomplete d (Offcore w a)
  offcore_complete types one (no_type offcore_word none) = both_ways types (none_of_has type_bits w none)
  offcore_complete types (inl (h, k)) (no_response none off) = both_ways h (none any_response (Memᴰ.head refl))
  offcore_complete types (inr (h, k)) (no_response none off) = both_ways k (none_of_has answer_bits w (λ j m. none j (Memᴰ.tail m)))

  offcore_consistent : OneResponse w → ¬ Conflicting d (Offcore w a)
  offcore_consistent one (bit_38 h) = both_ways h (no_outstanding w only)
  offcore_consistent (inl (h, k)) (bit_16 any answer) = both_ways (any_of_has answer_bits w answer) k
  offcore_consistent (inr (h, k)) (bit_16 any answer) = both_ways any h

  offcore_passes : d ≡ G → any_bit type_bits w ≡ true → OneResponse w → a.0 ≤ all_counters d → Passes d (Offcore w a)
  offcore_passes on-g types one fits =
      record {
        kind = λ h. elim h [ no_offcore n ↦ n on-g ];
        listed = λ h. elim h [ ];
        in_range = offcore_in_range fits;
        complete = offcore_complete types one;
        consistent = offcore_consistent one;
      }

-- **latency**

module _ (d : Device) (t : ℕ) (a b : CounterSet) where
  latency_in_range : only_bits type_bits t ≡ true → a.0 ≤ all_counters d → b.0 ≤ all_counters d → ¬ OutOfRange d (Latency t a b)
  latency_in_range only first second (type_bit h) = both_ways only (reserved_only type_bits t h)
  latency_in_range only first second (wide_set first_of_latency wide) = omega (arith, first, wide)
  latency_in_range only first second (wide_set second_of_latency wide) = omega (arith, second, wide)

  latency_complete : any_bit type_bits t ≡ true → ¬ Incomplete d (Latency t a b)
  latency_complete types (no_type latency_types none) = both_ways types (none_of_has type_bits t none)

  latency_passes : d ≡ G → only_bits type_bits t ≡ true → any_bit type_bits t ≡ true → a.0 ≤ all_counters d → b.0 ≤ all_counters d → Passes d (Latency t a b)
  latency_passes on-g only types first second =
      record {
        kind = λ h. elim h [ no_latency n ↦ n on-g ];
        listed = λ h. elim h [ ];
        in_range = latency_in_range only first second;
        complete = latency_complete types;
        consistent = λ h. elim h [ ];
      }

-- both directions
described : (s : Setup) (r : Request) → Passes s.device r → Described s r
described s (Event c m a) p = event (pair_listed _ c m a p) (counters _ _ a p of_event)
described s (Packet x y a) p =
    packet (is_s _ (λ n. p.kind (no_packet n))) (eq-true_of_not-eq-false (λ e. p.in_range (match_bit (match_reserved x e))))
    (eq-true_of_not-eq-false (λ e. p.in_range (mask_bit (mask_reserved y e))))
    (counters _ _ a p of_packet)
described s (Offcore w a) p = offcore_described s w a p
described s (Latency t a b) p =
    latency (is_g _ (λ n. p.kind (no_latency n))) (eq-true_of_not-eq-false (λ e. p.in_range (type_bit (types_reserved t e))))
    (eq-true_of_not-eq-false (λ e. p.complete (no_type latency_types (none_has type_bits t e))))
    (counters _ _ a p first_of_latency)
    (counters _ _ b p second_of_latency)

described_passes : (s : Setup) (r : Request) → Described s r → Passes s.device r
described_passes s (Event c m a) (event listed fits) = event_passes _ c m a listed fits
described_passes s (Packet x y a) (packet on-s matching masking fits) = packet_passes _ x y a on-s matching masking fits
described_passes s (Offcore w a) (offcore on-g only types one fits) = offcore_passes _ w a only on-g types one fits
described_passes s (Latency t a b) (latency on-g only types first second) = latency_passes _ t a b on-g only types first second

pub well_formed_requests : WellFormedRequests
well_formed_requests =
    record {
      described = λ s r f. described s r (passes s r f);
      formed = λ s r d. formed_by s r (described_passes s r d);
    }
