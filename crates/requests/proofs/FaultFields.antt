-- The field at fault: the statement, from the laws of the rows and of each field. Assumes nothing.
use Rattle.std.specs.Prelude.{Some}
use mathlib.Core.Path.{◌≡◌, refl, ap, subst, ◌∙◌}
use mathlib.Core.Bool.{Bool, true, false}
use mathlib.Core.Logic.{◌↔◌}
use Prim.Native.Nat.{ℕ, suc}
use native.Mathlib.Omega.{arith}
use lib.Dec.{leb}
use borrow.Author.Tests.{leb-false}
use Rattle.requests.specs.Choice.{first_holding}
use Rattle.requests.specs.Askings.{core_fits, overflow_fits}
use Rattle.requests.specs.Devices.{rows_where, opening_table}
use Rattle.requests.specs.Checks.{request_refusal}
use Rattle.requests.specs.Openings.{letter_code, CoreInField, InRange, NothingAsked, NotAsked, GivenFor}
use Rattle.requests.specs.RefusedRequests.{mask_0, no_type, offcore_word, latency_types, no_response, mask_other, word_bit, type_bit, match_bit, mask_bit, wide_set, of_event, of_packet, of_offcore, first_of_latency, second_of_latency, pair, code, bit_38, bit_16}
use Rattle.requests.specs.RefusedRequests as rows
use Rattle.requests.specs.Faults.{refusal_in, request_fields, opening_fields, with_field, field_of, at}
use Rattle.requests.specs.FaultFields.{FailsAt, kind, event_code, event_mask, event_allowed, packet_match, packet_mask, packet_allowed, offcore_allowed, latency_type, latency_first, latency_second, mask_lacks, word_lacks, type_lacks, word_conflicts, freeze_at, OpeningFailsAt, asked_elsewhere, freeze_above, core_above, FaultFields}
use Rattle.requests.specs.FaultFields as fields
use Rattle.requests.specs.declared.Device.{Device}
use Rattle.requests.specs.declared.Opening.{Opening}
use Rattle.requests.specs.declared.Request.{Request}
use Rattle.requests.specs.declared.Refusal.TheVariants.{BadOpening, KindNotOnDevice, NotListed, OutOfRange, Incomplete, Conflicting}
use Rattle.requests.proofs.Tests.{true_both}
use Rattle.requests.proofs.FirstHolding.{holds}
use Rattle.requests.proofs.AskingTests.{in_range}
use Rattle.requests.proofs.OpeningsTaken.{device_row}
use Rattle.requests.proofs.FaultRows.{request_told, opening_told, field_dropped}
use Rattle.requests.proofs.FailingFields.{request_leftmost}
use Rattle.requests.proofs.FailingOpenings.{core_wide, not_given, opening_leftmost}

-- ---- each phrase of a number stands in a field

at_seven : (d : Device) (r : Request) (k : ℕ) → FailsAt d r KindNotOnDevice k → rows.KindNotOn d r
at_seven d r k (kind h) = h

seven : (d : Device) (r : Request) → rows.KindNotOn d r ↔ ((k : ℕ) × FailsAt d r KindNotOnDevice k)
seven d r = (λ h. (0, kind h), λ t. at_seven d r t.0 t.1)

eight_at : (d : Device) (r : Request) → rows.NotListed d r → (k : ℕ) × FailsAt d r NotListed k
eight_at d r (pair on out) = (2, event_code (pair on out))
eight_at d r (code on out) = (2, event_code (code on out))

at_eight : (d : Device) (r : Request) (k : ℕ) → FailsAt d r NotListed k → rows.NotListed d r
at_eight d r k (event_code h) = h

eight : (d : Device) (r : Request) → rows.NotListed d r ↔ ((k : ℕ) × FailsAt d r NotListed k)
eight d r = (eight_at d r, λ t. at_eight d r t.0 t.1)

nine_at : (d : Device) (r : Request) → rows.Incomplete d r → (k : ℕ) × FailsAt d r Incomplete k
nine_at d r (mask_0 on row out) = (3, mask_lacks (mask_0 on row out))
nine_at d r (no_type offcore_word none) = (2, word_lacks (no_type offcore_word none))
nine_at d r (no_type latency_types none) = (2, type_lacks (no_type latency_types none))
nine_at d r (no_response none off) = (2, word_lacks (no_response none off))

at_nine : (d : Device) (r : Request) (k : ℕ) → FailsAt d r Incomplete k → rows.Incomplete d r
at_nine d r k (mask_lacks h) = h
at_nine d r k (word_lacks h) = h
at_nine d r k (type_lacks h) = h

nine : (d : Device) (r : Request) → rows.Incomplete d r ↔ ((k : ℕ) × FailsAt d r Incomplete k)
nine d r = (nine_at d r, λ t. at_nine d r t.0 t.1)

ten_at : (d : Device) (r : Request) → rows.OutOfRange d r → (k : ℕ) × FailsAt d r OutOfRange k
ten_at d r (mask_other on row out nonzero) = (3, event_mask on row out nonzero)
ten_at d r (word_bit h) = (2, fields.offcore_word h)
ten_at d r (type_bit h) = (2, latency_type h)
ten_at d r (match_bit h) = (2, packet_match h)
ten_at d r (mask_bit h) = (3, packet_mask h)
ten_at d r (wide_set of_event h) = (4, event_allowed h)
ten_at d r (wide_set of_packet h) = (4, packet_allowed h)
ten_at d r (wide_set of_offcore h) = (3, offcore_allowed h)
ten_at d r (wide_set first_of_latency h) = (3, latency_first h)
ten_at d r (wide_set second_of_latency h) = (4, latency_second h)

at_ten : (d : Device) (r : Request) (k : ℕ) → FailsAt d r OutOfRange k → rows.OutOfRange d r
at_ten d r k (event_mask on row out nonzero) = mask_other on row out nonzero
at_ten d r k (event_allowed h) = wide_set of_event h
at_ten d r k (packet_match h) = match_bit h
at_ten d r k (packet_mask h) = mask_bit h
at_ten d r k (packet_allowed h) = wide_set of_packet h
at_ten d r k (fields.offcore_word h) = word_bit h
at_ten d r k (offcore_allowed h) = wide_set of_offcore h
at_ten d r k (latency_type h) = type_bit h
at_ten d r k (latency_first h) = wide_set first_of_latency h
at_ten d r k (latency_second h) = wide_set second_of_latency h

ten : (d : Device) (r : Request) → rows.OutOfRange d r ↔ ((k : ℕ) × FailsAt d r OutOfRange k)
ten d r = (ten_at d r, λ t. at_ten d r t.0 t.1)

eleven_at : (d : Device) (r : Request) → rows.Conflicting d r → (k : ℕ) × FailsAt d r Conflicting k
eleven_at d r (bit_38 h) = (2, word_conflicts (bit_38 h))
eleven_at d r (bit_16 h answer) = (2, word_conflicts (bit_16 h answer))

at_eleven : (d : Device) (r : Request) (k : ℕ) → FailsAt d r Conflicting k → rows.Conflicting d r
at_eleven d r k (word_conflicts h) = h

eleven : (d : Device) (r : Request) → rows.Conflicting d r ↔ ((k : ℕ) × FailsAt d r Conflicting k)
eleven d r = (eleven_at d r, λ t. at_eleven d r t.0 t.1)

opening_three : (o : Opening) → ((d : Device) → ¬ GivenFor o d) ↔ ((k : ℕ) × OpeningFailsAt o BadOpening k)
unfolding opening_table rows_where with_field field_of
opening_three o = (to, λ t d given. not_given o d given t.0 t.1)
  where
    to : ((d : Device) → ¬ GivenFor o d) → (k : ℕ) × OpeningFailsAt o BadOpening k
    to no_device =
        let refused : first_holding (opening_table o) ≡ Some BadOpening = holds _ _ ((device_row o).1 no_device) in
        ((opening_fields o).opening, (opening_leftmost o (at BadOpening (opening_fields o).opening) (opening_told o ∙ ap (with_field (opening_fields o)) refused)).fails)

at_opening_seven : (o : Opening) (k : ℕ) → OpeningFailsAt o KindNotOnDevice k → NotAsked o × (¬ NothingAsked o.overflow)
at_opening_seven o k (asked_elsewhere h n) = (h, n)

opening_seven : (o : Opening) → (NotAsked o × (¬ NothingAsked o.overflow)) ↔ ((k : ℕ) × OpeningFailsAt o KindNotOnDevice k)
opening_seven o = (λ h. (0, asked_elsewhere h.0 h.1), λ t. at_opening_seven o t.0 t.1)

pub not_in_range : (o : Opening) (k : ℕ) → OpeningFailsAt o OutOfRange k → ¬ InRange o.overflow
not_in_range o k (freeze_above d l h) r = absurd (omega (arith, r.0))
not_in_range o k (core_above d c l e h) r = absurd (omega (arith, subst CoreInField e r.1))

opening_ten : (o : Opening) (d : Device) → o.device ≡ letter_code d → (¬ InRange o.overflow) ↔ ((k : ℕ) × OpeningFailsAt o OutOfRange k)
unfolding overflow_fits
opening_ten o d l = (λ out. go out (leb o.overflow.freeze 1) refl (core_fits o.overflow.core) refl, λ t. not_in_range o t.0 t.1)
  where
    go : ¬ InRange o.overflow → (z : Bool) → leb o.overflow.freeze 1 ≡ z → (c : Bool) → core_fits o.overflow.core ≡ c → (k : ℕ) × OpeningFailsAt o OutOfRange k
    go out false ez c ec = (freeze_at d, freeze_above d l (leb-false _ _ ez))
    go out true ez false ec = let wide = core_wide o.overflow.core ec in (suc (freeze_at d), core_above d wide.0 l wide.1 wide.2)
    go out true ez true ec = absurd (out (in_range o.overflow (true_both _ _ ez ec)))

pub fault_fields : FaultFields
fault_fields =
    record {
      numbers = λ s r. ap refusal_in (request_told s r) ∙ field_dropped (request_fields s.device r) (request_refusal s r);
      opening_numbers = λ o. ap refusal_in (opening_told o) ∙ field_dropped (opening_fields o) (first_holding (opening_table o));
      fails = λ s r f e. (request_leftmost s r f e).fails;
      leftmost = λ s r f e. (request_leftmost s r f e).first;
      opening_fails = λ o f e. (opening_leftmost o f e).fails;
      opening_leftmost = λ o f e. (opening_leftmost o f e).first;
      seven = seven;
      eight = eight;
      nine = nine;
      ten = ten;
      eleven = eleven;
      opening_three = opening_three;
      opening_seven = opening_seven;
      opening_ten = opening_ten;
    }
