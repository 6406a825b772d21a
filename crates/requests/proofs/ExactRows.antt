-- The checks 7 to 11 hold exactly where a phrase of their row applies. Assumes nothing.
use mathlib.Core.Path.{◌≡◌, refl, ap, sym, subst, ◌∙◌}
use mathlib.Core.Logic.{⊎_elim}
use mathlib.Core.Bool.{true, false, not, false≢true}
use mathlib.Core.List.Memᴰ
use mathlib.Core.List.{[], ◌∷◌}
use mathlib.Mathlib.Data.Bool.Basic.{eq-false_of_not-eq-true, eq-true_of_not-eq-false}
use Prim.Native.Nat.{ℕ}
use lib.Dec.{eqb}
use borrow.Author.Tests.{not-true, eqb-true, eqb-false, ne_eqb, ltb-true, lt-ltb}
use Rattle.requests.specs.Choice.{both, either}
use Rattle.requests.specs.Bits.{any_bit, type_bits, any_response, answer_bits, outstanding, rsp0_bits, match_bits, mask_bits}
use Rattle.requests.specs.Devices.{packets_on, offcore_on, pairs_judged}
use Rattle.requests.specs.MaskRules.{MaskRule}
use Rattle.requests.specs.Catalogue.{events_of, code_in, pair_in, mask_not_listed}
use Rattle.requests.specs.Checks.{kind_not_on, not_listed_lem, too_wide, out_of_range, incomplete, conflicting}
use Rattle.requests.specs.RefusedRequests.{Lists, InCatalogue, TypesIn, offcore_word, latency_types, AllowedSet, of_event, of_packet, of_offcore, first_of_latency, second_of_latency, PairsOn, CodesOn, KindNotOn, no_packet, no_offcore, no_latency, NotListed, pair, code, Incomplete, mask_0, no_type, no_response, OutOfRange, mask_other, word_bit, type_bit, wide_set, Conflicting, bit_38, bit_16, RefusedRequests, match_bit, mask_bit}
use Rattle.requests.specs.declared.CounterSet.{CounterSet}
use Rattle.requests.specs.declared.Device.{Device}
use Rattle.requests.specs.declared.Device.TheVariants.{G, S, C, B}
use Rattle.requests.specs.declared.Request.{Request}
use Rattle.requests.specs.declared.Request.TheVariants.{Event, Packet, Offcore, Latency}
use Rattle.requests.proofs.Tests.{both_ways, both_parts, true_both, either_cases, either_left, either_right, either_false}
use Rattle.requests.proofs.BitMembers.{any_has, any_of_has, none_has, none_of_has, none_has_more, none_apart, none_joined, permitted_reserved, types_reserved, reserved_only, match_reserved, mask_reserved}
use Rattle.requests.proofs.CatalogueRows.{code_row, row_code, pair_row, row_pair, one_row_on, judged, pairs_judged_lem, codes_judged, zero_on_s, above_on_s}

-- ---- 7

-- packets are on S only, offcore and latency on G only
packets_on_s : packets_on S ≡ true
unfolding packets_on
packets_on_s = refl

only_s : (d : Device) → packets_on d ≡ true → d ≡ S
unfolding packets_on
only_s G h = absurd (false≢true h)
only_s S h = refl
only_s (C b) h = absurd (false≢true h)
only_s B h = absurd (false≢true h)

offcore_on_g : offcore_on G ≡ true
unfolding offcore_on
offcore_on_g = refl

only_g : (d : Device) → offcore_on d ≡ true → d ≡ G
unfolding offcore_on
only_g G h = refl
only_g S h = absurd (false≢true h)
only_g (C b) h = absurd (false≢true h)
only_g B h = absurd (false≢true h)

not_s : (d : Device) → not (packets_on d) ≡ true → ¬ (d ≡ S)
not_s d h e = both_ways (ap packets_on e ∙ packets_on_s) (not-true _ h)

not_g : (d : Device) → not (offcore_on d) ≡ true → ¬ (d ≡ G)
not_g d h e = both_ways (ap offcore_on e ∙ offcore_on_g) (not-true _ h)

pub is_s : (d : Device) → ¬ (¬ (d ≡ S)) → d ≡ S
is_s d h = only_s d (eq-true_of_not-eq-false (λ e. h (not_s d (ap not e))))

pub is_g : (d : Device) → ¬ (¬ (d ≡ G)) → d ≡ G
is_g d h = only_g d (eq-true_of_not-eq-false (λ e. h (not_g d (ap not e))))

kind_applies : (d : Device) (r : Request) → kind_not_on d r ≡ true → KindNotOn d r
unfolding kind_not_on
kind_applies d (Event c m a) h = absurd (false≢true h)
kind_applies d (Packet x y a) h = no_packet (not_s d h)
kind_applies d (Offcore w a) h = no_offcore (not_g d h)
kind_applies d (Latency t a b) h = no_latency (not_g d h)

kind_holds : (d : Device) (r : Request) → KindNotOn d r → kind_not_on d r ≡ true
unfolding kind_not_on
kind_holds d r (no_packet n) = ap not (eq-false_of_not-eq-true (λ h. n (only_s d h)))
kind_holds d r (no_offcore n) = ap not (eq-false_of_not-eq-true (λ h. n (only_g d h)))
kind_holds d r (no_latency n) = ap not (eq-false_of_not-eq-true (λ h. n (only_g d h)))

-- ---- 8

listed_applies : (d : Device) (r : Request) → not_listed_lem d r ≡ true → NotListed d r
unfolding not_listed_lem
listed_applies d (Event c m a) h = ⊎_elim pairs codes (judged d)
  where
    pairs : PairsOn d × (pairs_judged d ≡ true) → NotListed d (Event c m a)
    pairs (on, j) = pair on (λ p. both_ways (row_pair (events_of d) c m p.0 p.1 p.2) (not-true _ (rw j at h)))

    codes : CodesOn d × (pairs_judged d ≡ false) → NotListed d (Event c m a)
    codes (on, j) = code on (λ p. both_ways (row_code (events_of d) c p.0 p.1) (not-true _ (rw j at h)))
listed_applies d (Packet x y a) h = absurd (false≢true h)
listed_applies d (Offcore w a) h = absurd (false≢true h)
listed_applies d (Latency t a b) h = absurd (false≢true h)

listed_holds : (d : Device) (r : Request) → NotListed d r → not_listed_lem d r ≡ true
unfolding not_listed_lem
listed_holds d r (pair {c = c} {m = m} on none) = rw (pairs_judged_lem d on) (ap not (eq-false_of_not-eq-true (λ h. none (pair_row (events_of d) c m h))))
listed_holds d r (code {c = c} on none) = rw (codes_judged d on) (ap not (eq-false_of_not-eq-true (λ h. none (code_row (events_of d) c h))))

-- ---- masks of a code's own

-- a code that is listed, but not with the mask
pub mask_row : (d : Device) (c m : ℕ) → mask_not_listed d c m ≡ true → CodesOn d × ((masks : MaskRule) × InCatalogue d c masks × (¬ Lists masks m))
unfolding mask_not_listed
mask_row d c m h = ⊎_elim pairs codes (judged d)
  where
    parts : (not (pairs_judged d) ≡ true) × (both (code_in (events_of d) c) (not (pair_in (events_of d) c m)) ≡ true)
    parts = both_parts _ _ h

    pairs : PairsOn d × (pairs_judged d ≡ true) → CodesOn d × ((masks : MaskRule) × InCatalogue d c masks × (¬ Lists masks m))
    pairs (on, j) = absurd (both_ways j (not-true _ parts.0))

    codes : CodesOn d × (pairs_judged d ≡ false) → CodesOn d × ((masks : MaskRule) × InCatalogue d c masks × (¬ Lists masks m))
    codes (on, j) =
        let p = both_parts (code_in (events_of d) c) _ parts.1 in
        let row = code_row (events_of d) c p.0 in
        (on, (row.0, row.1, λ l. both_ways (row_pair (events_of d) c m row.0 row.1 l) (not-true _ p.1)))

pub row_mask : (d : Device) → CodesOn d → (c m : ℕ) (masks : MaskRule) → InCatalogue d c masks → ¬ Lists masks m → mask_not_listed d c m ≡ true
unfolding mask_not_listed
row_mask d on c m masks row out =
    true_both _ _ (ap not (codes_judged d on))
    (true_both _ _ (row_code (events_of d) c masks row) (ap not (eq-false_of_not-eq-true (λ h. other (pair_row (events_of d) c m h)))))
  where
    other : (others : MaskRule) × InCatalogue d c others × Lists others m → ⊥
    other p = out (subst (λ (x : MaskRule). Lists x m) (one_row_on d on c p.0 masks p.1 row) p.2)

-- ---- 9

types_none : (r : Request) (w : ℕ) (d : Device) → TypesIn r w → any_bit type_bits w ≡ false → incomplete d r ≡ true
unfolding incomplete either
types_none r w d offcore_word h = rw h
types_none r w d latency_types h = ap not h

lacks_applies : (d : Device) (r : Request) → incomplete d r ≡ true → Incomplete d r
unfolding incomplete
lacks_applies d (Event c m a) h =
    let p = both_parts (eqb m 0) (mask_not_listed d c m) h in
    let row = mask_row d c m p.1 in
    let zero = eqb-true m 0 p.0 in
    rw zero (mask_0 row.0 row.1.1 (rw zero at row).1.2)
lacks_applies d (Packet x y a) h = absurd (false≢true h)
lacks_applies d (Offcore w a) h =
    ⊎_elim
    (λ t. no_type offcore_word (none_has type_bits w (not-true _ t)))
    (λ t. let none = none_apart (any_response ∷ answer_bits) (outstanding ∷ []) w (none_has _ w (not-true _ t)) in
    no_response none.0 (none.1 outstanding (Memᴰ.head refl)))
    (either_cases _ _ h)
lacks_applies d (Latency t a b) h = no_type latency_types (none_has type_bits t (not-true _ h))

lacks_holds : (d : Device) (r : Request) → Incomplete d r → incomplete d r ≡ true
unfolding incomplete
lacks_holds d r (mask_0 {c = c} {masks = masks} on row out) = true_both _ _ refl (row_mask d on c 0 masks row out)
lacks_holds d r (no_type {w = w} types none) = types_none r w d types (none_of_has type_bits w none)
lacks_holds d r (no_response {w = w} none off) = either_right _ _ (ap not (none_of_has _ w (none_joined (any_response ∷ answer_bits) (outstanding ∷ []) w none (none_has_more outstanding [] w off (λ k m. elim m [ ])))))

-- ---- 10

wide_applies : (d : Device) (r : Request) (a : CounterSet) → AllowedSet r a → too_wide d a ≡ true → OutOfRange d r
unfolding too_wide
wide_applies d r a of h = wide_set of (ltb-true _ _ h)

wide_holds : (d : Device) (r : Request) (a : CounterSet) → AllowedSet r a → too_wide d a ≡ true → out_of_range d r ≡ true
unfolding out_of_range
wide_holds d r a of_event h = either_right _ _ h
wide_holds d r a of_packet h = either_right _ _ (either_right _ _ h)
wide_holds d r a of_offcore h = either_right _ _ h
wide_holds d r a first_of_latency h = either_right _ _ (either_left _ _ h)
wide_holds d r a second_of_latency h = either_right _ _ (either_right _ _ h)

range_applies : (d : Device) (r : Request) → out_of_range d r ≡ true → OutOfRange d r
unfolding out_of_range
range_applies d (Event c m a) h = ⊎_elim other (wide_applies d _ a of_event) (either_cases _ _ h)
  where
    other : both (not (eqb m 0)) (mask_not_listed d c m) ≡ true → OutOfRange d (Event c m a)
    other t =
        let p = both_parts (not (eqb m 0)) (mask_not_listed d c m) t in
        let row = mask_row d c m p.1 in
        mask_other row.0 row.1.1 row.1.2 (eqb-false m 0 (not-true _ p.0))
range_applies d (Packet x y a) h =
    ⊎_elim (λ t. match_bit (match_reserved x (not-true _ t)))
    (λ t. ⊎_elim (λ u. mask_bit (mask_reserved y (not-true _ u))) (wide_applies d _ a of_packet) (either_cases _ _ t))
    (either_cases _ _ h)
range_applies d (Offcore w a) h =
    ⊎_elim (λ t. word_bit (permitted_reserved w (not-true _ t))) (wide_applies d _ a of_offcore) (either_cases _ _ h)
range_applies d (Latency t a b) h =
    ⊎_elim (λ x. type_bit (types_reserved t (not-true _ x)))
    (λ x. ⊎_elim (wide_applies d _ a first_of_latency) (wide_applies d _ b second_of_latency) (either_cases _ _ x))
    (either_cases _ _ h)

range_holds : (d : Device) (r : Request) → OutOfRange d r → out_of_range d r ≡ true
unfolding out_of_range too_wide
range_holds d r (mask_other {c = c} {m = m} {masks = masks} on row out some) =
    either_left _ _ (true_both _ _ (ap not (ne_eqb m 0 some)) (row_mask d on c m masks row out))
range_holds d r (word_bit {w = w} h) = either_left _ _ (ap not (reserved_only rsp0_bits w h))
range_holds d r (type_bit {t = t} h) = either_left _ _ (ap not (reserved_only type_bits t h))
range_holds d r (match_bit {x = x} h) = either_left _ _ (ap not (reserved_only match_bits x h))
range_holds d r (mask_bit {y = y} h) = either_right _ _ (either_left _ _ (ap not (reserved_only mask_bits y h)))
range_holds d r (wide_set {a = a} of h) = wide_holds d r a of (lt-ltb _ _ h)

-- ---- 11

conflict_applies : (d : Device) (r : Request) → conflicting d r ≡ true → Conflicting d r
unfolding conflicting any_bit
conflict_applies d (Event c m a) h = absurd (false≢true h)
conflict_applies d (Packet x y a) h = absurd (false≢true h)
conflict_applies d (Offcore w a) h =
    ⊎_elim
    (λ t. bit_38 (sym (either_false _) ∙ t))
    (λ t. let p = both_parts _ _ t in bit_16 (sym (either_false _) ∙ p.0) (any_has answer_bits w p.1))
    (either_cases _ _ h)
conflict_applies d (Latency t a b) h = absurd (false≢true h)

conflict_holds : (d : Device) (r : Request) → Conflicting d r → conflicting d r ≡ true
unfolding conflicting any_bit
conflict_holds d r (bit_38 h) = either_left _ _ (either_left _ _ h)
conflict_holds d r (bit_16 {w = w} h answer) = either_right _ _ (true_both _ _ (either_left _ _ h) (any_of_has answer_bits w answer))

pub refused_requests : RefusedRequests
refused_requests =
    record {
      seven = λ d r. (kind_applies d r, kind_holds d r);
      eight = λ d r. (listed_applies d r, listed_holds d r);
      nine = λ d r. (lacks_applies d r, lacks_holds d r);
      ten = λ d r. (range_applies d r, range_holds d r);
      eleven = λ d r. (conflict_applies d r, conflict_holds d r);
      zero_on_s = zero_on_s;
      above_on_s = above_on_s;
    }
