-- The catalogue of the C-Box lists what its pages print: antt computes the two over every page and every byte. Assumes nothing.
--     as-printed     the computed test
--     cbox-pages     what it says of every code and mask
use Rattle.std.specs.Prelude.{Option, None, Some}
use mathlib.Core.Path.{◌≡◌, refl, ap, ap₂, sym, ◌∙◌}
use mathlib.Core.Logic.{◌↔◌, ⊎_elim}
use mathlib.Core.Bool.{Bool, true, false, not, false≢true}
use mathlib.Mathlib.Data.Bool.Basic.{eq-false_of_not-eq-true}
use mathlib.Core.List.{List, [], ◌∷◌, Memᴰ}
use Prim.Native.Nat.{ℕ, ◌≤◌, ◌<◌}
use lib.Dec.{eqb}
use borrow.Author.Tests.{eqb-true, eq-eqb, ne_eqb, le-ltb, not-true}
use Rattle.requests.specs.Choice.{both, either, every, first_holding}
use Rattle.requests.specs.Bits.{bit, in_list}
use Rattle.requests.specs.Refusals.{number_of, answer_for, answer_number}
use Rattle.requests.specs.Devices.{counter_count, all_counters, pairs_judged}
use Rattle.requests.specs.MaskRules.{ListedEvent, allows}
use Rattle.requests.specs.CBoxEvents.{sink_masks, ring_masks, starved_masks, bypass_masks, cbox_events}
use Rattle.requests.specs.Catalogue.{events_of, code_in, pair_in, mask_not_listed}
use Rattle.requests.specs.Checks.{kind_not_on, not_listed_lem, too_wide, out_of_range, incomplete, conflicting, request_rows, request_refusal}
use Rattle.requests.specs.CBoxPages.{PrintedBit, O, I, x, Pattern, b, Printed, no_masks, masks, Page, page, two_ways, three_sinks, rings, egresses, bypasses, misses, fills, victims, snoop_hits, pages, StandsFor, zero, one, any, Agrees, bits, Paged, Accepted, alone, listed, Asked, event_number, CBoxPages}
use Rattle.requests.specs.declared.CounterSet.{CounterSet}
use Rattle.requests.specs.declared.Device.TheVariants.{C}
use Rattle.requests.specs.declared.Setup.{Setup}
use Rattle.requests.proofs.Tests.{both_parts, true_both, either_cases, either_left, either_right, every_at}
use Rattle.requests.proofs.Words.{same}
use Rattle.requests.proofs.CatalogueRows.{row_code, pair_row}

-- ---- printed masks as tests

unfoldable stands : PrintedBit → Bool → Bool
stands O v = not v
stands I v = v
stands x v = true

unfoldable agrees : Pattern → ℕ → Bool
agrees (b p7 p6 p5 p4 p3 p2 p1 p0) m =
    both (stands p7 (bit 7 m)) (both (stands p6 (bit 6 m)) (both (stands p5 (bit 5 m)) (both (stands p4 (bit 4 m))
    (both (stands p3 (bit 3 m)) (both (stands p2 (bit 2 m)) (both (stands p1 (bit 1 m)) (stands p0 (bit 0 m))))))))

unfoldable some_agrees : List Pattern → ℕ → Bool
some_agrees [] m = false
some_agrees (p ∷ ps) m = either (agrees p m) (some_agrees ps m)

unfoldable prints : Printed → ℕ → Bool
prints no_masks m = eqb m 0
prints (masks ps) m = some_agrees ps m

stands_for : (p : PrintedBit) (v : Bool) → stands p v ≡ true → StandsFor p v
unfolding stands
stands_for O true h = absurd (false≢true h)
stands_for O false h = zero
stands_for I true h = one
stands_for I false h = absurd (false≢true h)
stands_for x v h = any

for_stands : (p : PrintedBit) (v : Bool) → StandsFor p v → stands p v ≡ true
unfolding stands
for_stands p v zero = refl
for_stands p v one = refl
for_stands p v any = refl

agrees_with : (p : Pattern) (m : ℕ) → agrees p m ≡ true → Agrees p m
unfolding agrees
agrees_with (b p7 p6 p5 p4 p3 p2 p1 p0) m h =
    let h7 = both_parts _ _ h in
    let h6 = both_parts _ _ h7.1 in
    let h5 = both_parts _ _ h6.1 in
    let h4 = both_parts _ _ h5.1 in
    let h3 = both_parts _ _ h4.1 in
    let h2 = both_parts _ _ h3.1 in
    let h1 = both_parts _ _ h2.1 in
    bits (stands_for p7 _ h7.0) (stands_for p6 _ h6.0) (stands_for p5 _ h5.0) (stands_for p4 _ h4.0)
    (stands_for p3 _ h3.0) (stands_for p2 _ h2.0) (stands_for p1 _ h1.0) (stands_for p0 _ h1.1)

with_agrees : (p : Pattern) (m : ℕ) → Agrees p m → agrees p m ≡ true
unfolding agrees
with_agrees p m (bits s7 s6 s5 s4 s3 s2 s1 s0) =
    true_both _ _ (for_stands _ _ s7) (true_both _ _ (for_stands _ _ s6) (true_both _ _ (for_stands _ _ s5) (true_both _ _ (for_stands _ _ s4)
    (true_both _ _ (for_stands _ _ s3) (true_both _ _ (for_stands _ _ s2) (true_both _ _ (for_stands _ _ s1) (for_stands _ _ s0)))))))

some_agrees_lem : (ps : List Pattern) (m : ℕ) → some_agrees ps m ≡ true → (p : Pattern) × Memᴰ p ps × Agrees p m
unfolding some_agrees
some_agrees_lem [] m h = absurd (false≢true h)
some_agrees_lem (p ∷ ps) m h =
    ⊎_elim (λ t. (p, Memᴰ.head refl, agrees_with p m t)) (λ t. let f = some_agrees_lem ps m t in (f.0, Memᴰ.tail f.1, f.2)) (either_cases _ _ h)

agrees_some : (ps : List Pattern) (p : Pattern) (m : ℕ) → Memᴰ p ps → Agrees p m → some_agrees ps m ≡ true
unfolding some_agrees
agrees_some (q ∷ ps) p m (Memᴰ.head e) a = either_left _ _ (ap (λ (y : Pattern). agrees y m) (sym e) ∙ with_agrees p m a)
agrees_some (q ∷ ps) p m (Memᴰ.tail r) a = either_right _ _ (agrees_some ps p m r a)
agrees_some [] p m x3 a = elim x3 [ ]

-- ---- the pages against the catalogue

-- whether the events are those of the pages, with the masks that these print
unfoldable as_printed : List Page → List ListedEvent → Bool
as_printed [] [] = true
as_printed (p ∷ ps) (e ∷ es) = both (eqb p.code e.code) (both (every 256 (λ m. same (prints p.printed m) (allows e.masks m))) (as_printed ps es))
as_printed [] (e ∷ es) = false
as_printed (p ∷ ps) [] = false

as_printed_lem : as_printed pages cbox_events ≡ true
unfolding as_printed pages cbox_events prints some_agrees agrees stands bit allows in_list both either every sink_masks ring_masks starved_masks bypass_masks two_ways three_sinks rings egresses bypasses misses fills victims snoop_hits
as_printed_lem = refl

same_is : (p q : Bool) → same p q ≡ true → p ≡ q
same_is true q h = sym h
same_is false q h = sym (not-true q h)

-- a page of the list has the code
unfoldable paged : List Page → ℕ → Bool
paged [] c = false
paged (p ∷ ps) c = either (eqb c p.code) (paged ps c)

-- and prints the mask
unfoldable printed : List Page → ℕ → ℕ → Bool
printed [] c m = false
printed (p ∷ ps) c m = either (both (eqb c p.code) (prints p.printed m)) (printed ps c m)

same_codes : (ps : List Page) (es : List ListedEvent) → as_printed ps es ≡ true → (c : ℕ) → code_in es c ≡ paged ps c
unfolding as_printed code_in paged
same_codes [] [] h c = refl
same_codes (p ∷ ps) (e ∷ es) h c =
    let t = both_parts _ _ h in
    ap₂ either (ap (eqb c) (sym (eqb-true p.code e.code t.0))) (same_codes ps es (both_parts _ _ t.1).1 c)
same_codes [] (e ∷ es) h c = absurd (false≢true h)
same_codes (p ∷ ps) [] h c = absurd (false≢true h)

same_pairs : (ps : List Page) (es : List ListedEvent) → as_printed ps es ≡ true → (c m : ℕ) → m < 256 → pair_in es c m ≡ printed ps c m
unfolding as_printed pair_in printed
same_pairs [] [] h c m l = refl
same_pairs (p ∷ ps) (e ∷ es) h c m l =
    let t = both_parts _ _ h in
    let s = both_parts _ _ t.1 in
    ap₂ either
    (ap₂ both (ap (eqb c) (sym (eqb-true p.code e.code t.0))) (sym (same_is _ _ (every_at 256 (λ k. same (prints p.printed k) (allows e.masks k)) s.0 m l))))
    (same_pairs ps es s.1 c m l)
same_pairs [] (e ∷ es) h c m l = absurd (false≢true h)
same_pairs (p ∷ ps) [] h c m l = absurd (false≢true h)

-- ---- the tests in words

paged_page : (ps : List Page) (c : ℕ) → paged ps c ≡ true → (q : Printed) × Memᴰ (page c q) ps
unfolding paged
paged_page [] c h = absurd (false≢true h)
paged_page (p ∷ ps) c h =
    ⊎_elim (λ t. (p.printed, Memᴰ.head (ap (λ (n : ℕ). page n p.printed) (eqb-true c p.code t))))
    (λ t. let f = paged_page ps c t in (f.0, Memᴰ.tail f.1)) (either_cases _ _ h)

page_paged : (ps : List Page) (c : ℕ) (q : Printed) → Memᴰ (page c q) ps → paged ps c ≡ true
unfolding paged
page_paged (p ∷ ps) c q (Memᴰ.head e) = either_left _ _ (eq-eqb c p.code (ap (λ (y : Page). y.code) e))
page_paged (p ∷ ps) c q (Memᴰ.tail r) = either_right _ _ (page_paged ps c q r)
page_paged [] c q x'' = elim x'' [ ]

printed_page : (ps : List Page) (c m : ℕ) → printed ps c m ≡ true → (q : Printed) × Memᴰ (page c q) ps × (prints q m ≡ true)
unfolding printed
printed_page [] c m h = absurd (false≢true h)
printed_page (p ∷ ps) c m h =
    ⊎_elim
    (λ t. let s = both_parts _ _ t in (p.printed, Memᴰ.head (ap (λ (n : ℕ). page n p.printed) (eqb-true c p.code s.0)), s.1))
    (λ t. let f = printed_page ps c m t in (f.0, Memᴰ.tail f.1, f.2))
    (either_cases _ _ h)

page_printed : (ps : List Page) (c m : ℕ) (q : Printed) → Memᴰ (page c q) ps → prints q m ≡ true → printed ps c m ≡ true
unfolding printed
page_printed (p ∷ ps) c m q (Memᴰ.head e) h =
    either_left _ _ (true_both _ _ (eq-eqb c p.code (ap (λ (y : Page). y.code) e)) (ap (λ (y : Page). prints y.printed m) (sym e) ∙ h))
page_printed (p ∷ ps) c m q (Memᴰ.tail r) h = either_right _ _ (page_printed ps c m q r h)
page_printed [] c m q x3 h = elim x3 [ ]

accepted : (c m : ℕ) (q : Printed) → Memᴰ (page c q) pages → prints q m ≡ true → Accepted c m
unfolding prints
accepted c m no_masks r h = rw (eqb-true m 0 h) (alone r)
accepted c m (masks ps) r h = let f = some_agrees_lem ps m h in listed r f.1 f.2

accepts : (c m : ℕ) → Accepted c m → printed pages c m ≡ true
unfolding prints
accepts c m (alone r) = page_printed pages c 0 no_masks r refl
accepts c m (listed {rows = ps} {p = p} r q a) = page_printed pages c m (masks ps) r (agrees_some ps p m q a)

codes : (n c : ℕ) → (code_in (events_of (C n)) c ≡ true) ↔ Paged c
unfolding events_of
codes n c = let e = same_codes pages cbox_events as_printed_lem c in (λ h. paged_page pages c (sym e ∙ h), λ f. e ∙ page_paged pages c f.0 f.1)

pairs : (n c m : ℕ) → m < 256 → (pair_in (events_of (C n)) c m ≡ true) ↔ Accepted c m
unfolding events_of
pairs n c m l =
    let e = same_pairs pages cbox_events as_printed_lem c m l in
    (λ h. let f = printed_page pages c m (sym e ∙ h) in accepted c m f.0 f.1 f.2, λ a. e ∙ accepts c m a)

-- ---- answers

-- the number, by whether the code is listed, whether the pair is, and whether the mask is 0
unfoldable answer : Bool → Bool → Bool → Option ℕ
answer false pair none-given = Some 8
answer true true none-given = None
answer true false true = Some 9
answer true false false = Some 10

not_wide : (n : ℕ) (a : CounterSet) → a.0 ≤ 63 → too_wide (C n) a ≡ false
unfolding too_wide all_counters counter_count
not_wide n a within = le-ltb 63 a.0 within

answered : (n : ℕ) (s : Setup) (c m : ℕ) (a : CounterSet) (code pair none-given : Bool) → s.device ≡ C n → a.0 ≤ 63
    → code_in (events_of (C n)) c ≡ code → pair_in (events_of (C n)) c m ≡ pair → eqb m 0 ≡ none-given → event_number s c m a ≡ answer code pair none-given
unfolding request_refusal request_rows first_holding kind_not_on not_listed_lem out_of_range incomplete conflicting mask_not_listed pairs_judged both either answer_for answer_number number_of answer
answered n s c m a false pair g on within l h z = rw (on, l)
answered n s c m a true true true on within l h z = rw (on, l, h, z, not_wide n a within)
answered n s c m a true true false on within l h z = rw (on, l, h, z, not_wide n a within)
answered n s c m a true false true on within l h z = rw (on, l, h, z, not_wide n a within)
answered n s c m a true false false on within l h z = rw (on, l, h, z)

module _ (s : Setup) (c m : ℕ) (a : CounterSet) (asked : Asked s m a) where
  abbrev n : ℕ
  n = asked.cbox.0

  code_listed : Paged c → code_in (events_of (C n)) c ≡ true
  code_listed = (codes n c).1

  pair_unlisted : ¬ Accepted c m → pair_in (events_of (C n)) c m ≡ false
  pair_unlisted out = eq-false_of_not-eq-true (λ h. out ((pairs n c m asked.byte).0 h))

  pub taken : Accepted c m → event_number s c m a ≡ None
  unfolding answer
  taken ok =
      let pair : pair_in (events_of (C n)) c m ≡ true = (pairs n c m asked.byte).1 ok in
      let row = pair_row (events_of (C n)) c m pair in
      answered n s c m a true true (eqb m 0) asked.cbox.1 asked.within (row_code (events_of (C n)) c row.0 row.1) pair refl

  pub eight : ¬ Paged c → event_number s c m a ≡ Some 8
  unfolding answer
  eight out = answered n s c m a false _ _ asked.cbox.1 asked.within (eq-false_of_not-eq-true (λ h. out ((codes n c).0 h))) refl refl

  pub nine : m ≡ 0 → Paged c → ¬ Accepted c m → event_number s c m a ≡ Some 9
  unfolding answer
  nine e there out = answered n s c m a true false true asked.cbox.1 asked.within (code_listed there) (pair_unlisted out) (eq-eqb m 0 e)

  pub ten : Paged c → ¬ Accepted c m → ¬ (m ≡ 0) → event_number s c m a ≡ Some 10
  unfolding answer
  ten there out other = answered n s c m a true false false asked.cbox.1 asked.within (code_listed there) (pair_unlisted out) (ne_eqb m 0 other)

pub cbox_pages : CBoxPages
cbox_pages =
    record {
      codes = codes;
      pairs = pairs;
      taken = taken;
      eight = eight;
      nine = λ s c a asked. nine s c 0 a asked refl;
      ten = ten;
    }
