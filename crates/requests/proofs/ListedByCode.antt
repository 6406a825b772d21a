-- The row that has a code says what is listed of it, where no two rows have one code and none the code 0. Assumes nothing.
use mathlib.Core.Path.{◌≡◌, refl, ap, ap₂, sym, ◌∙◌}
use mathlib.Core.Bool.{Bool, true, false, not}
use mathlib.Core.List.{List, [], ◌∷◌, map}
use Prim.Native.Nat.{ℕ, zero, suc, ◌/◌, ◌<◌}
use native.Mathlib.Omega.{arith}
use lib.Dec.{eqb, ltb}
use lib.ListN.{length}
use borrow.Author.Tests.{eqb-true, eqb-false, eq-eqb, ne_eqb, lt-ltb, not-true}
use Rattle.requests.specs.Choice.{both, either}
use Rattle.requests.specs.Bits.{in_list}
use Rattle.requests.specs.MaskRules.{among, allows, ListedEvent, listed}
use Rattle.requests.specs.CBoxEvents.{sink_masks, ring_masks, starved_masks, bypass_masks, cbox_events}
use Rattle.requests.specs.Catalogue.{events_of, code_in, pair_in}
use Rattle.requests.specs.Lookup.{mask_rules, same_numbers, same_rule, place_of, row_of, rows_of, row_allows, listing_of}
use Rattle.requests.specs.ByCode.{row_with, table_of, found_in, listed_by}
use Rattle.requests.specs.Rounds.{code_at, Apart}
use Rattle.requests.specs.declared.Device.TheVariants.{C}
use Rattle.requests.proofs.Tests.{both_parts, either_false}
use Rattle.requests.proofs.RuleNumbers.{has_rule_lem, Known, all_known, cbox_known, row_code, row_allows_lem}
use Rattle.requests.proofs.ByCode.{with_here, with_behind, found_same}

-- whether no row has the code
unfoldable lacks : ℕ → List ℕ → Bool
lacks c [] = true
lacks c (r ∷ rs) = both (not (eqb c (r / 16))) (lacks c rs)

-- whether no later row has the code of a row
unfoldable distinct : List ℕ → Bool
distinct [] = true
distinct (r ∷ rs) = both (lacks (r / 16) rs) (distinct rs)

lacks_at : (c : ℕ) (rows : List ℕ) → lacks c rows ≡ true → (j : ℕ) → j < length rows → c ≡ code_at rows j → ⊥
unfolding lacks
lacks_at c [] h j l = absurd (omega arith)
lacks_at c (r ∷ rs) h zero l = eqb-false c (r / 16) (not-true _ (both_parts _ _ h).0)
lacks_at c (r ∷ rs) h (suc j) l = lacks_at c rs (both_parts _ _ h).1 j (omega arith)

distinct_apart : (rows : List ℕ) → distinct rows ≡ true → Apart rows
unfolding distinct
distinct_apart [] h i j l m = absurd (omega arith)
distinct_apart (r ∷ rs) h i zero l m = absurd (omega arith)
distinct_apart (r ∷ rs) h zero (suc j) l m = lacks_at (r / 16) rs (both_parts _ _ h).0 j (omega arith)
distinct_apart (r ∷ rs) h (suc i) (suc j) l m = distinct_apart rs (both_parts _ _ h).1 i j (omega arith) (omega arith)

-- ---- the tests of a list by its first event

module _ (e : ListedEvent) (es : List ListedEvent) (c m : ℕ) where
  code_here : c ≡ e.code → code_in (e ∷ es) c ≡ true
  unfolding code_in either
  code_here same = rw (eq-eqb c e.code same)

  code_behind : (c ≡ e.code → ⊥) → code_in (e ∷ es) c ≡ code_in es c
  unfolding code_in either
  code_behind other = rw (ne_eqb c e.code other)

  pair_here : c ≡ e.code → pair_in (e ∷ es) c m ≡ either (allows e.masks m) (pair_in es c m)
  unfolding pair_in either both
  pair_here same = rw (eq-eqb c e.code same)

  pair_behind : (c ≡ e.code → ⊥) → pair_in (e ∷ es) c m ≡ pair_in es c m
  unfolding pair_in either both
  pair_behind other = rw (ne_eqb c e.code other)

-- no pair has a code that no row has
no_pair : (es : List ListedEvent) → all_known es ≡ true → (c m : ℕ) → lacks c (map row_of es) ≡ true → pair_in es c m ≡ false
unfolding all_known lacks pair_in
no_pair [] k c m h = refl
no_pair (e ∷ es) k c m h =
    let first = eqb-false c (row_of e / 16) (not-true _ (both_parts _ _ h).0) in
    let other : c ≡ e.code → ⊥ = λ same. first (same ∙ sym (row_code e (both_parts _ _ k).0)) in
    pair_behind e es c m other ∙ no_pair es (both_parts _ _ k).1 c m (both_parts _ _ h).1

-- ---- what is listed, by the first row with the code

abbrev Told : List ListedEvent → ℕ → ℕ → Type 0
Told es c m = (code_in es c ≡ ltb 0 (row_with (map row_of es) c)) × (pair_in es c m ≡ row_allows (row_with (map row_of es) c) m)

none_told : (m : ℕ) → false ≡ row_allows 0 m
unfolding has_rule_lem mask_rules either same_rule same_numbers allows row_of in_list place_of
none_told m = row_allows_lem (listed 0 (among [])) refl m

-- what is told of no row, and of a row
pub listed_by_none : (r m : ℕ) → r ≡ 0 → listed_by r m ≡ record { code = false; pair = false }
unfolding listed_by
listed_by_none r m none = rw (none, ← none_told m)

pub listed_by_row : (r m : ℕ) → (r ≡ 0 → ⊥) → listed_by r m ≡ record { code = true; pair = row_allows r m }
unfolding listed_by
listed_by_row r m some = rw (lt-ltb 0 r (omega (arith, some)))

told_here : (e : ListedEvent) (es : List ListedEvent) (c m : ℕ) → Known e → (0 ≡ row_of e / 16 → ⊥) → row_of e / 16 ≡ c → pair_in es c m ≡ false → Told (e ∷ es) c m
told_here e es c m known positive same none =
    let found = with_here (row_of e) (map row_of es) c same in
    let code : c ≡ e.code = sym same ∙ row_code e known in (
      code_here e es c m code ∙ sym (ap (ltb 0) found ∙ lt-ltb 0 (row_of e) (omega (arith, positive))),
      pair_here e es c m code ∙ ap (either (allows e.masks m)) none ∙ either_false _ ∙ row_allows_lem e known m ∙ sym (ap (λ (r : ℕ). row_allows r m) found),
    )

told_behind : (e : ListedEvent) (es : List ListedEvent) (c m : ℕ) → Known e → (row_of e / 16 ≡ c → ⊥) → Told es c m → Told (e ∷ es) c m
told_behind e es c m known other rest =
    let behind = with_behind (row_of e) (map row_of es) c other in
    let code : c ≡ e.code → ⊥ = λ same. other (row_code e known ∙ sym same) in (
      code_behind e es c m code ∙ rest.0 ∙ sym (ap (ltb 0) behind),
      pair_behind e es c m code ∙ rest.1 ∙ sym (ap (λ (r : ℕ). row_allows r m) behind),
    )

told : (es : List ListedEvent) → all_known es ≡ true → distinct (map row_of es) ≡ true → lacks 0 (map row_of es) ≡ true → (c m : ℕ) → Told es c m
unfolding code_in pair_in all_known distinct lacks row_with
told [] k h z c m = (refl, none_told m)
told (e ∷ es) k h z c m =
    go (both_parts _ _ k) (both_parts _ _ h) (both_parts _ _ z) (eqb (row_of e / 16) c) refl (told es (both_parts _ _ k).1 (both_parts _ _ h).1 (both_parts _ _ z).1 c m)
  where
    go : Known e × (all_known es ≡ true) → (lacks (row_of e / 16) (map row_of es) ≡ true) × (distinct (map row_of es) ≡ true) → (not (eqb 0 (row_of e / 16)) ≡ true) × (lacks 0 (map row_of es) ≡ true)
        → (b : Bool) → eqb (row_of e / 16) c ≡ b → Told es c m → Told (e ∷ es) c m
    go k h z true t rest =
        let same = eqb-true (row_of e / 16) c t in
        told_here e es c m k.0 (eqb-false 0 (row_of e / 16) (not-true _ z.0)) same (no_pair es k.1 c m (ap (λ (x : ℕ). lacks x (map row_of es)) (sym same) ∙ h.0))
    go k h z false t rest = told_behind e es c m k.0 (eqb-false (row_of e / 16) c t) rest

-- ---- the C-Box

-- no two rows have one code, and none the code 0: computed
cbox_distinct : (b : ℕ) → distinct (0 ∷ rows_of (C b)) ≡ true
unfolding distinct lacks rows_of row_of events_of cbox_events mask_rules place_of same_rule same_numbers both sink_masks ring_masks starved_masks bypass_masks
cbox_distinct b = refl

pub cbox_apart : (b : ℕ) → Apart (0 ∷ rows_of (C b))
cbox_apart b = distinct_apart (0 ∷ rows_of (C b)) (cbox_distinct b)

-- what the row found in the table says
pub cbox_listing : (b c m : ℕ) → listing_of (C b) c m ≡ listed_by (found_in (table_of (rows_of (C b))) c).row m
unfolding listing_of listed_by distinct rows_of events_of
cbox_listing b c m =
    let split = both_parts _ _ (cbox_distinct b) in
    let t = told (events_of (C b)) (cbox_known) split.1 split.0 c m in
    let found = found_same (rows_of (C b)) c in
    ap₂ (λ (x y : Bool). record { code = x; pair = y }) (t.0 ∙ sym (ap (ltb 0) found)) (t.1 ∙ sym (ap (λ (r : ℕ). row_allows r m) found))
