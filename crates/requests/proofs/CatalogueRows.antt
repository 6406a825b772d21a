-- The tests of a catalogue by its rows: a code or a pair is listed exactly where a row has it, and a code that has its own masks stands in one row. Assumes nothing.
use mathlib.Core.Path.{◌≡◌, refl, ap, sym, subst, ◌∙◌}
use mathlib.Core.Logic.{◌⊎◌, inl, inr, ⊎_elim}
use mathlib.Core.Bool.{Bool, true, false, not, false≢true}
use mathlib.Core.List.{List, [], ◌∷◌, Memᴰ}
use Prim.Native.Nat.{ℕ}
use native.Mathlib.Nat.{lt_of_not-le}
use native.Mathlib.Omega.{arith}
use borrow.Author.Tests.{eqb-true, eq-eqb, leb-true, le-leb, not-true}
use Rattle.requests.specs.Choice.{both, either}
use Rattle.requests.specs.Devices.{pairs_judged}
use Rattle.requests.specs.MaskRules.{MaskRule, alone, range, among, allows, ListedEvent, listed}
use Rattle.requests.specs.CBoxEvents.{cbox_events}
use Rattle.requests.specs.Catalogue.{events_of, code_in, pair_in}
use Rattle.requests.specs.RefusedRequests.{Lists, Above, InCatalogue, PairsOn, on_g_lem, on_b_lem, CodesOn, on_s_lem, on_c_lem}
use Rattle.requests.specs.declared.Device.{Device}
use Rattle.requests.specs.declared.Device.TheVariants.{G, S, C, B}
use Rattle.requests.proofs.Tests.{both_ways, both_parts, true_both, either_cases, either_left, either_right}
use Rattle.requests.proofs.BitMembers.{in_member, member_in}

-- a row of the list with the code
abbrev RowOf : List ListedEvent → ℕ → MaskRule → Type 0
RowOf es c masks = Memᴰ (listed c masks) es

allows_lists : (masks : MaskRule) (m : ℕ) → allows masks m ≡ true → Lists masks m
unfolding allows
allows_lists (alone n) m h = eqb-true m n h
allows_lists (range low high) m h = let p = both_parts _ _ h in (leb-true low m p.0, leb-true m high p.1)
allows_lists (among ms) m h = in_member ms m h

lists_allows : (masks : MaskRule) (m : ℕ) → Lists masks m → allows masks m ≡ true
unfolding allows
lists_allows (alone n) m h = eq-eqb m n h
lists_allows (range low high) m h = true_both _ _ (le-leb low m h.0) (le-leb m high h.1)
lists_allows (among ms) m h = member_in ms m h

-- ---- codes

pub code_row : (es : List ListedEvent) (c : ℕ) → code_in es c ≡ true → (masks : MaskRule) × RowOf es c masks
unfolding code_in
code_row [] c h = absurd (false≢true h)
code_row (e ∷ es) c h =
    ⊎_elim
    (λ t. (e.masks, Memᴰ.head (ap (λ (x : ℕ). listed x e.masks) (eqb-true c e.code t))))
    (λ t. let f = code_row es c t in (f.0, Memᴰ.tail f.1))
    (either_cases _ _ h)

pub row_code : (es : List ListedEvent) (c : ℕ) (masks : MaskRule) → RowOf es c masks → code_in es c ≡ true
unfolding code_in
row_code (e ∷ es) c masks (Memᴰ.head p) = either_left _ _ (eq-eqb c e.code (ap (λ (x : ListedEvent). x.code) p))
row_code (e ∷ es) c masks (Memᴰ.tail m) = either_right _ _ (row_code es c masks m)
row_code [] c masks x' = elim x' [ ]

-- ---- pairs

pub pair_row : (es : List ListedEvent) (c m : ℕ) → pair_in es c m ≡ true → (masks : MaskRule) × RowOf es c masks × Lists masks m
unfolding pair_in
pair_row [] c m h = absurd (false≢true h)
pair_row (e ∷ es) c m h =
    ⊎_elim
    (λ t. let p = both_parts _ _ t in
    (e.masks, Memᴰ.head (ap (λ (x : ℕ). listed x e.masks) (eqb-true c e.code p.0)), allows_lists e.masks m p.1))
    (λ t. let f = pair_row es c m t in (f.0, Memᴰ.tail f.1, f.2))
    (either_cases _ _ h)

pub row_pair : (es : List ListedEvent) (c m : ℕ) (masks : MaskRule) → RowOf es c masks → Lists masks m → pair_in es c m ≡ true
unfolding pair_in
row_pair (e ∷ es) c m masks (Memᴰ.head p) h =
    either_left _ _ (true_both _ _ (eq-eqb c e.code (ap (λ (x : ListedEvent). x.code) p))
    (ap (λ (x : ListedEvent). allows x.masks m) (sym p) ∙ lists_allows masks m h))
row_pair (e ∷ es) c m masks (Memᴰ.tail r) h = either_right _ _ (row_pair es c m masks r h)
row_pair [] c m masks x'' h = elim x'' [ ]

-- ---- one row a code

-- no code stands in a later row again
unfoldable distinct_codes : List ListedEvent → Bool
distinct_codes [] = true
distinct_codes (e ∷ es) = both (not (code_in es e.code)) (distinct_codes es)

again : (e : ListedEvent) (es : List ListedEvent) → distinct_codes (e ∷ es) ≡ true → (c : ℕ) (masks : MaskRule) → c ≡ e.code → RowOf es c masks → ⊥
unfolding distinct_codes
again e es distinct c masks same r =
    both_ways (row_code es c masks r) (ap (code_in es) same ∙ not-true _ (both_parts _ _ distinct).0)

one_row : (es : List ListedEvent) → distinct_codes es ≡ true → (c : ℕ) (masks others : MaskRule) → RowOf es c masks → RowOf es c others → masks ≡ others
unfolding distinct_codes
one_row (e ∷ es) distinct c masks others (Memᴰ.head p) (Memᴰ.head q) = ap (λ (x : ListedEvent). x.masks) (p ∙ sym q)
one_row (e ∷ es) distinct c masks others (Memᴰ.head p) (Memᴰ.tail r) = absurd (again e es distinct c others (ap (λ (x : ListedEvent). x.code) p) r)
one_row (e ∷ es) distinct c masks others (Memᴰ.tail r) (Memᴰ.head q) = absurd (again e es distinct c masks (ap (λ (x : ListedEvent). x.code) q) r)
one_row (e ∷ es) distinct c masks others (Memᴰ.tail r) (Memᴰ.tail t) = one_row es (both_parts _ _ distinct).1 c masks others r t
one_row [] distinct c masks others x3 _ = elim x3 [ ]

-- a code that has its own masks stands in one row
pub one_row_on : (d : Device) → CodesOn d → (c : ℕ) (masks others : MaskRule) → InCatalogue d c masks → InCatalogue d c others → masks ≡ others
unfolding events_of cbox_events code_in distinct_codes both either
one_row_on d on_s_lem c masks others p q = one_row (events_of S) refl c masks others p q
one_row_on d on_c_lem c masks others p q = one_row cbox_events refl c masks others p q

-- how a device's events are judged
pub judged : (d : Device) → (PairsOn d × (pairs_judged d ≡ true)) ⊎ (CodesOn d × (pairs_judged d ≡ false))
unfolding pairs_judged
judged G = inl (on_g_lem, refl)
judged S = inr (on_s_lem, refl)
judged (C b) = inr (on_c_lem, refl)
judged B = inl (on_b_lem, refl)

pub pairs_judged_lem : (d : Device) → PairsOn d → pairs_judged d ≡ true
unfolding pairs_judged
pairs_judged_lem d on_g_lem = refl
pairs_judged_lem d on_b_lem = refl

pub codes_judged : (d : Device) → CodesOn d → pairs_judged d ≡ false
unfolding pairs_judged
codes_judged d on_s_lem = refl
codes_judged d on_c_lem = refl

-- ---- masks on S

-- a code has the masks 1..3, or 0 alone
rule_on_s : (c : ℕ) (masks : MaskRule) → InCatalogue S c masks → (masks ≡ range 1 3) ⊎ (masks ≡ alone 0)
unfolding events_of
rule_on_s c masks (Memᴰ.head p) = inl (ap (λ (x : ListedEvent). x.masks) p)
rule_on_s c masks (Memᴰ.tail (Memᴰ.head p)) = inl (ap (λ (x : ListedEvent). x.masks) p)
rule_on_s c masks (Memᴰ.tail (Memᴰ.tail (Memᴰ.head p))) = inr (ap (λ (x : ListedEvent). x.masks) p)
rule_on_s c masks (Memᴰ.tail (Memᴰ.tail (Memᴰ.tail (Memᴰ.head p)))) = inr (ap (λ (x : ListedEvent). x.masks) p)
rule_on_s c masks (Memᴰ.tail (Memᴰ.tail (Memᴰ.tail (Memᴰ.tail (Memᴰ.head p))))) = inr (ap (λ (x : ListedEvent). x.masks) p)
rule_on_s c masks (Memᴰ.tail (Memᴰ.tail (Memᴰ.tail (Memᴰ.tail (Memᴰ.tail (Memᴰ.head p)))))) = inr (ap (λ (x : ListedEvent). x.masks) p)
rule_on_s c masks (mathlib.Core.List.Memᴰ.tail (mathlib.Core.List.Memᴰ.tail (mathlib.Core.List.Memᴰ.tail (mathlib.Core.List.Memᴰ.tail (mathlib.Core.List.Memᴰ.tail (mathlib.Core.List.Memᴰ.tail x24)))))) = elim x24 [ ]

-- where 0 is not listed, 1..3 is; another mask that is not listed is above those that are
pub zero_on_s : (c : ℕ) (masks : MaskRule) → InCatalogue S c masks → ¬ Lists masks 0 → masks ≡ range 1 3
zero_on_s c masks row out =
    ⊎_elim (λ e. e) (λ e. absurd (out (subst (λ (x : MaskRule). Lists x 0) (sym e) refl))) (rule_on_s c masks row)

pub above_on_s : (c m : ℕ) (masks : MaskRule) → InCatalogue S c masks → ¬ Lists masks m → ¬ (m ≡ 0) → Above masks m
above_on_s c m masks row out some = go masks (rule_on_s c masks row) out
  where
    go : (x : MaskRule) → (x ≡ range 1 3) ⊎ (x ≡ alone 0) → ¬ Lists x m → Above x m
    go x (inl e) n = rw e (lt_of_not-le (λ l. (rw e at n) (omega (arith, some), l)))
    go x (inr e) n = rw e (omega (arith, some))
