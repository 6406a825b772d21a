-- Rows as numbers: a row gives back its event's code and its mask rule. Assumes nothing.
use mathlib.Core.Path.{◌≡◌, refl, ap, ap₂}
use mathlib.Core.Bool.{Bool, true, false, false≢true}
use mathlib.Core.List.{List, [], ◌∷◌}
use Prim.Native.Nat.{ℕ, zero, suc, ◌+◌, ◌*◌, ◌/◌, ◌%◌, ◌<◌, ◌≤◌}
use native.Mathlib.Omega.{arith}
use lib.ListN.{length, get_or, get_or-eq_default}
use borrow.Author.Tests.{eqb-true}
use Rattle.requests.specs.Choice.{both, either}
use Rattle.requests.specs.MaskRules.{MaskRule, alone, range, among, ListedEvent, allows}
use Rattle.requests.specs.CBoxEvents.{sink_masks, ring_masks, starved_masks, bypass_masks, cbox_events}
use Rattle.requests.specs.Catalogue.{events_of}
use Rattle.requests.specs.Lookup.{mask_rules, rule_at, same_numbers, same_rule, place_of, row_of, row_allows}
use Rattle.requests.specs.declared.Device.TheVariants.{S}
use Rattle.requests.proofs.Tests.{both_parts}

-- ---- rules

same_numbers_lem : (ns ms : List ℕ) → same_numbers ns ms ≡ true → ns ≡ ms
unfolding same_numbers
same_numbers_lem [] [] h = refl
same_numbers_lem (n ∷ ns) (m ∷ ms) h = let p = both_parts _ _ h in ap₂ (λ (x : ℕ) (xs : List ℕ). x ∷ xs) (eqb-true n m p.0) (same_numbers_lem ns ms p.1)
same_numbers_lem [] (m ∷ ms) h = absurd (false≢true h)
same_numbers_lem (n ∷ ns) [] h = absurd (false≢true h)

same_rule_lem : (q r : MaskRule) → same_rule q r ≡ true → q ≡ r
unfolding same_rule
same_rule_lem (alone n) (alone m) h = ap alone (eqb-true n m h)
same_rule_lem (range l g) (range k f) h = let p = both_parts _ _ h in ap₂ range (eqb-true l k p.0) (eqb-true g f p.1)
same_rule_lem (among ns) (among ms) h = ap among (same_numbers_lem ns ms h)
same_rule_lem (alone n) (range k g) h = absurd (false≢true h)
same_rule_lem (alone n) (among ms) h = absurd (false≢true h)
same_rule_lem (range l g) (alone m) h = absurd (false≢true h)
same_rule_lem (range l g) (among ms) h = absurd (false≢true h)
same_rule_lem (among ns) (alone m) h = absurd (false≢true h)
same_rule_lem (among ns) (range k g) h = absurd (false≢true h)

-- whether the list has the rule
unfoldable pub has_rule_lem : List MaskRule → MaskRule → Bool
has_rule_lem [] r = false
has_rule_lem (q ∷ qs) r = either (same_rule q r) (has_rule_lem qs r)

-- the place of the first rule, and of one behind it
place_here : (q : MaskRule) (qs : List MaskRule) (r : MaskRule) → same_rule q r ≡ true → place_of (q ∷ qs) r ≡ 0
unfolding place_of
place_here q qs r e = rw (e, place_of)

place_behind : (q : MaskRule) (qs : List MaskRule) (r : MaskRule) → same_rule q r ≡ false → place_of (q ∷ qs) r ≡ suc (place_of qs r)
unfolding place_of
place_behind q qs r e = rw (e, place_of)

-- a rule of the list has a place in it
place_below : (qs : List MaskRule) (r : MaskRule) → has_rule_lem qs r ≡ true → place_of qs r < length qs
unfolding has_rule_lem either
place_below [] r h = absurd (false≢true h)
place_below (q ∷ qs) r h = go (same_rule q r) refl h (place_below qs r)
  where
    go : (b : Bool) → same_rule q r ≡ b → either b (has_rule_lem qs r) ≡ true → (has_rule_lem qs r ≡ true → place_of qs r < length qs) → place_of (q ∷ qs) r < suc (length qs)
    go true e k later = rw (place_here q qs r e) (omega arith)
    go false e k later = rw (place_behind q qs r e) (omega (arith, later k))

-- and stands there
rule_placed : (qs : List MaskRule) (r x : MaskRule) → has_rule_lem qs r ≡ true → get_or qs (place_of qs r) x ≡ r
unfolding has_rule_lem either
rule_placed [] r x h = absurd (false≢true h)
rule_placed (q ∷ qs) r x h = go (same_rule q r) refl h (rule_placed qs r x)
  where
    go : (b : Bool) → same_rule q r ≡ b → either b (has_rule_lem qs r) ≡ true → (has_rule_lem qs r ≡ true → get_or qs (place_of qs r) x ≡ r) → get_or (q ∷ qs) (place_of (q ∷ qs) r) x ≡ r
    go true e t later = rw (place_here q qs r e) (same_rule_lem q r e)
    go false e t later = rw (place_behind q qs r e) (later t)

-- n is none of the numbers 1 to k
abbrev NoneOf : ℕ → ℕ → Type 0
NoneOf n zero = Unit {0}
NoneOf n (suc k) = NoneOf n k × (n ≡ suc k → ⊥)

-- one that is not 0 is past them
past_all : (n k : ℕ) → NoneOf (suc n) k → k ≤ n
past_all n zero others = omega arith
past_all n (suc k) others = let below = past_all n k others.0 in omega (arith, others.1)

-- the numbers 1 to 10 have rules that list a mask
pub no_rule : (n : ℕ) → NoneOf n 10 → rule_at n ≡ among []
unfolding rule_at mask_rules
no_rule zero others = refl
no_rule (suc n) others = let past : 11 ≤ suc n = omega (arith, past_all n 10 others) in get_or-eq_default mask_rules (among []) past

-- ---- events

-- whether the rules have that of each event
unfoldable pub all_known : List ListedEvent → Bool
all_known [] = true
all_known (e ∷ es) = both (has_rule_lem mask_rules e.masks) (all_known es)

pub known_at : (es : List ListedEvent) → all_known es ≡ true → (i : ℕ) (x : ListedEvent) → i < length es → has_rule_lem mask_rules (get_or es i x).masks ≡ true
unfolding all_known
known_at [] h i x l = absurd (omega arith)
known_at (e ∷ es) h zero x l = (both_parts _ _ h).0
known_at (e ∷ es) h (suc i) x l = known_at es (both_parts _ _ h).1 i x (omega arith)

-- computed
pub sbox_known : all_known (events_of S) ≡ true
unfolding all_known events_of has_rule_lem mask_rules same_rule same_numbers both either sink_masks ring_masks starved_masks bypass_masks
sbox_known = refl

pub cbox_known : all_known cbox_events ≡ true
unfolding all_known has_rule_lem mask_rules same_rule same_numbers both either cbox_events sink_masks ring_masks starved_masks bypass_masks
cbox_known = refl

-- the rule of an event has a number
abbrev pub Known : ListedEvent → Type 0
Known e = has_rule_lem mask_rules e.masks ≡ true

place_digit : (e : ListedEvent) → Known e → place_of mask_rules e.masks < 16
unfolding mask_rules
place_digit e h = omega (arith, place_below mask_rules e.masks h)

-- the code of a row
pub row_code : (e : ListedEvent) → Known e → row_of e / 16 ≡ e.code
unfolding row_of
row_code e h = omega (arith, place_digit e h)

-- a row lists the masks of its event
pub row_allows_lem : (e : ListedEvent) → Known e → (m : ℕ) → allows e.masks m ≡ row_allows (row_of e) m
unfolding row_allows row_of rule_at
row_allows_lem e h m =
    let digit : (16 * e.code + place_of mask_rules e.masks) % 16 ≡ place_of mask_rules e.masks = omega (arith, place_digit e h) in
    rw (digit, rule_placed mask_rules e.masks (among []) h)
