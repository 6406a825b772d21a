-- Event tables whose codes and masks have 8 bits, and that leave one code out. Assumes nothing.
--     table        the test of a table
--     row-listed   what it says of a listed event
use mathlib.Core.Path.{◌≡◌, sym, ◌∙◌}
use mathlib.Core.Logic.{⊎_elim}
use mathlib.Core.Bool.{Bool, true, not, false≢true}
use mathlib.Core.List.{List, [], ◌∷◌}
use Prim.Native.Nat.{ℕ, ◌<◌}
use native.Mathlib.Omega.{arith}
use borrow.Author.Tests.{eqb-true, leb-true, ltb-true, eqb-false, not-true}
use lib.Dec.{eqb, ltb, leb}
use Rattle.requests.specs.Choice.{both}
use Rattle.requests.specs.Bits.{in_list}
use Rattle.requests.specs.MaskRules.{MaskRule, alone, range, among, allows, ListedEvent}
use Rattle.requests.specs.Catalogue.{pair_in}
use Rattle.requests.proofs.Tests.{both_parts, either_cases}

-- whether all numbers of a list are below 256
unfoldable pub all_below : List ℕ → Bool
all_below [] = true
all_below (n ∷ ns) = both (ltb n 256) (all_below ns)

-- whether the masks of a rule are below 256
unfoldable pub below_mask : MaskRule → Bool
below_mask (alone n) = ltb n 256
below_mask (range low high) = ltb high 256
below_mask (among ms) = all_below ms

-- whether no row has the code x, and all codes and masks are below 256
unfoldable pub table : ℕ → List ListedEvent → Bool
table x [] = true
table x (e ∷ es) = both (both (ltb e.code 256) (both (below_mask e.masks) (not (eqb e.code x)))) (table x es)

-- what is known of a listed event where no row has the code x
pub record Listed (x c m : ℕ) : Type 0 where
  pub code : c < 256
  pub mask : m < 256
  pub other : c ≡ x → ⊥

member_below : (ns : List ℕ) (m : ℕ) → all_below ns ≡ true → in_list ns m ≡ true → m < 256
unfolding all_below in_list
member_below [] m b h = absurd (false≢true h)
member_below (n ∷ ns) m b h =
    let all = both_parts _ _ b in
    ⊎_elim (λ t. omega (arith, eqb-true n m t, ltb-true n 256 all.0)) (λ t. member_below ns m all.1 t) (either_cases _ _ h)

mask_below : (r : MaskRule) (m : ℕ) → below_mask r ≡ true → allows r m ≡ true → m < 256
unfolding below_mask allows
mask_below (alone n) m b h = omega (arith, eqb-true m n h, ltb-true n 256 b)
mask_below (range low high) m b h = omega (arith, leb-true m high (both_parts (leb low m) (leb m high) h).1, ltb-true high 256 b)
mask_below (among ms) m b h = member_below ms m b h

pub row_listed : (x c m : ℕ) (es : List ListedEvent) → table x es ≡ true → pair_in es c m ≡ true → Listed x c m
unfolding table pair_in
row_listed x c m [] t l = absurd (false≢true l)
row_listed x c m (e ∷ es) t l =
    let all = both_parts _ _ t in
    let here = both_parts _ _ all.0 in
    let rest = both_parts _ _ here.1 in
    ⊎_elim
    (λ h. let pair = both_parts _ _ h in
    let same : c ≡ e.code = eqb-true c e.code pair.0 in
    record {
      code = omega (arith, ltb-true e.code 256 here.0);
      mask = mask_below e.masks m rest.0 pair.1;
      other = λ q. eqb-false e.code x (not-true _ rest.1) (sym same ∙ q);
    })
    (λ h. row_listed x c m es all.1 h)
    (either_cases _ _ l)
