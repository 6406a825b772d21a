-- The catalogues of G, S and B are the rows of document 01 and of order 12: each row as a mask rule, and the tests of a list of such rows. Assumes nothing.
use mathlib.Core.Path.{◌≡◌, refl, ap, sym, ◌∙◌}
use mathlib.Core.Logic.{⊎_elim}
use mathlib.Core.Bool.{Bool, true, false, false≢true}
use mathlib.Core.List.{List, [], ◌∷◌, map, Memᴰ}
use Prim.Native.Nat.{ℕ, ◌≤◌}
use native.Mathlib.Omega.{arith}
use lib.Dec.{eqb}
use borrow.Author.Tests.{eqb-true, eq-eqb, leb-true, le-leb}
use Rattle.requests.specs.Choice.{pick}
use Rattle.requests.specs.MaskRules.{MaskRule, alone, range, allows, ListedEvent, listed}
use Rattle.requests.specs.Catalogue.{architectural_events, precise_events, events_of, code_in, pair_in}
use Rattle.requests.specs.PrintedEvents.{PrintedRow, printed_g, printed_s, printed_b, CodePrinted, PairPrinted, AsPrinted, PrintedEvents}
use Rattle.requests.specs.declared.Device.{Device}
use Rattle.requests.specs.declared.Device.TheVariants.{G, S, B}
use Rattle.requests.proofs.Tests.{both_parts, true_both, either_cases, either_left, either_right}

-- the masks of a row
unfoldable rule : PrintedRow → MaskRule
rule r = pick (eqb r.least r.greatest) (alone r.least) (range r.least r.greatest)

-- its event
unfoldable event : PrintedRow → ListedEvent
event r = listed r.code (rule r)

-- the mask is one of the row's
abbrev Has : PrintedRow → ℕ → Type 0
Has r m = (r.least ≤ m) × (m ≤ r.greatest)

rule_has : (r : PrintedRow) (m : ℕ) → allows (rule r) m ≡ true → Has r m
unfolding rule allows
rule_has r m = go (eqb r.least r.greatest) refl
  where
    go : (b : Bool) → eqb r.least r.greatest ≡ b → allows (pick b (alone r.least) (range r.least r.greatest)) m ≡ true → Has r m
    go true e h =
        let is = eqb-true m r.least h in
        let ends = eqb-true r.least r.greatest e in
        (omega arith, omega arith)
    go false e h = let p = both_parts _ _ h in (leb-true r.least m p.0, leb-true m r.greatest p.1)

has_rule : (r : PrintedRow) (m : ℕ) → Has r m → allows (rule r) m ≡ true
unfolding rule allows
has_rule r m (low, high) = go (eqb r.least r.greatest) refl
  where
    go : (b : Bool) → eqb r.least r.greatest ≡ b → allows (pick b (alone r.least) (range r.least r.greatest)) m ≡ true
    go true e = let ends = eqb-true r.least r.greatest e in eq-eqb m r.least (omega arith)
    go false e = true_both _ _ (le-leb r.least m low) (le-leb m r.greatest high)

code_printed : (rows : List PrintedRow) (c : ℕ) → code_in (map event rows) c ≡ true → CodePrinted rows c
unfolding code_in event
code_printed [] c h = absurd (false≢true h)
code_printed (r ∷ rows) c h =
    ⊎_elim (λ t. (r, Memᴰ.head refl, eqb-true c r.code t)) (λ t. let f = code_printed rows c t in (f.0, Memᴰ.tail f.1, f.2)) (either_cases _ _ h)

printed_code : (rows : List PrintedRow) (c : ℕ) (r : PrintedRow) → Memᴰ r rows → c ≡ r.code → code_in (map event rows) c ≡ true
unfolding code_in event
printed_code (q ∷ rows) c r (Memᴰ.head e) h = either_left _ _ (eq-eqb c q.code (h ∙ ap (λ (x : PrintedRow). x.code) e))
printed_code (q ∷ rows) c r (Memᴰ.tail m) h = either_right _ _ (printed_code rows c r m h)
printed_code [] c r x'' h = elim x'' [ ]

pair_printed : (rows : List PrintedRow) (c m : ℕ) → pair_in (map event rows) c m ≡ true → PairPrinted rows c m
unfolding pair_in event
pair_printed [] c m h = absurd (false≢true h)
pair_printed (r ∷ rows) c m h =
    ⊎_elim
    (λ t. let p = both_parts _ _ t in
    let has = rule_has r m p.1 in
    (r, Memᴰ.head refl, eqb-true c r.code p.0, has.0, has.1))
    (λ t. let f = pair_printed rows c m t in (f.0, Memᴰ.tail f.1, f.2, f.3, f.4))
    (either_cases _ _ h)

printed_pair : (rows : List PrintedRow) (c m : ℕ) (r : PrintedRow) → Memᴰ r rows → c ≡ r.code → Has r m → pair_in (map event rows) c m ≡ true
unfolding pair_in event
printed_pair (q ∷ rows) c m r (Memᴰ.head e) h k =
    either_left _ _ (true_both _ _ (eq-eqb c q.code (h ∙ ap (λ (x : PrintedRow). x.code) e)) (ap (λ (x : PrintedRow). allows (rule x) m) (sym e) ∙ has_rule r m k))
printed_pair (q ∷ rows) c m r (Memᴰ.tail t) h k = either_right _ _ (printed_pair rows c m r t h k)
printed_pair [] c m r x3 h k = elim x3 [ ]

-- a device whose events are the rows'
as_printed_lem : (d : Device) (rows : List PrintedRow) → events_of d ≡ map event rows → AsPrinted d rows
as_printed_lem d rows e =
    record {
      codes = λ c. (λ h. code_printed rows c (rw (← e) h), λ f. ap (λ (es : List ListedEvent). code_in es c) e ∙ printed_code rows c f.0 f.1 f.2);
      pairs = λ c m. (λ h. pair_printed rows c m (rw (← e) h), λ f. ap (λ (es : List ListedEvent). pair_in es c m) e ∙ printed_pair rows c m f.0 f.1 f.2 (f.3, f.4));
    }

events_g : events_of G ≡ map event printed_g
unfolding events_of architectural_events printed_g event rule
events_g = refl

events_s : events_of S ≡ map event printed_s
unfolding events_of printed_s event rule
events_s = refl

events_b : events_of B ≡ map event printed_b
unfolding events_of architectural_events precise_events printed_g printed_b event rule
events_b = refl

pub printed_events : PrintedEvents
printed_events = record { on_g_lem = as_printed_lem G printed_g events_g; on_s_lem = as_printed_lem S printed_s events_s; on_b_lem = as_printed_lem B printed_b events_b }
