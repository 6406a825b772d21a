-- A look-up goes through a catalogue row by row: what is answered so far, with the rows that are left, is the whole answer. Assumes nothing.
use mathlib.Core.Path.{◌≡◌, refl, ap, sym, ◌∙◌}
use mathlib.Core.Bool.{Bool, true, false, not}
use mathlib.Core.List.{List, [], ◌∷◌}
use Prim.Native.Nat.{ℕ, ◌+◌, ◌/◌, ◌<◌, ◌≤◌}
use native.Mathlib.Numerals.{add-one}
use lib.ListN.{length, get_or, drop, get_or-map, length-map, drop_of_length-le}
use lib.Seq.{drop-cons}
use borrow.Author.Tests.{eq-eqb, ne_eqb}
use Rattle.requests.specs.Choice.{both, either}
use Rattle.requests.specs.Devices.{pairs_judged}
use Rattle.requests.specs.MaskRules.{among, ListedEvent, listed, allows}
use Rattle.requests.specs.Catalogue.{events_of, code_in, pair_in, mask_not_listed}
use Rattle.requests.specs.Lookup.{mask_rules, same_numbers, same_rule, place_of, row_of, rows_of, row_allows, listing_of}
use Rattle.requests.specs.Checks.{not_listed_lem}
use Rattle.requests.specs.declared.CounterSet.{CounterSet}
use Rattle.requests.specs.declared.Device.{Device}
use Rattle.requests.specs.declared.Listing.{Listing}
use Rattle.requests.specs.declared.Request.TheVariants.{Event}
use Rattle.requests.proofs.Tests.{either_true, either_false}
use Rattle.requests.proofs.RuleNumbers.{Known, all_known, known_at, row_code, row_allows_lem}

-- the event of a row
abbrev pub event_at : Device → ℕ → ListedEvent
event_at d i = get_or (events_of d) i (listed 0 (among []))

-- a row is that of its event
pub row_event : (d : Device) (i : ℕ) → get_or (rows_of d) i 0 ≡ row_of (event_at d i)
unfolding rows_of row_of mask_rules place_of same_rule same_numbers
row_event d i = get_or-map row_of (events_of d) i (listed 0 (among []))

-- as many rows as events
pub row_length : (d : Device) → length (rows_of d) ≡ length (events_of d)
unfolding rows_of
row_length d = length-map (events_of d) row_of

-- the answer, where b says whether a row passed has the code, and the rows are left
abbrev pub listing_from : Bool → List ListedEvent → ℕ → ℕ → Listing
listing_from b es c m = record { code = either b (code_in es c); pair = pair_in es c m }

-- no row is passed
pub at_start_lem : (d : Device) (c m : ℕ) → listing_from false (events_of d) c m ≡ listing_of d c m
unfolding either listing_of
at_start_lem d c m = refl

-- the rows left at i
left_at : (d : Device) (i : ℕ) → i < length (rows_of d) → drop i (events_of d) ≡ event_at d i ∷ drop (i + 1) (events_of d)
left_at d i l = rw (add-one, drop-cons (events_of d) i (listed 0 (among [])) (rw (← row_length d) l))

module _ (d : Device) (known : all_known (events_of d) ≡ true) (i c m : ℕ) (b : Bool) (within : i < length (rows_of d)) (r : ℕ) (read : r ≡ get_or (rows_of d) i 0) where
  abbrev here : r ≡ row_of (event_at d i)
  here = read ∙ row_event d i

  known_here : Known (event_at d i)
  known_here = known_at (events_of d) known i (listed 0 (among [])) (rw (← row_length d) within)

  code_here : r / 16 ≡ (event_at d i).code
  code_here = ap (λ (x : ℕ). x / 16) here ∙ row_code (event_at d i) known_here

  allows_here : allows (event_at d i).masks m ≡ row_allows r m
  allows_here = row_allows_lem (event_at d i) known_here m ∙ ap (λ (x : ℕ). row_allows x m) (sym here)

  -- a row of another code
  pub other_code : (r / 16 ≡ c → ⊥) → listing_from b (drop i (events_of d)) c m ≡ listing_from b (drop (i + 1) (events_of d)) c m
  unfolding code_in pair_in either both
  other_code f = rw (left_at d i within, ne_eqb c (event_at d i).code (λ e. f (code_here ∙ sym e)))

  -- a row of the code, without the mask
  pub other_mask : r / 16 ≡ c → row_allows r m ≡ false → listing_from b (drop i (events_of d)) c m ≡ listing_from true (drop (i + 1) (events_of d)) c m
  unfolding code_in pair_in either both
  other_mask e f = rw (left_at d i within, eq-eqb c (event_at d i).code (sym e ∙ code_here), allows_here, f, either_true b)

  -- a row of the pair
  pub found : r / 16 ≡ c → row_allows r m ≡ true → listing_from b (drop i (events_of d)) c m ≡ record { code = true; pair = true }
  unfolding code_in pair_in either both
  found e t = rw (left_at d i within, eq-eqb c (event_at d i).code (sym e ∙ code_here), allows_here, t, either_true b)

-- every row is passed
pub at_end_lem : (d : Device) (i c m : ℕ) (b : Bool) → length (rows_of d) ≤ i → listing_from b (drop i (events_of d)) c m ≡ record { code = b; pair = false }
unfolding code_in pair_in
at_end_lem d i c m b l =
    let past : length (events_of d) ≤ i = rw (← row_length d) l in
    rw (drop_of_length-le (events_of d) past, either_false b)

-- what the checks read off a listing, by how an event is judged
module _ (l : Listing) (d : Device) (c m : ℕ) (read : l ≡ listing_of d c m) where
  pub pair_not_listed : (a : CounterSet) → pairs_judged d ≡ true → not l.pair ≡ not_listed_lem d (Event c m a)
  unfolding listing_of not_listed_lem
  pair_not_listed a g = rw (read, g)

  pub code_not_listed : (a : CounterSet) → pairs_judged d ≡ false → not l.code ≡ not_listed_lem d (Event c m a)
  unfolding listing_of not_listed_lem
  code_not_listed a g = rw (read, g)

  mask_read : pairs_judged d ≡ false → both l.code (not l.pair) ≡ mask_not_listed d c m
  unfolding listing_of mask_not_listed both
  mask_read g = rw (read, g)

  pub mask_of_listed : pairs_judged d ≡ false → l.code ≡ true → not l.pair ≡ mask_not_listed d c m
  unfolding both
  mask_of_listed g h = ap (λ (b : Bool). both b (not l.pair)) (sym h) ∙ mask_read g

  pub mask_of_unlisted : pairs_judged d ≡ false → l.code ≡ false → false ≡ mask_not_listed d c m
  unfolding both
  mask_of_unlisted g h = ap (λ (b : Bool). both b (not l.pair)) (sym h) ∙ mask_read g
