-- The catalogues as rows of numbers, and what a look-up answers.
use Rattle.std.specs.Prelude.{List, [], ◌∷◌, map, Bool, true, false, ℕ, suc, ◌+◌, ◌*◌, ◌%◌, eqb, get_or}
use Rattle.requests.specs.Choice.{both}
use Rattle.requests.specs.MaskRules.{MaskRule, alone, range, among, allows, ListedEvent}
use Rattle.requests.specs.CBoxEvents.{sink_masks, ring_masks, starved_masks, bypass_masks}
use Rattle.requests.specs.Catalogue.{events_of, code_in, pair_in}
use Rattle.requests.specs.declared.Device.{Device}
use Rattle.requests.specs.declared.Listing.{Listing}
use Rattle.requests.specs.declared.Request.{Request}
use Rattle.requests.specs.declared.Request.TheVariants.{Event, Packet, Offcore, Latency}

-- the mask rules of the catalogues that stand in rows: a rule's number is its place
unfoldable pub mask_rules : List MaskRule
mask_rules =
    among []
    ∷ alone 0
    ∷ range 1 3
    ∷ among sink_masks
    ∷ among ring_masks
    ∷ among starved_masks
    ∷ among bypass_masks
    ∷ range 1 7
    ∷ range 1 0xF
    ∷ range 1 0x1F
    ∷ range 1 0xFF
    ∷ []

-- the rule of a number; there is none past the last
unfoldable pub rule_at : ℕ → MaskRule
rule_at n = get_or mask_rules n (among [])

-- whether two lists have the same numbers in the same order
unfoldable pub same_numbers : List ℕ → List ℕ → Bool
same_numbers [] [] = true
same_numbers (n ∷ ns) (m ∷ ms) = both (eqb n m) (same_numbers ns ms)
same_numbers [] (m ∷ ms) = false
same_numbers (n ∷ ns) [] = false

-- whether two rules are the same
unfoldable pub same_rule : MaskRule → MaskRule → Bool
same_rule (alone n) (alone m) = eqb n m
same_rule (range l h) (range k g) = both (eqb l k) (eqb h g)
same_rule (among ns) (among ms) = same_numbers ns ms
same_rule (alone n) (range k g) = false
same_rule (alone n) (among ms) = false
same_rule (range l h) (alone m) = false
same_rule (range l h) (among ms) = false
same_rule (among ns) (alone m) = false
same_rule (among ns) (range k g) = false

-- the place of a rule in a list
unfoldable pub place_of : List MaskRule → MaskRule → ℕ
place_of [] r = 0
place_of (q ∷ qs) r = elim (same_rule q r) [ true ↦ 0 | false ↦ suc (place_of qs r) ]

-- a listed event as a row: in hexadecimal two digits for the code, one for the number of its rule
unfoldable pub row_of : ListedEvent → ℕ
row_of e = 16 * e.code + place_of mask_rules e.masks

-- the rows of a device
unfoldable pub rows_of : Device → List ℕ
rows_of d = map row_of (events_of d)

-- whether the row lists the mask
unfoldable pub row_allows : ℕ → ℕ → Bool
row_allows r m = allows (rule_at (r % 16)) m

-- what the device's catalogue lists of a code and a mask
unfoldable pub listing_of : Device → ℕ → ℕ → Listing
listing_of d c m = record { code = code_in (events_of d) c; pair = pair_in (events_of d) c m }

-- what it lists of an event; other requests are in no catalogue
unfoldable pub listing_for : Device → Request → Listing
listing_for d (Event c m a) = listing_of d c m
listing_for d (Packet x y a) = record { code = false; pair = false }
listing_for d (Offcore w a) = record { code = false; pair = false }
listing_for d (Latency t a b) = record { code = false; pair = false }
