-- The listed events with the manual's names: those of G and S in the order of document 01, 'Requests and legal plans', **event**; those of B by order 12.
use Rattle.std.specs.Prelude.{List, [], ◌∷◌, ◌++◌, Bool, false, not, ℕ, eqb}
use Rattle.requests.specs.Choice.{both, either}
use Rattle.requests.specs.Devices.{pairs_judged}
use Rattle.requests.specs.CBoxEvents.{cbox_events}
use Rattle.requests.specs.MaskRules.{alone, range, allows, ListedEvent, listed}
use Rattle.requests.specs.declared.Device.{Device}
use Rattle.requests.specs.declared.Device.TheVariants.{G, S, C, B}

-- the SDM's architectural events
unfoldable pub architectural_events : List ListedEvent
architectural_events =
    listed 0x3C (alone 0x00)  -- UnHalted Core Cycles
    ∷ listed 0xC0 (alone 0x00)  -- Instruction Retired
    ∷ listed 0x3C (alone 0x01)  -- UnHalted Reference Cycles
    ∷ listed 0x2E (alone 0x4F)  -- LLC Reference
    ∷ listed 0x2E (alone 0x41)  -- LLC Misses
    ∷ listed 0xC4 (alone 0x00)  -- Branch Instruction Retired
    ∷ listed 0xC5 (alone 0x00)  -- Branch Misses Retired
    ∷ []

-- document 003, 18.9.4: the two events that B has beside them
unfoldable pub precise_events : List ListedEvent
precise_events =
    listed 0xC0 (alone 0x01)  -- INST_RETIRED.ALL, in its PDIR use
    ∷ listed 0xCD (alone 0x02)  -- MEM_TRANS_RETIRED.PRECISE_STORE
    ∷ []

-- the listed events of a device
unfoldable pub events_of : Device → List ListedEvent
events_of G = architectural_events
events_of S =
    listed 0x51 (range 1 3)  -- RBOX_SNP_BYPASS
    ∷ listed 0x31 (range 1 3)  -- REQ_TBL_OCCUPANCY
    ∷ listed 0x52 (alone 0)  -- S2B_HOM_BYPASS
    ∷ listed 0x2B (alone 0)  -- TO_RING_B2S_MSGQ_CYCLES_FULL
    ∷ listed 0x2D (alone 0)  -- TO_RING_B2S_MSGQ_CYCLES_NE
    ∷ listed 0x2F (alone 0)  -- TO_RING_B2S_MSGQ_OCCUPANCY
    ∷ []
events_of (C b) = cbox_events
events_of B = architectural_events ++ precise_events

-- whether a row has the code
unfoldable pub code_in : List ListedEvent → ℕ → Bool
code_in [] c = false
code_in (e ∷ es) c = either (eqb c e.code) (code_in es c)

-- whether a row has the code and lists the mask
unfoldable pub pair_in : List ListedEvent → ℕ → ℕ → Bool
pair_in [] c m = false
pair_in (e ∷ es) c m = either (both (eqb c e.code) (allows e.masks m)) (pair_in es c m)

-- whether the code is listed, but not with the mask: not judged where the pair is one
unfoldable pub mask_not_listed : Device → ℕ → ℕ → Bool
mask_not_listed d c m = both (not (pairs_judged d)) (both (code_in (events_of d) c) (not (pair_in (events_of d) c m)))
