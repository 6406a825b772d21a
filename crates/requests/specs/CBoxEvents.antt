-- The listed events of the C-Box with the manual's names (document 004, 2.3.5), by their codes.
use Rattle.std.specs.Prelude.{List, [], ◌∷◌, ℕ}
use Rattle.requests.specs.MaskRules.{alone, range, among, ListedEvent, listed}

-- one of three rings: AD or IV, AK, BL
unfoldable pub sink_masks : List ℕ
sink_masks = 0x01 ∷ 0x02 ∷ 0x04 ∷ []

-- the rings AD, AK and BL towards the nearest S-Box, away from it and both ways; the IV ring; all rings
unfoldable pub ring_masks : List ℕ
ring_masks = 0x01 ∷ 0x02 ∷ 0x03 ∷ 0x04 ∷ 0x08 ∷ 0x0C ∷ 0x10 ∷ 0x20 ∷ 0x30 ∷ 0x40 ∷ 0x7F ∷ []

-- the egresses of the AD, AK, BL and IV rings, and their sums
unfoldable pub starved_masks : List ℕ
starved_masks = 0x01 ∷ 0x02 ∷ 0x03 ∷ 0x04 ∷ 0x07 ∷ 0x08 ∷ 0x10 ∷ 0x18 ∷ 0x20 ∷ 0x40 ∷ 0x60 ∷ 0x80 ∷ []

-- one egress bypass
unfoldable pub bypass_masks : List ℕ
bypass_masks = 0x01 ∷ 0x02 ∷ 0x04 ∷ 0x08 ∷ 0x10 ∷ 0x20 ∷ 0x40 ∷ 0x80 ∷ []

unfoldable pub cbox_events : List ListedEvent
cbox_events =
    listed 0x01 (range 1 3)  -- BOUNCES_P2C_AD
    ∷ listed 0x02 (range 1 3)  -- BOUNCES_C2P_AK
    ∷ listed 0x03 (range 1 3)  -- BOUNCES_C2P_BL
    ∷ listed 0x04 (alone 0)  -- BOUNCES_C2P_IV
    ∷ listed 0x05 (among sink_masks)  -- SINKS_P2C
    ∷ listed 0x06 (among sink_masks)  -- SINKS_C2P
    ∷ listed 0x07 (among sink_masks)  -- SINKS_S2C
    ∷ listed 0x08 (alone 0)  -- SINKS_S2P_BL
    ∷ listed 0x09 (among ring_masks)  -- ARB_WINS
    ∷ listed 0x0A (among ring_masks)  -- ARB_LOSSES
    ∷ listed 0x0B (among starved_masks)  -- STARVED_EGRESS
    ∷ listed 0x0C (among bypass_masks)  -- EGRESS_BYPASS_WINS
    ∷ listed 0x0E (among [])  -- INGRESS_BYPASS_WINS_AD: the rows of its masks are lost
    ∷ listed 0x14 (range 1 7)  -- LLC_MISSES
    ∷ listed 0x16 (range 1 0xF)  -- LLC_S_FILLS
    ∷ listed 0x17 (range 1 0x1F)  -- LLC_VICTIMS
    ∷ listed 0x18 (alone 0)  -- OCCUPANCY_IRQ
    ∷ listed 0x19 (alone 0)  -- TRANS_IRQ
    ∷ listed 0x1A (alone 0)  -- OCCUPANCY_IPQ
    ∷ listed 0x1B (alone 0)  -- TRANS_IPQ
    ∷ listed 0x1C (alone 0)  -- OCCUPANCY_VIQ
    ∷ listed 0x1D (alone 0)  -- TRANS_VIQ
    ∷ listed 0x1E (alone 0)  -- OCCUPANCY_MAF
    ∷ listed 0x1F (alone 0)  -- TRANS_MAF
    ∷ listed 0x20 (alone 0)  -- OCCUPANCY_RWRF
    ∷ listed 0x21 (alone 0)  -- TRANS_RWRF
    ∷ listed 0x22 (alone 0)  -- OCCUPANCY_RSPF
    ∷ listed 0x23 (alone 0)  -- TRANS_RSPF
    ∷ listed 0x27 (range 1 3)  -- SNPS
    ∷ listed 0x28 (range 1 0xFF)  -- SNP_HITS
    ∷ []
