-- Document 004, 2.3.5: the pages of the C-Box events with their masks as printed, and what is accepted by them.
-- "listed mask values are the only ones accepted (0 is refused with 9, others with 10; likewise wherever masks are listed, and elsewhere mask 0 alone is accepted)".
use Rattle.std.specs.Prelude.{◌≡◌, ◌↔◌, Bool, true, false, ℕ, ◌≤◌, ◌<◌, Option, None, Some}
use mathlib.Core.List.{List, [], ◌∷◌, Memᴰ}
use Rattle.requests.specs.Bits.{bit}
use Rattle.requests.specs.Refusals.{answer_for, answer_number}
use Rattle.requests.specs.Catalogue.{events_of, code_in, pair_in}
use Rattle.requests.specs.Checks.{request_refusal}
use Rattle.requests.specs.declared.CounterSet.{CounterSet}
use Rattle.requests.specs.declared.Device.TheVariants.{C}
use Rattle.requests.specs.declared.Setup.{Setup}
use Rattle.requests.specs.declared.Request.TheVariants.{Event}

-- a printed bit: 0, 1, or x, which may be either
pub data PrintedBit : Type 0 where
  O : PrintedBit
  I : PrintedBit
  x : PrintedBit

-- a printed mask: bits 7 to 0
pub data Pattern : Type 0 where
  b : (b7 b6 b5 b4 b3 b2 b1 b0 : PrintedBit) → Pattern

-- what a page prints of masks: no table, or the rows of one. The row b00000000, "nothing will be counted", is the 9
pub data Printed : Type 0 where
  no_masks : Printed
  masks : List Pattern → Printed

-- the page of an event
pub record Page : Type 0 where
  pub code : ℕ
  pub printed : Printed

abbrev pub page : ℕ → Printed → Page
page c p = record { code = c; printed = p }

-- SB, NSB, ALL; REMOTE_RD, REMOTE_RFO, REMOTE_ANY
unfoldable pub two_ways : List Pattern
two_ways = b O O O O O O x I ∷ b O O O O O O I x ∷ b O O O O O O I I ∷ []

-- AD or IV, AK, BL
unfoldable pub three_sinks : List Pattern
three_sinks = b O O O O O O O I ∷ b O O O O O O I O ∷ b O O O O O I O O ∷ []

-- AD_SB, AD_NSB, AD_ALL, AK_SB, AK_NSB, AK_ALL, BL_SB, BL_NSB, BL_ALL, IV, ALL
unfoldable pub rings : List Pattern
rings =
    b O O O O O O O I
    ∷ b O O O O O O I O
    ∷ b O O O O O O I I
    ∷ b O O O O O I O O
    ∷ b O O O O I O O O
    ∷ b O O O O I I O O
    ∷ b O O O I O O O O
    ∷ b O O I O O O O O
    ∷ b O O I I O O O O
    ∷ b O I O O O O O O
    ∷ b O I I I I I I I
    ∷ []

-- P2C_AD_SB, C2S_AD_SB, AD_SB, AD_NSB, AD, AK_SB, AK_NSB, AK, BL_SB, BL_NSB, BL, IV
unfoldable pub egresses : List Pattern
egresses =
    b O O O O O O O I
    ∷ b O O O O O O I O
    ∷ b O O O O O O I I
    ∷ b O O O O O I O O
    ∷ b O O O O O I I I
    ∷ b O O O O I O O O
    ∷ b O O O I O O O O
    ∷ b O O O I I O O O
    ∷ b O O I O O O O O
    ∷ b O I O O O O O O
    ∷ b O I I O O O O O
    ∷ b I O O O O O O O
    ∷ []

-- AD_BYP0, AD_BYP1, AK_BYP0, AK_BYP1, BL_BYP0, BL_BYP1, IV_BYP0, IV_BYP1
unfoldable pub bypasses : List Pattern
bypasses =
    b O O O O O O O I
    ∷ b O O O O O O I O
    ∷ b O O O O O I O O
    ∷ b O O O O I O O O
    ∷ b O O O I O O O O
    ∷ b O O I O O O O O
    ∷ b O I O O O O O O
    ∷ b I O O O O O O O
    ∷ []

-- LLC_MISSES: S, F, I, ALL
unfoldable pub misses : List Pattern
misses = b O O O O O x x I ∷ b O O O O O x I x ∷ b O O O O O I x x ∷ b O O O O O I I I ∷ []

-- LLC_S_FILLS: M, E, S, F, ALL
unfoldable pub fills : List Pattern
fills = b O O O O x x x I ∷ b O O O O x x I x ∷ b O O O O x I x x ∷ b O O O O I x x x ∷ b O O O O I I I I ∷ []

-- LLC_VICTIMS: M, E, S, F, I
unfoldable pub victims : List Pattern
victims = b O O O x x x x I ∷ b O O O x x x I x ∷ b O O O x x I x x ∷ b O O O x I x x x ∷ b O O O I x x x x ∷ []

-- SNP_HITS: REMOTE_RD_HITM, HITE, HITS, HITF, REMOTE_RFO_HITM, HITE, HITS, HITF, REMOTE_HITM, HITE, HITS, HITF, REMOTE_ANY
unfoldable pub snoop_hits : List Pattern
snoop_hits =
    b x x x x x x x I
    ∷ b x x x x x x I x
    ∷ b x x x x x I x x
    ∷ b x x x x I x x x
    ∷ b x x x I x x x x
    ∷ b x x I x x x x x
    ∷ b x I x x x x x x
    ∷ b I x x x x x x x
    ∷ b x x x I x x x I
    ∷ b x x I x x x I x
    ∷ b x I x x x I x x
    ∷ b I x x x I x x x
    ∷ b I I I I I I I I
    ∷ []

-- the pages, by their codes. Of INGRESS_BYPASS_WINS_AD no row of masks is left; the rows straight below it are those of LLC_HITS, whose title and code are lost
unfoldable pub pages : List Page
pages =
    page 0x01 (masks two_ways)  -- BOUNCES_P2C_AD
    ∷ page 0x02 (masks two_ways)  -- BOUNCES_C2P_AK
    ∷ page 0x03 (masks two_ways)  -- BOUNCES_C2P_BL
    ∷ page 0x04 no_masks  -- BOUNCES_C2P_IV
    ∷ page 0x05 (masks three_sinks)  -- SINKS_P2C
    ∷ page 0x06 (masks three_sinks)  -- SINKS_C2P
    ∷ page 0x07 (masks three_sinks)  -- SINKS_S2C
    ∷ page 0x08 no_masks  -- SINKS_S2P_BL
    ∷ page 0x09 (masks rings)  -- ARB_WINS
    ∷ page 0x0A (masks rings)  -- ARB_LOSSES
    ∷ page 0x0B (masks egresses)  -- STARVED_EGRESS
    ∷ page 0x0C (masks bypasses)  -- EGRESS_BYPASS_WINS
    ∷ page 0x0E (masks [])  -- INGRESS_BYPASS_WINS_AD
    ∷ page 0x14 (masks misses)  -- LLC_MISSES
    ∷ page 0x16 (masks fills)  -- LLC_S_FILLS
    ∷ page 0x17 (masks victims)  -- LLC_VICTIMS
    ∷ page 0x18 no_masks  -- OCCUPANCY_IRQ
    ∷ page 0x19 no_masks  -- TRANS_IRQ
    ∷ page 0x1A no_masks  -- OCCUPANCY_IPQ
    ∷ page 0x1B no_masks  -- TRANS_IPQ
    ∷ page 0x1C no_masks  -- OCCUPANCY_VIQ
    ∷ page 0x1D no_masks  -- TRANS_VIQ
    ∷ page 0x1E no_masks  -- OCCUPANCY_MAF
    ∷ page 0x1F no_masks  -- TRANS_MAF
    ∷ page 0x20 no_masks  -- OCCUPANCY_RWRF
    ∷ page 0x21 no_masks  -- TRANS_RWRF
    ∷ page 0x22 no_masks  -- OCCUPANCY_RSPF
    ∷ page 0x23 no_masks  -- TRANS_RSPF
    ∷ page 0x27 (masks two_ways)  -- SNPS
    ∷ page 0x28 (masks snoop_hits)  -- SNP_HITS
    ∷ []

-- a printed bit stands for the bit of a mask
pub data StandsFor : PrintedBit → Bool → Type 0 where
  zero : StandsFor O false
  one : StandsFor I true
  any : {v : Bool} → StandsFor x v

-- a printed mask lists every mask whose bits it stands for
pub data Agrees : Pattern → ℕ → Type 0 where
  bits : {p7 p6 p5 p4 p3 p2 p1 p0 : PrintedBit} {m : ℕ}
      → StandsFor p7 (bit 7 m) → StandsFor p6 (bit 6 m) → StandsFor p5 (bit 5 m) → StandsFor p4 (bit 4 m)
      → StandsFor p3 (bit 3 m) → StandsFor p2 (bit 2 m) → StandsFor p1 (bit 1 m) → StandsFor p0 (bit 0 m)
      → Agrees (b p7 p6 p5 p4 p3 p2 p1 p0) m

-- the event has a page
abbrev pub Paged : ℕ → Type 0
Paged c = (p : Printed) × Memᴰ (page c p) pages

-- the event is accepted with the mask
pub data Accepted : ℕ → ℕ → Type 0 where
  -- no masks are listed: "mask 0 alone is accepted"
  alone : {c : ℕ} → Memᴰ (page c no_masks) pages → Accepted c 0
  -- "listed mask values are the only ones accepted"
  listed : {c m : ℕ} {rows : List Pattern} {p : Pattern} → Memᴰ (page c (masks rows)) pages → Memᴰ p rows → Agrees p m → Accepted c m

-- an event whose allowed set has no counter past the six of a C-Box; a unit mask is a byte
pub record Asked (s : Setup) (m : ℕ) (a : CounterSet) : Type 0 where
  pub cbox : (n : ℕ) × (s.device ≡ C n)
  pub byte : m < 256
  pub within : a.0 ≤ 63

-- the number that refuses it, or none
abbrev pub event_number : Setup → ℕ → ℕ → CounterSet → Option ℕ
event_number s c m a = answer_number (answer_for (request_refusal s (Event c m a)))

pub record CBoxPages : Type 0 where
  -- every C-Box lists the codes of the pages, and with each code the masks of its page
  pub codes : (n c : ℕ) → (code_in (events_of (C n)) c ≡ true) ↔ Paged c
  pub pairs : (n c m : ℕ) → m < 256 → (pair_in (events_of (C n)) c m ≡ true) ↔ Accepted c m
  pub taken : (s : Setup) (c m : ℕ) (a : CounterSet) → Asked s m a → Accepted c m → event_number s c m a ≡ None
  -- "8 as on S"
  pub eight : (s : Setup) (c m : ℕ) (a : CounterSet) → Asked s m a → ¬ Paged c → event_number s c m a ≡ Some 8
  -- "0 is refused with 9, others with 10"
  pub nine : (s : Setup) (c : ℕ) (a : CounterSet) → Asked s 0 a → Paged c → ¬ Accepted c 0 → event_number s c 0 a ≡ Some 9
  pub ten : (s : Setup) (c m : ℕ) (a : CounterSet) → Asked s m a → Paged c → ¬ Accepted c m → ¬ (m ≡ 0) → event_number s c m a ≡ Some 10
