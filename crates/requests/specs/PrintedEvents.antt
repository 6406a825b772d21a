-- Document 01, **event**: the pairs of G and the table of S as printed, order 12: those of B, and that these are listed and no others. (`CBoxPages`
-- says it of C.)
use Rattle.std.specs.Prelude.{◌≡◌, ◌↔◌, true, ℕ, ◌≤◌}
use mathlib.Core.List.{List, [], ◌∷◌, ◌++◌, Memᴰ}
use Rattle.requests.specs.Catalogue.{events_of, code_in, pair_in}
use Rattle.requests.specs.declared.Device.{Device}
use Rattle.requests.specs.declared.Device.TheVariants.{G, S, B}

-- a printed row: a code, and its unit masks from the least to the greatest
pub record PrintedRow : Type 0 where
  pub code : ℕ
  pub least : ℕ
  pub greatest : ℕ

-- "1..3"
abbrev pub masks : ℕ → ℕ → ℕ → PrintedRow
masks c low high = record { code = c; least = low; greatest = high }

-- one mask alone
abbrev pub one : ℕ → ℕ → PrintedRow
one c m = masks c m m

-- "3C/00, C0/00, 3C/01, 2E/4F, 2E/41, C4/00, C5/00 (hex)"
unfoldable pub printed_g : List PrintedRow
printed_g = one 0x3C 0x00 ∷ one 0xC0 0x00 ∷ one 0x3C 0x01 ∷ one 0x2E 0x4F ∷ one 0x2E 0x41 ∷ one 0xC4 0x00 ∷ one 0xC5 0x00 ∷ []

-- "| code | event | unit mask |"
unfoldable pub printed_s : List PrintedRow
printed_s = masks 0x51 1 3 ∷ masks 0x31 1 3 ∷ one 0x52 0 ∷ one 0x2B 0 ∷ one 0x2D 0 ∷ one 0x2F 0 ∷ []

-- "document 01's seven pairs for G and two more", C0/01 and CD/02
unfoldable pub printed_b : List PrintedRow
printed_b = printed_g ++ one 0xC0 0x01 ∷ one 0xCD 0x02 ∷ []

-- a row has the code
abbrev pub CodePrinted : List PrintedRow → ℕ → Type 0
CodePrinted rows c = (r : PrintedRow) × Memᴰ r rows × (c ≡ r.code)

-- a row has the code, with the mask
abbrev pub PairPrinted : List PrintedRow → ℕ → ℕ → Type 0
PairPrinted rows c m = (r : PrintedRow) × Memᴰ r rows × (c ≡ r.code) × (r.least ≤ m) × (m ≤ r.greatest)

-- the device lists what the rows have
pub record AsPrinted (d : Device) (rows : List PrintedRow) : Type 0 where
  pub codes : (c : ℕ) → (code_in (events_of d) c ≡ true) ↔ CodePrinted rows c
  pub pairs : (c m : ℕ) → (pair_in (events_of d) c m ≡ true) ↔ PairPrinted rows c m

pub record PrintedEvents : Type 0 where
  pub on_g_lem : AsPrinted G printed_g
  pub on_s_lem : AsPrinted S printed_s
  pub on_b_lem : AsPrinted B printed_b
