-- Masks: a word that stands for the list of its bits.
use Rattle.std.specs.Prelude.{◌≡◌, refl, List, [], ◌∷◌, ◌++◌, ℕ, zero, suc, ◌+◌}
use Rattle.requests.specs.Choice.{pick}
use Rattle.requests.specs.Bits.{bit, type_bits, any_response, answer_bits, outstanding, rsp0_bits, rsp1_bits, rising, field, match_bits, mask_bits}

-- the bits below n that the word has, rising
unfoldable pub bits_below : ℕ → ℕ → List ℕ
bits_below zero w = []
bits_below (suc k) w = bits_below k w ++ pick (bit k w) (k ∷ []) []

-- the bits of a 64-bit word
unfoldable pub bits_of : ℕ → List ℕ
bits_of w = bits_below 64 w

-- the masks of an offcore word by their roles
pub type_mask : bits_of 0x0000_0000_0000_FFBF ≡ type_bits
unfolding bits_of bits_below bit type_bits
type_mask = refl

pub any_response_mask : bits_of 0x0000_0000_0001_0000 ≡ any_response ∷ []
unfolding bits_of bits_below bit any_response
any_response_mask = refl

abbrev answers : ℕ
answers = 0x0000_0036_0004_0000

pub answer_mask : bits_of answers ≡ answer_bits
unfolding bits_of bits_below bit answer_bits
answer_mask = refl

pub outstanding_mask : bits_of 0x0000_0040_0000_0000 ≡ outstanding ∷ []
unfolding bits_of bits_below bit outstanding
outstanding_mask = refl

-- a response bit or bit 38
pub response_mask : bits_of (answers + 0x0000_0040_0001_0000) ≡ (any_response ∷ answer_bits) ++ (outstanding ∷ [])
unfolding bits_of bits_below bit any_response answer_bits outstanding
response_mask = refl

pub permitted_mask : bits_of (answers + 0x0000_0040_0001_FFBF) ≡ rsp0_bits
unfolding bits_of bits_below bit rsp0_bits rsp1_bits type_bits any_response answer_bits outstanding
permitted_mask = refl

-- the fields of the packet filters
pub match_mask : bits_of 0xFFFF_FFFF_FFFF_FFFF ≡ match_bits
unfolding bits_of bits_below bit rising field match_bits
match_mask = refl

pub mask_mask : bits_of 0x0000_007F_FFFF_FFFF ≡ mask_bits
unfolding bits_of bits_below bit rising field mask_bits
mask_mask = refl
