-- **latency**: RSP0 has "the type and bit 38 only", RSP1 "the type and bit 16 only": the two words, bit by bit. (`LatencyHeld` of `layouts` says it of the
-- registers.)
use Rattle.std.specs.Prelude.{◌≡◌, ℕ, ◌^◌, ◌<◌, eqb}
use Rattle.requests.specs.Choice.{either}
use Rattle.requests.specs.Bits.{bit, latency_word}

-- the word has the bits of the type, this one bit, and no others
abbrev pub TypeWith : ℕ → ℕ → ℕ → Type 0
TypeWith one types w = (k : ℕ) → bit k w ≡ either (bit k types) (eqb one k)

pub record LatencyWords : Type 0 where
  pub first : (types : ℕ) → types < 2 ^ 16 → TypeWith 38 types (latency_word 0 types)
  pub second : (types : ℕ) → types < 2 ^ 16 → TypeWith 16 types (latency_word 1 types)
