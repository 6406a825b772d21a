-- Rows of event catalogues: a code, and which unit masks are listed for it.
use Rattle.std.specs.Prelude.{List, Bool, ℕ, leb, eqb}
use Rattle.requests.specs.Choice.{both}
use Rattle.requests.specs.Bits.{in_list}

-- the unit masks listed for a code: one alone, a range, or those of a list
pub data MaskRule : Type 0 where
  alone : ℕ → MaskRule
  range : ℕ → ℕ → MaskRule
  among : List ℕ → MaskRule

-- whether the rule lists the mask
unfoldable pub allows : MaskRule → ℕ → Bool
allows (alone n) m = eqb m n
allows (range low high) m = both (leb low m) (leb m high)
allows (among ms) m = in_list ms m

-- a row of a catalogue: a code, and the unit masks listed for it
pub record ListedEvent : Type 0 where
  pub code : ℕ
  pub masks : MaskRule

-- a code with its masks
abbrev pub listed : ℕ → MaskRule → ListedEvent
listed c r = record { code = c; masks = r }
