-- The numbers of a line, read before it is known what they make, and the record that a line is.
use Rattle.std.specs.Prelude.{◌≡◌, Bool, List, [], ◌∷◌, ℕ, get_or, Result, Ok, Err}
use Rattle.grammar.specs.Verbs.{Made, number_line}
use Rattle.grammar.specs.Parsed.{Parsed}
use Rattle.grammar.specs.declared.Line.{Line}
use Rattle.scanner.specs.declared.Format.{Format}
use Rattle.scanner.specs.Formats.{IsFormat}

-- formats that there are
abbrev pub AreFormats : List Format → Type 0
AreFormats [] = Unit {0}
AreFormats (f ∷ fs) = IsFormat f × AreFormats fs

-- the record that is made of a line's numbers, 0 for those that it does not have, or the field at fault
abbrev pub made_of : Result (List ℕ) ℕ → Made → Parsed
made_of (Ok ns) made = Ok (Line.Record (made (get_or ns 0 0) (get_or ns 1 0) (get_or ns 2 0) (get_or ns 3 0) (get_or ns 4 0)))
made_of (Err k) made = Err k

-- they are the numbers of the line, whatever is made of them
pub record Numbered (first : ℕ) (codes text : List ℕ) (closed : Bool) (r : Result (List ℕ) ℕ) : Type 0 where
  pub tells : (made : Made) → number_line first codes text closed made ≡ made_of r made
