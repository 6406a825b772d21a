-- What a line is.
use Rattle.std.specs.Prelude.{ℕ, Result}
use Rattle.grammar.specs.declared.Line.{Line}

-- what it asks for, or the first field that breaks the grammar
abbrev pub Parsed : Type 0
Parsed = Result Line ℕ
