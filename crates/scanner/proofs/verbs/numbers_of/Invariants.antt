use Rattle.std.specs.Prelude.{map}
use Rattle.scanner.specs.Formats.{code_of}
use Rattle.scanner.proofs.NumberLines.{ReadTo}
use Rattle.scanner.proofs.verbs.numbers_of.Given as goal

abbrev pub invariant-loop-i : goal.invariant-loop-i
invariant-loop-i g l = ReadTo l.first (map code_of l.formats) l.fields.text.now l.closed l.values l.i
