use Rattle.scanner.proofs.FieldLoops.{Seen}
use Rattle.scanner.proofs.fields.Fields.of.Given as goal

abbrev pub invariant-loop-i : goal.invariant-loop-i
invariant-loop-i l = Seen l.text l.ends l.tabs l.i
