use mathlib.Core.Path.{◌≡◌}
use lib.ListN.{drop}
use Rattle.grammar.specs.Fields.{field_at}
use Rattle.grammar.specs.Letters.{lettered}
use Rattle.grammar.proofs.LetterFields.{lettered_in}
use Rattle.scanner.proofs.letters.device_at.Given as goal

abbrev pub invariant-loop-device : goal.invariant-loop-device
invariant-loop-device l = lettered_in (drop l.device-index l.device-items) (field_at l.fields.text.now l.k) ≡ lettered (field_at l.fields.text.now l.k)
