use mathlib.Core.Path.{sym, ◌∙◌}
use Rattle.layouts.specs.Writes.{precise_writes}
use Rattle.registers.proofs.Appending.{puts_none}
use Rattle.registers.proofs.writer.WriteList.put_precise.Goals as goal

pub returns-else-pebs_on : goal.returns-else-pebs_on
unfolding precise_writes
returns-else-pebs_on c = rw (sym c.pebs_on.ensures ∙ c.if-pebs_on.false) (puts_none _)
