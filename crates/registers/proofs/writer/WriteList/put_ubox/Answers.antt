use mathlib.Core.Path.{sym, ◌∙◌}
use Rattle.layouts.specs.Layout.{ubox_at}
use Rattle.registers.proofs.Appending.{puts_none}
use Rattle.registers.proofs.writer.WriteList.put_ubox.Goals as goal

pub returns-then-asked : goal.returns-then-asked
unfolding ubox_at
returns-then-asked c = rw (sym c.asked.ensures ∙ c.if-asked.true) c.put.ensures

pub returns-else-asked : goal.returns-else-asked
returns-else-asked c = rw (sym c.asked.ensures ∙ c.if-asked.false) (puts_none _)
