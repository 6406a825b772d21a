use mathlib.Core.Logic.{inl, inr}
use Rattle.layouts.specs.Writes.{filter_writes}
use Rattle.registers.proofs.Appending.{puts_none}
use Rattle.registers.proofs.writer.WriteList.put_filters.Goals as goal

pub returns-in-C : goal.returns-in-C
unfolding filter_writes
returns-in-C c = elim c.in-C.is [ inl e ↦ rw e.1 (puts_none _) | inr e ↦ rw e (puts_none _) ]
