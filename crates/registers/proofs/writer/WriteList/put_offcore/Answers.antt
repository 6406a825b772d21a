use Rattle.layouts.specs.Layout.{rsp0_at, rsp1_at}
use Rattle.layouts.specs.Writes.{offcore_writes}
use Rattle.registers.proofs.Appending.{puts_then}
use Rattle.registers.proofs.writer.WriteList.put_offcore.Goals as goal

pub returns : goal.returns
unfolding offcore_writes rsp0_at rsp1_at
returns c = puts_then c.put.ensures c.put-2.ensures
