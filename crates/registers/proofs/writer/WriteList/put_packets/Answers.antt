use Rattle.layouts.specs.Layout.{mm_cfg_at, match_at, mask_at, mm_enable}
use Rattle.layouts.specs.Writes.{packet_writes}
use Rattle.registers.proofs.Appending.{puts_then}
use Rattle.registers.proofs.writer.WriteList.put_packets.Goals as goal

pub returns-in-Some : goal.returns-in-Some
unfolding packet_writes mm_cfg_at match_at mask_at mm_enable
returns-in-Some c =
    rw c.in-Some.is
    (puts_then (puts_then (puts_then c.put.ensures c.put-in-Some.ensures) c.put-in-Some-2.ensures) c.put-in-Some-3.ensures)
