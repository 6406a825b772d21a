use Rattle.requests.specs.Devices.{capacity}
use Rattle.layouts.specs.Writes.{zeros}
use Rattle.registers.proofs.WriteLengths.{box_puts}
use Rattle.registers.proofs.writer.WriteList.put_box.Goals as goal

pub returns : goal.returns
unfolding zeros capacity
returns c =
    box_puts
    c.args.setup
    c.args.settings.now
    _
    _
    c.counter_count.ensures
    c.layout_of-layout.ensures
    c.first_global.ensures
    c.last_global.ensures
    c.put.ensures
    c.put_rows.ensures
    c.put_filters.ensures
    c.put_rows-2.ensures
    c.put_rows-3.ensures
    c.put_precise.ensures
    c.put-2.ensures
