use Rattle.std.proofs.Common.{rules}
use Rattle.registers.proofs.WriteLengths.{list_puts}
use Rattle.registers.proofs.writer.put_list.Goals as goal

pub returns : goal.returns
returns c =
    let a = c.args in
    let whole = list_puts a.setup a.settings c.ubox_value.ensures c.put_ubox.ensures c.put_box.ensures c.put_ubox-2.ensures in
    search (rules, whole.list)
