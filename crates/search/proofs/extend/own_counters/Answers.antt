use Rattle.search.proofs.OwnCounters.{masked}
use Rattle.search.proofs.FreeBeside.{free_first}
use Rattle.search.proofs.extend.own_counters.Goals as goal

pub returns : goal.returns
returns c =
    let s = c.args.setup in
    free_first s _ (masked s.device s.usable _ c.all_counters.ensures)
