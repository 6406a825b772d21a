use mathlib.Core.Path.{sym, ◌∙◌}
use Rattle.search.specs.Beside.{Beside, event}
use Rattle.search.specs.Rows.{rows_from}
use Rattle.search.proofs.FreeBeside.{least_unused, least_told, follows}
use Rattle.search.proofs.extend.counter_beside.Goals as goal

pub returns-in-Event : goal.returns-in-Event
returns-in-Event c =
    let a = c.args in
    rw c.in-Event.is
    (least_told _ _ (λ k. Beside a.setup (rows_from a.rows.now 0 a.count) a.code _ k)
    (λ k l. event (follows a.setup _ _ _ _ (sym c.may_follow.ensures ∙ c.if-may_follow.true)) (least_unused _ _ _ _ _ c.available.ensures c.free_beside.ensures k _ l))
    _ c.next.ensures.steps)
