use mathlib.Core.Path.{◌≡◌}
use native.Mathlib.Omega.{arith}
use Rattle.search.proofs.Giving.{place_behind}
use Rattle.search.proofs.FreeBeside.{without_place, free_after}
use Rattle.search.proofs.extend.free_beside.Goals as goal

pub loop-i-preserved : goal.loop-i-preserved
loop-i-preserved c =
    let a = c.args in
    rw (place_behind a.code a.rows.now c.loop-i.i _ _ c.request_at.ensures c.place_at.ensures) (without_place _ _ _ _ _ c.loop-i.invariant c.except_place-free.ensures)

pub returns : goal.returns
returns c =
    let a = c.args in
    let all : c.loop-i.i ≡ a.count = omega arith in
    rw (← all) (free_after a.setup _ _ _ c.own_counters-free.ensures c.loop-i.invariant)
