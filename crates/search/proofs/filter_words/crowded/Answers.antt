use native.Mathlib.Omega.{arith}
use Rattle.search.proofs.LoopSteps.{asked_on}
use Rattle.search.proofs.filter_words.crowded.Goals as goal

pub loop-i-preserved : goal.loop-i-preserved
loop-i-preserved c =
    let a = c.args in
    asked_on a.rows.now a.count c.loop-i.i _ _ _ _ (omega arith) c.request_at.ensures c.asked_by-asked.ensures c.loop-i.invariant
