use mathlib.Core.Path.{◌∙◌}
use Rattle.search.proofs.RequestRows.{put_length}
use Rattle.search.proofs.RuledRows.{narrowed_on}
use Rattle.search.proofs.ruled.narrow_rows.Goals as goal

pub loop-i-preserved : goal.loop-i-preserved
loop-i-preserved c =
    let a = c.args in (
      rw c.put_request.ensures.rows_after (put_length _ _ _ ∙ c.loop-i.invariant.0),
      narrowed_on a.device a.rows.now _ _ c.loop-i.i _ _ c.request_at.ensures c.narrowed.ensures c.put_request.ensures.rows_after c.put_request.ensures.at_after c.loop-i.invariant.1,
    )
