use mathlib.Core.Path.{refl, ◌∙◌}
use native.Mathlib.Omega.{arith}
use Rattle.requests.specs.declared.Request.TheVariants.{Event}
use Rattle.search.specs.Rows.{set_of}
use Rattle.search.proofs.RequestRows.{put_length, rows_take}
use Rattle.search.proofs.first_plan.put_requests.Goals as goal

pub loop-i-preserved : goal.loop-i-preserved
loop-i-preserved c = (
  rw c.put_request.ensures.rows_after (put_length _ _ _ ∙ c.loop-i.invariant.0),
  rows_take _ _ c.args.requests.now _ _ (Event 0 0 (set_of 0)) (omega (arith, c.loop-i-test.true)) c.put_request.ensures.rows_after c.put_request.ensures.at_after refl c.loop-i.invariant.1,
)
