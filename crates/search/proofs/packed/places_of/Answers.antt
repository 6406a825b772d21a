use native.Mathlib.Omega.{arith}
use Rattle.search.proofs.Giving.{place_laid}
use Rattle.search.proofs.packed.places_of.Goals as goal

pub loop-i-preserved : goal.loop-i-preserved
loop-i-preserved c =
    place_laid c.args.code c.args.rows.now c.loop-i.i c.loop-i.places _ _ (omega arith) c.request_at.ensures c.place_at.ensures c.loop-i.invariant
