use native.Mathlib.Omega.{arith}
use Rattle.plans.proofs.ReachHolds.{reach}
use Rattle.lent_planner.proofs.Choice.leaves_none.Goals as goal

pub left_by-requires : goal.left_by-requires
left_by-requires c =
    let few = reach.few c.args.self.now.setup.device in
    omega (arith, c.requires.ready.counters)
