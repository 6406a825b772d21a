use native.Mathlib.Omega.{arith}
use Rattle.requests.specs.Devices.{capacity}
use Rattle.plans.proofs.PlanLengthHolds.{plan_length}
use Rattle.registers.proofs.accept.words_on.Goals as goal

pub shared_ref_as_front-result : goal.shared_ref_as_front-result
unfolding capacity
shared_ref_as_front-result c =
    let small = plan_length.device_at_most c.args.device in
    omega (arith, c.counter_count.ensures)
