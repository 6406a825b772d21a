use native.Mathlib.Omega.{arith}
use Rattle.std.proofs.Common.{rules}
use Rattle.requests.specs.Devices.{counter_count, capacity}
use Rattle.plans.proofs.PlanLengthHolds.{plan_length}
use Rattle.registers.proofs.Ranges.{count_taken}
use Rattle.registers.proofs.accept.count_of.Goals as goal

pub returns : goal.returns
unfolding capacity
returns c =
    let a = c.args in
    let small = plan_length.device_at_most a.device in
    rw (← count_taken a.words.now a.word (counter_count a.device) (omega arith)) (search rules)
