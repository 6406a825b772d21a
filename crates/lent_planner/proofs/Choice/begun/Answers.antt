use mathlib.Core.Path.{refl}
use Rattle.requests.specs.Devices.{capacity}
use Rattle.lent_planner.specs.Changes.{nowhere}
use Rattle.lent_planner.proofs.ChoiceLaws.{chosen_none}
use Rattle.lent_planner.proofs.Choice.begun.Goals as goal

pub returns : goal.returns
unfolding capacity nowhere
returns c =
    rw c.vacant.ensures (chosen_none c.args.setup c.usable_count.result c.counter_count.result c.left_at_first.result _
    c.usable_count.ensures c.counter_count.ensures c.left_at_first.ensures refl)
