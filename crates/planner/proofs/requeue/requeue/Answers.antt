use mathlib.Core.Path.{refl, sym, ◌∙◌}
use mathlib.Core.List.{[]}
use lib.ListN.{length-map}
use Rattle.planner.proofs.Queues.{padded_none}
use Rattle.planner.proofs.requeue.requeue.Goals as goal

pub returns : goal.returns
returns c = c.place_behind-2.ensures _ (length-map c.args.passed.now _) (c.place_behind.ensures [] refl (c.requires.empty ∙ sym padded_none))
