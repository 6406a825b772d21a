use Rattle.std.proofs.Common.{◌<◌, refl, arith}
use Rattle.lent_planner.proofs.ChoiceLaws.{taking_one_lem, with_rows, step_room, step_passes, step_takes}
use Rattle.lent_planner.proofs.Choice.choose.Goals as goal
use Rattle.lent_planner.proofs.Choice.choose.Goals.{In-Some}

pub returns-in_default : goal.returns-in_default
unfolding with_rows
returns-in_default c s q ch len = step_passes c.args.self.now c.args.e.now _ 0 c.in_default.ensures.searched refl s q ch

-- there is room for one more
room : (c : In-Some) → c.args.self.now.count < 8
room c = (step_room c.args.self.now c.args.e.now _ c.in-Some.found.code c.in-Some.ensures.searched c.in-Some.ensures.left_value_2.0).1

pub offset_bounds-self-self : goal.offset_bounds-self-self
offset_bounds-self-self c = let r = room (goal.at.offset_bounds-self-self c).In-Some in omega arith

pub bounds-self-self : goal.bounds-self-self
bounds-self-self c = let r = room (goal.at.bounds-self-self c).In-Some in omega arith

pub offset_bounds-self-self-2 : goal.offset_bounds-self-self-2
offset_bounds-self-self-2 c = let r = room (goal.at.offset_bounds-self-self-2 c).In-Some in omega arith

pub bounds-self-self-2 : goal.bounds-self-self-2
bounds-self-self-2 c = let r = room (goal.at.bounds-self-self-2 c).In-Some in omega arith

pub overflow_add-self : goal.overflow_add-self
overflow_add-self c = let r = room (goal.at.overflow_add-self c).In-Some in omega arith

pub returns : goal.returns
unfolding taking_one_lem
returns c s q ch len =
    step_takes c.args.self.now c.args.e.now _ c.in-Some.found.code c.in-Some.ensures.searched c.in-Some.ensures.left_value_2.0 c.args.i _
    c.in-Some.ensures.left_value_2.1 s q ch len
