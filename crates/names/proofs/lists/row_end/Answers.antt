use native.Mathlib.Omega.{arith}
use Prim.Native.Nat.{◌-◌}
use lib.ListN.{length, take, drop, drop_of_length-le}
use Rattle.names.specs.Lists.{up_to_newline}
use Rattle.names.proofs.Newlines.{row_within}
use Rattle.names.proofs.lists.row_end.Goals as goal

pub overflow_add-result : goal.overflow_add-result
overflow_add-result c = omega (arith, row_within (take (length c.args.list.now - c.args.at) (drop c.args.at c.args.list.now)), c.first_end.ensures)

pub returns-else-at-list : goal.returns-else-at-list
unfolding up_to_newline
returns-else-at-list c = rw (drop_of_length-le c.args.list.now {i = c.args.at} (omega arith)) (omega arith)
