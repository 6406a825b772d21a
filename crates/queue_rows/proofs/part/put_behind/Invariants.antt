use mathlib.Core.Path.{◌≡◌}
use mathlib.Core.List.{◌++◌}
use Prim.Native.Nat.{◌+◌, ◌≤◌}
use lib.ListN.{take}
use Rattle.queue_rows.specs.Rows.{entries_in, queue_in, Sized}
use Rattle.queue_rows.proofs.part.put_behind.Given as goal

abbrev pub invariant-loop-j : goal.invariant-loop-j
invariant-loop-j l = Sized l.ids l.rows × (l.j ≤ l.count) × (take (l.front + l.j) (queue_in l.ids l.rows) ≡ take l.front (queue_in l.initial.ids l.initial.rows) ++ entries_in l.j l.taken_ids l.taken_rows)
