use mathlib.Core.Path.{◌≡◌}
use Prim.Native.Nat.{◌≤◌}
use lib.ListN.{length, take}
use Rattle.queue_rows.specs.Rows.{Sized, queue_in}
use Rattle.queue_rows.proofs.packing.pack.Given as goal

abbrev pub invariant-loop-i : goal.invariant-loop-i
invariant-loop-i l = (length l.session.queue ≡ 16) × Sized l.ids l.rows × (l.i ≤ 16) × (take l.i (queue_in l.ids l.rows) ≡ take l.i l.session.queue)
