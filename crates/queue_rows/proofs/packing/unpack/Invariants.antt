use mathlib.Core.Path.{◌≡◌}
use Prim.Native.Nat.{◌≤◌}
use lib.ListN.{take}
use Rattle.sessions.specs.Sessions.{padded}
use Rattle.queue_rows.specs.Rows.{queue_in}
use Rattle.queue_rows.proofs.packing.unpack.Given as goal

abbrev pub invariant-loop-i : goal.invariant-loop-i
invariant-loop-i l = (l.n ≤ 16) × (l.i ≤ l.n) × (l.queue ≡ padded (take l.i (queue_in l.ids l.rows)))
