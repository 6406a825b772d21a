-- What is left when a counter or a register is taken stays within the eight rows and the n counters. Assumes nothing.
use mathlib.Core.Path.{◌≡◌}
use Prim.Native.Nat.{ℕ, ◌≤◌}
use Rattle.search.specs.declared.left.Left.{Left}
use Rattle.search.specs.Left.{InRows, OnCounters, with_rsp0, with_rsp1}

module _ (n : ℕ) (left after : Left) (rows : InRows left) (counters : OnCounters n left) where
  pub rsp0_leaves : (user : ℕ) → user ≤ 8 → after ≡ with_rsp0 left user → InRows after × OnCounters n after
  rsp0_leaves user l e = rw e ((l, rows.1, rows.2), record { some = counters.some; few = counters.few; below = counters.below })

  pub rsp1_leaves : (user : ℕ) → user ≤ 8 → after ≡ with_rsp1 left user → InRows after × OnCounters n after
  rsp1_leaves user l e = rw e ((rows.0, l, rows.2), record { some = counters.some; few = counters.few; below = counters.below })
