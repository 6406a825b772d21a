-- The size of a set, counter by counter. Assumes nothing.
use mathlib.Core.Path.{◌≡◌}
use mathlib.Core.Bool.{true, false}
use Prim.Native.Nat.{ℕ, ◌+◌}
use native.Mathlib.Numerals.{add-one}
use native.Mathlib.Omega.{arith}
use Rattle.requests.specs.Devices.{has, size}
use Rattle.requests.specs.declared.CounterSet.{CounterSet}

-- a counter of the set
pub size_on : (k n : ℕ) (s : CounterSet) → has s k ≡ true → n ≡ size k s → n + 1 ≡ size (k + 1) s
unfolding size
size_on k n s on e = rw (add-one k, on) (omega arith)

-- a counter that the set has not
pub size_off : (k n : ℕ) (s : CounterSet) → has s k ≡ false → n ≡ size k s → n ≡ size (k + 1) s
unfolding size
size_off k n s off e = rw (add-one k, off) (omega arith)
