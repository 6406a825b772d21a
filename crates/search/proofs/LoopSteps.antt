-- The loops of the tests: one counter more, one row more. Assumes nothing.
use mathlib.Core.Path.{◌≡◌}
use mathlib.Core.Bool.{true, false}
use mathlib.Core.List.{List}
use Prim.Native.Nat.{ℕ, suc, ◌+◌, ◌-◌, ◌*◌, ◌%◌, ◌^◌, ◌<◌}
use native.Mathlib.Numerals.{add-one}
use native.Mathlib.Omega.{arith}
use lib.Bits.{bit_or, or_zero_r}
use lib.Pow.{pow-lt}
use Rattle.requests.specs.declared.CounterSet.{CounterSet}
use Rattle.requests.specs.declared.Request.{Request}
use Rattle.requests.specs.Devices.{has}
use Rattle.plans.specs.declared.Asked.{Asked}
use Rattle.plans.specs.Reach.{taking, taking_one}
use Rattle.plans.specs.FilterWords.{asked_by, asked_from}
use Rattle.search.specs.Rows.{request_at, rows_from}
use Rattle.search.proofs.CounterBits.{shifted}

-- the shift stays within the word
pub step_fits : (k : ℕ) → k < 6 → 1 * 2 ^ k % 2 ^ 64 < 64
step_fits k l = rw (shifted k (omega arith)) (pow-lt l)

-- one counter more
pub taking_on : (k x : ℕ) (a : CounterSet) (sets : ℕ) → has a k ≡ true → x ≡ taking_one k a sets → bit_or x (taking k sets) ≡ taking_one (k + 1) a sets
unfolding taking_one
taking_on k x a sets on e = rw (add-one, on, e)

pub taking_off : (k x : ℕ) (a : CounterSet) (sets : ℕ) → has a k ≡ false → x ≡ taking_one k a sets → x ≡ taking_one (k + 1) a sets
unfolding taking_one
taking_off k x a sets off e = rw (add-one, off, or_zero_r) e

-- one row more
pub asked_on : (rows : List ℕ) (count i : ℕ) (a next total : Asked) (r : Request) → i < count → r ≡ request_at rows i → next ≡ asked_by r a
    → asked_from a (rows_from rows i (count - i)) ≡ total → asked_from next (rows_from rows (i + 1) (count - (i + 1))) ≡ total
unfolding rows_from asked_from
asked_on rows count i a next total r l at by h =
    let more : count - i ≡ suc (count - (i + 1)) = omega arith in
    rw (by, at) (rw more at h)
