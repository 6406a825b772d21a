-- The least counter of a set: those that trailing zeros stand for are not in it, and the one that they lead to is. Assumes nothing.
use mathlib.Core.Path.{◌≡◌, refl}
use mathlib.Core.Bool.{true, false}
use Prim.Native.Nat.{ℕ, zero, suc, ◌/◌, ◌%◌, ◌<◌}
use native.Mathlib.Nat.{div-one}
use native.Mathlib.Omega.{arith}
use lib.Count.{under, count_trailing_zeros}
use lib.Dec.{eqb}
use Rattle.requests.specs.declared.CounterSet.{CounterSet}
use Rattle.requests.specs.Bits.{bit}
use Rattle.requests.specs.Devices.{has}
use Rattle.requests.proofs.Words.{half_div}
use Rattle.search.specs.Counters.{NextIn}

-- a word has no bit below its lowest ..
zeros_below : (n w i : ℕ) → i < count_trailing_zeros n w → bit i w ≡ false
unfolding count_trailing_zeros bit
zeros_below zero w i l = absurd (omega arith)
zeros_below (suc n) w zero l = go (w % 2) refl l
  where
    go : (d : ℕ) → w % 2 ≡ d → 0 < under d (count_trailing_zeros n (w / 2)) → eqb (w / 1 % 2) 1 ≡ false
    go zero e m = rw (div-one w, e)
    go (suc d) e m = absurd (omega arith)
zeros_below (suc n) w (suc i) l = rw (half_div i w) (zeros_below n (w / 2) i (go (w % 2) l))
  where
    go : (d : ℕ) → suc i < under d (count_trailing_zeros n (w / 2)) → i < count_trailing_zeros n (w / 2)
    go zero m = omega arith
    go (suc d) m = absurd (omega arith)

-- .. and has its lowest
lowest : (n w : ℕ) → count_trailing_zeros n w < n → bit (count_trailing_zeros n w) w ≡ true
unfolding count_trailing_zeros bit
lowest zero w l = absurd (omega arith)
lowest (suc n) w l = go (lowest n (w / 2)) (w % 2) refl l
  where
    go : (count_trailing_zeros n (w / 2) < n → bit (count_trailing_zeros n (w / 2)) (w / 2) ≡ true) → (d : ℕ) → w % 2 ≡ d → under d (count_trailing_zeros n (w / 2)) < suc n
        → bit (under d (count_trailing_zeros n (w / 2))) w ≡ true
    go before zero e m = rw (half_div (count_trailing_zeros n (w / 2)) w) (before (omega arith))
    go before (suc d) e m = let one : w % 2 ≡ 1 = omega arith in rw (div-one w, one)

pub least_counter : (s : CounterSet) → NextIn s 0 (count_trailing_zeros 64 s.0)
unfolding has
least_counter s = record { not_before = omega arith; none_between = λ i l m. zeros_below 64 s.0 i m; there = λ l. lowest 64 s.0 l }
