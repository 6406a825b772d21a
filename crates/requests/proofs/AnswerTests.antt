-- The refusal of an answer. Assumes nothing.
use Rattle.std.specs.Prelude.{Option, None, Some, Ok, Err}
use mathlib.Core.Path.{◌≡◌, refl}
use Prim.Native.Nat.{ℕ}
use native.Mathlib.Omega.{arith}
use Rattle.requests.specs.Refusals.{answer_for}
use Rattle.requests.specs.declared.Refusal.{Refusal}

pub answer_none : (x : Option Refusal) → answer_for x ≡ (Ok tt) → x ≡ None
unfolding answer_for
answer_none None e = refl
answer_none (Some y) e = let z : ◌≡◌ {A = ℕ} 0 1 = cc in absurd (omega arith)

pub answer_some : (x : Option Refusal) (y : Refusal) → answer_for x ≡ Err y → x ≡ Some y
unfolding answer_for
answer_some None y e = let z : ◌≡◌ {A = ℕ} 0 1 = cc in absurd (omega arith)
answer_some (Some x) y e = cc
