-- What is left of an array of zeros. Assumes nothing.
use mathlib.Core.Path.{◌≡◌, ap, sym, ◌∙◌}
use mathlib.Core.List.{List}
use Prim.Native.Nat.{ℕ, ◌+◌, ◌-◌, ◌≤◌}
use native.Mathlib.Omega.{arith}
use lib.ListN.{drop, replicate, length-replicate, replicate-append-replicate}
use lib.Seq.{drop_at}

-- an array of zeros
abbrev pub zeros : ℕ → List ℕ
zeros n = replicate n 0

-- what is left of it
pub drop_zeros : (n m : ℕ) → n ≤ m → drop n (zeros m) ≡ zeros (m - n)
drop_zeros n m h =
    let e : m ≡ n + (m - n) = omega arith in
    ap (λ (k : ℕ). drop n (zeros k)) e ∙ ap (drop n) (sym (replicate-append-replicate n (m - n) 0)) ∙ drop_at (zeros n) (zeros (m - n)) n (length-replicate n 0)
