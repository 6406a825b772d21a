use mathlib.Core.Path.{◌≡◌}
use Prim.Native.Nat.{ℕ, ◌+◌, ◌*◌, ◌%◌, ◌^◌, ◌<◌, ◌≤◌}
use native.Mathlib.Omega.{arith}
use lib.Pow.{shl_exact, shl_lt, pow_mono}
use Rattle.search.proofs.extend.with_counter.Goals as goal

whole : (n k : ℕ) → n ≤ 7 → k < 8 → (63 + k * 8) * 2 ^ (6 * n) % 2 ^ 64 ≡ (63 + k * 8) * 2 ^ (6 * n)
whole n k h l = shl_exact 7 (6 * n) 64 (omega arith) (omega arith)

below : (n k : ℕ) → n ≤ 7 → k < 8 → (63 + k * 8) * 2 ^ (6 * n) < 2 ^ 49
below n k h l = omega (arith, shl_lt {a = 63 + k * 8} 7 (6 * n) (omega arith), pow_mono {i = 7 + 6 * n} {j = 49} (omega arith))

pub overflow_add-result-2 : goal.overflow_add-result-2
overflow_add-result-2 c =
    let a = c.args in
    rw (whole a.n a.k c.requires.0 c.requires.1) (omega (arith, below a.n a.k c.requires.0 c.requires.1, c.requires.2))

pub returns : goal.returns
returns c = rw (whole c.args.n c.args.k c.requires.0 c.requires.1)
