use mathlib.Core.Path.{◌≡◌}
use Prim.Native.Nat.{ℕ, ◌<◌}
use borrow.Author.Tests.{eq-eqb, ne_eqb, lt-ltb, le-ltb}
use native.Mathlib.Omega.{arith}
use lib.Dec.{eqb}
use lib.ListN.{length}
use Rattle.std.proofs.Common.{below_more}
use Rattle.std.proofs.lemmas.List.Sums.{position_or_len_is}
use Rattle.queue_rows.proofs.rows.place_of.Goals as goal

pub loop-i-preserved : goal.loop-i-preserved
loop-i-preserved c = below_more _ _ c.loop-i.invariant (ne_eqb c.args.id _ c.if-id-known.false)

pub returns-then-id-known : goal.returns-then-id-known
returns-then-id-known c =
    let a = c.args in
    let i = c.loop-i.i in
    let inside : i < length a.ids.now = omega arith in
    rw (position_or_len_is (λ (x : ℕ). eqb a.id x) a.ids.now i 0 (omega arith) c.loop-i.invariant (λ h. eq-eqb a.id _ c.if-id-known.true), lt-ltb i (length a.ids.now) inside)

pub returns : goal.returns
returns c =
    let a = c.args in
    let n = length a.ids.now in
    let all : c.loop-i.i ≡ n = omega arith in
    rw (position_or_len_is (λ (x : ℕ). eqb a.id x) a.ids.now n 0 (omega arith) (λ k h. c.loop-i.invariant k (omega arith)) (λ h. absurd (omega arith)), le-ltb n n (omega arith))
