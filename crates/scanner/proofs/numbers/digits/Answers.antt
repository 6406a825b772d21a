use Prim.Native.Nat.{◌+◌, ◌*◌, ◌^◌, ◌≤◌}
use mathlib.Core.Path.{sym, ◌∙◌}
use native.Mathlib.Omega.{arith}
use Rattle.scanner.proofs.DigitLoops.{product_fits, digit_more, digit_bad, digit_next, digits_end}
use Rattle.std.proofs.Common.{rules}
use Rattle.scanner.proofs.numbers.digits.Goals as goal

pub returns-then-base-d : goal.returns-then-base-d
returns-then-base-d c =
    let l = c.loop-b in
    let a = c.args in
    sym (digit_bad a.base l.value a.field.now l.b-index _ (search rules) c.digit-d.ensures.is c.if-base-d.true) ∙ l.invariant.2

pub overflow_mul-value : goal.overflow_mul-value
overflow_mul-value c =
    let fits : c.loop-b.value * c.args.base + 16 ≤ 2 ^ 64 = let l = c.loop-b in
    product_fits l.value _ l.b-index l.invariant.1 (omega arith) (omega arith) in
    omega (arith, fits)

pub overflow_add-value : goal.overflow_add-value
overflow_add-value c =
    let fits : c.loop-b.value * c.args.base + 16 ≤ 2 ^ 64 = let l = c.loop-b in
    product_fits l.value _ l.b-index l.invariant.1 (omega arith) (omega arith) in
    omega (arith, fits)

pub loop-b-preserved : goal.loop-b-preserved
loop-b-preserved c =
    let l = c.loop-b in
    let a = c.args in (
      omega arith,
      digit_more 16 l.value a.base _ l.b-index l.invariant.1 (omega arith) c.if-base-d.false,
      sym (digit_next a.base l.value a.field.now l.b-index _ (search rules) c.digit-d.ensures.is c.if-base-d.false) ∙ l.invariant.2,
    )

pub returns : goal.returns
returns c =
    let l = c.loop-b in
    let a = c.args in
    sym (digits_end a.base l.value a.field.now l.b-index (omega arith) (omega arith)) ∙ l.invariant.2
