use mathlib.Core.Path.{◌≡◌, refl, ap, sym, ◌∙◌}
use mathlib.Core.List.{[]}
use Prim.Native.Nat.{ℕ, ◌+◌, ◌-◌, ◌/◌, ◌%◌}
use native.Mathlib.Nat.{add-zero}
use native.Mathlib.Omega.{arith}
use lib.ListN.{length, length-append}
use Rattle.grammar.specs.Text.{decimal_text}
use Rattle.answers.proofs.Lengths.{decimal_length}
use Rattle.responder.proofs.Putting.{from_length, digit_before}
use Rattle.responder.proofs.Numerals.{decimal_few, decimal_more, decimal_some}
use Rattle.responder.proofs.texts.put_decimal.Goals as goal

pub overflow_sub-i : goal.overflow_sub-i
overflow_sub-i c = omega (arith, decimal_some c.loop-rest.rest (omega arith))

pub overflow_add-out-in-loop-rest : goal.overflow_add-out-in-loop-rest
overflow_add-out-in-loop-rest c = omega (arith, decimal_length c.loop-rest.rest)

pub bounds-out-at : goal.bounds-out-at
bounds-out-at c =
    let kept : length c.loop-rest.out ≡ length c.args.out.now = let l = c.loop-rest in
    let a = c.args in
    from_length l.i a.at a.out.now (decimal_text a.n) l.out l.invariant.3 in
    let l = c.loop-rest in
    omega (arith, decimal_length l.rest, decimal_some l.rest (omega arith), kept)

pub loop-rest-preserved : goal.loop-rest-preserved
loop-rest-preserved c =
    let l = c.loop-rest in
    let a = c.args in
    let m = decimal_more l.rest (omega arith) (omega arith) in
    let n : length (decimal_text (l.rest / 10)) + 1 ≡ l.i = omega (arith, simp length-append at (ap length m)) in
    let b = digit_before a.out.now l.out (decimal_text a.n) (decimal_text (l.rest / 10)) a.at l.i (l.i - 1) (l.rest % 10 + 48) (omega arith) (omega arith) (sym m ∙ l.invariant.2) l.invariant.3 in
    (omega arith, omega arith, b.0, b.1)

pub overflow_add-result : goal.overflow_add-result
overflow_add-result c = omega (arith, decimal_length c.args.n)

pub returns : goal.returns
returns c =
    let l = c.loop-rest in
    let a = c.args in
    let f = decimal_few l.rest (omega arith) in
    let b = digit_before a.out.now l.out (decimal_text a.n) [] a.at l.i 0 (l.rest + 48) (omega (arith, ap length f)) refl (sym f ∙ l.invariant.2) l.invariant.3 in
    record { place = ap (λ (m : ℕ). a.at + m) c.decimal_width-width.ensures; contents = rw add-zero at b.1 }
