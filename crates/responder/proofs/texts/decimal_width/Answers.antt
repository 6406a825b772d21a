use mathlib.Core.Path.{ap}
use native.Mathlib.Omega.{arith}
use lib.ListN.{length, length-append}
use Rattle.answers.proofs.Lengths.{decimal_length}
use Rattle.responder.proofs.Numerals.{decimal_few, decimal_more}
use Rattle.responder.proofs.texts.decimal_width.Goals as goal

pub overflow_add-width : goal.overflow_add-width
overflow_add-width c = omega (arith, decimal_length c.args.n)

pub loop-rest-preserved : goal.loop-rest-preserved
loop-rest-preserved c =
    let l = c.loop-rest in
    let n = c.args.n in
    let e = decimal_more l.rest (omega arith) (omega arith) in
    (omega arith, omega (arith, simp length-append at (ap length e)))

pub returns : goal.returns
returns c =
    let l = c.loop-rest in
    let e = decimal_few l.rest (omega arith) in
    omega (arith, ap length e)
