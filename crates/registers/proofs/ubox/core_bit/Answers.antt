use mathlib.Core.Path.{◌∙◌}
use native.Mathlib.Nat.{one-mul}
use native.Mathlib.Omega.{arith}
use lib.Dec.{lit<}
use lib.Pow.{shl_exact}
use Rattle.registers.proofs.UBoxValues.{core_fits_lem, core_wide}
use Rattle.registers.proofs.ubox.core_bit.Goals as goal

pub returns-in-Some : goal.returns-in-Some
returns-in-Some c =
    let small = c.if-number-lt-CORE_COUNT.true in
    shl_exact 1 _ 64 (lit< tt) (omega arith) ∙ one-mul _ ∙ core_fits_lem c.args.core _ c.in-Some.is small

pub returns-in-Some-2 : goal.returns-in-Some-2
returns-in-Some-2 c = core_wide c.args.core _ c.in-Some.is c.if-number-lt-CORE_COUNT.false
