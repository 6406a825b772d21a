-- The numbers that are checked before each: antt computes them. Assumes nothing.
use mathlib.Core.Path.{refl}
use Rattle.requests.specs.Refusals.{check_order, in_front, checked_before}
use Rattle.requests.specs.CheckOrder.{check_rows, CheckOrder}

pub check_order_lem : CheckOrder
unfolding check_order in_front checked_before check_rows
check_order_lem = refl
