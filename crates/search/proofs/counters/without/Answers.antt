use native.Mathlib.Omega.{arith}
use Rattle.plans.proofs.Sets.{has_le}
use Rattle.search.proofs.CounterBits.{shifted, has_below}
use Rattle.search.proofs.counters.without.Goals as goal

pub overflow_shl-result : goal.overflow_shl-result
overflow_shl-result c = has_below 64 c.args.set c.args.k (omega arith) c.requires

pub overflow_sub-result : goal.overflow_sub-result
overflow_sub-result c =
    rw (shifted c.args.k (omega (arith, has_below 64 c.args.set c.args.k (omega arith) c.requires))) (has_le c.args.set c.args.k c.requires)

pub returns : goal.returns
returns c = rw (shifted c.args.k (omega (arith, has_below 64 c.args.set c.args.k (omega arith) c.requires)))
