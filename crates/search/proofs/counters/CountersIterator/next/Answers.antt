use native.Mathlib.Omega.{arith}
use Rattle.search.proofs.CountersLeft.{least_there}
use Rattle.search.proofs.NextCounters.{least_counter}
use Rattle.search.proofs.counters.CountersIterator.next.Goals as goal

pub without-self-requires : goal.without-self-requires
without-self-requires c = let set = c.args.self.now.0 in least_there set _ (omega arith) c.if-set-eq0.false (least_counter set)

pub returns-clause-steps : goal.returns-clause-steps
returns-clause-steps c =
    let set = c.args.self.now.0 in
    record { there = least_there set _ (omega arith) c.if-set-eq0.false (least_counter set); next = least_counter set; others = c.without-self.ensures }
