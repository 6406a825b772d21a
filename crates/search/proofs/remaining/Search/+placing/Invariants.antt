-- What falls with each call: four times the number of requests that remain, and more for each step towards the next request. In each loop,
-- the counters before p lead to no plan, and those from p on are left.
use Rattle.std.proofs.Common.{◌≡◌, ℕ, ◌+◌, ◌-◌, ◌*◌}
use Rattle.requests.specs.declared.Request.TheVariants.{Latency, Offcore}
use Rattle.plans.specs.Search.{first_from}
use Rattle.search.specs.Filters.{room_of}
use Rattle.search.specs.Left.{with_rsp0, with_rsp1}
use Rattle.search.proofs.CountersLeft.{From}
use Rattle.search.proofs.Admitting.{offcore_taken, pair_taken}
use Rattle.search.proofs.Trying.{counters, tries_taking, tries_from}
use Rattle.search.proofs.remaining.Search.+placing.Given as goal

abbrev pub decreases-place_latency : goal.decreases-place_latency
decreases-place_latency l = 4 * (l.self.now.count - l.at) + 2

abbrev pub decreases-place_offcore : goal.decreases-place_offcore
decreases-place_offcore l = 4 * (l.self.now.count - l.at) + 2

abbrev pub decreases-place_counter : goal.decreases-place_counter
decreases-place_counter l = 4 * (l.self.now.count - l.next) + 5

abbrev pub decreases-place_from : goal.decreases-place_from
decreases-place_from l = 4 * (l.self.now.count - l.at) + 3

abbrev pub invariant-place_latency-loop-j : goal.invariant-place_latency-loop-j
invariant-place_latency-loop-j l =
    let taken = pair_taken l.self.rows.now l.initial.j-iterator.0 l.seconds l.used in
    let pairs = tries_from l.self.counters l.self.counters (tries_taking l.self.counters l.self.rows.now l.at l.self.count (Latency l.types l.initial.j-iterator.0 l.seconds) taken) in
    (p : ℕ) × From l.initial.j-iterator.0 l.j-iterator.0 p × (pairs 0 0 ≡ pairs p 0)

abbrev pub invariant-place_offcore-loop-k : goal.invariant-place_offcore-loop-k
invariant-place_offcore-loop-k l =
    let taken = offcore_taken l.self.rows.now l.initial.k-iterator.0 l.held0 l.held1 (with_rsp0 l.left (l.at + 1)) (with_rsp1 l.left (l.at + 1)) in
    let places = tries_from l.self.counters 2 (tries_taking l.self.counters l.self.rows.now l.at l.self.count (Offcore l.word l.initial.k-iterator.0) taken) in
    (p : ℕ) × From l.initial.k-iterator.0 l.k-iterator.0 p × (places 0 0 ≡ places p 0)

abbrev pub invariant-place_counter-loop-k : goal.invariant-place_counter-loop-k
invariant-place_counter-loop-k l =
    let tried = counters l.self.counters l.self.rows.now l.next l.self.count l.initial.k-iterator.0 (room_of l.self.rows.now l.left) in
    (p : ℕ) × From l.initial.k-iterator.0 l.k-iterator.0 p × (first_from tried 0 (l.self.counters - 0) ≡ first_from tried p (l.self.counters - p))
