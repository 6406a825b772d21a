use Rattle.requests.specs.Devices.{has}
use Rattle.requests.proofs.Words.{bit_and_lem}
use Rattle.search.specs.Counters.{available}
use Rattle.search.proofs.counters.available.Goals as goal

pub returns : goal.returns
unfolding available has
returns c = λ k. bit_and_lem k c.args.allowed.0 c.args.free.0
