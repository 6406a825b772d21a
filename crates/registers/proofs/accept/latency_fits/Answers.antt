use native.Mathlib.Omega.{arith}
use Rattle.requests.specs.Bits.{outstanding}
use Rattle.registers.proofs.Accepting.{latency_wide}
use Rattle.registers.proofs.accept.latency_fits.Goals as goal

pub returns-in_default : goal.returns-in_default
unfolding outstanding
returns-in_default c =
    let a = c.args in
    latency_wide a.setup a.rsp0.counters a.rsp1.counters a.rsp0.word a.rsp1.word
    (let wide = c.in_default.ensures {u = tt} in omega arith)
