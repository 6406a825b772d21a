use Rattle.requests.specs.Checks.{formed, request_refusal}
use Rattle.registers.proofs.Accepting.{answer_formed}
use Rattle.registers.proofs.accept.formed.Goals as goal

pub returns : goal.returns
unfolding formed
returns c =
    let a = c.args in
    rw (c.is_ok.ensures.value, c.request_refusal.ensures) (answer_formed (request_refusal a.setup a.request))
