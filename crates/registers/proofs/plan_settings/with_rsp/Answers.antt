use Rattle.registers.proofs.plan_settings.with_rsp.Goals as goal

pub returns-in-Offcore : goal.returns-in-Offcore
returns-in-Offcore c = rw c.in-Offcore.is (c.with_offcore.ensures _)
