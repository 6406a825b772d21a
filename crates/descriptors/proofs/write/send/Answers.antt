-- A text that is begun has reached its first state, and a call reaches the next.
use Rattle.std.proofs.Common.{length, rules}
use Rattle.descriptors.specs.Writes.{Reached, begun}
use Rattle.descriptors.proofs.Reported.{known}
use Rattle.descriptors.proofs.CallAnswers.{moved_at_most, write_reached}
use Rattle.descriptors.proofs.write.send.Goals as goal

pub loop-init : goal.loop-init
loop-init g c =
    let reached : Reached (length c.args.text.now) c.write_start-state.result = rw c.write_start-state.ensures begun in
    record { reached = reached; within = (known reached).within }

pub loop-preserved : goal.loop-preserved
loop-preserved g c =
    let reached : Reached (length c.args.text.now) c.write_step-state.result =
    write_reached c.args.text.now c.loop.state c.write_step-state.result c.answer_of.result c.loop.invariant.reached (search rules) (moved_at_most c.write-returned.result _ _ c.write-returned.ensures.bound (search rules)) c.write_step-state.ensures in
    record { reached = reached; within = (known reached).within }
