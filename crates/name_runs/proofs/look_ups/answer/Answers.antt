use Rattle.std.proofs.Common.{sym, length-take-le}
use Rattle.relay.proofs.Passes.{array_holds}
use Rattle.name_runs.proofs.look_ups.answer.Goals as goal

pub slice_bounds-text-end : goal.slice_bounds-text-end
slice_bounds-text-end g c = rw c.answer_line-reply.ensures (array_holds _)

pub slice_bounds-write_all-end : goal.slice_bounds-write_all-end
slice_bounds-write_all-end g c = sym (length-take-le _ _ (rw c.answer_line-reply.ensures (array_holds _)))
