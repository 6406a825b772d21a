use Rattle.std.proofs.Common.{◌≤◌, ◌*◌}
use Rattle.reader_runs.proofs.changes.Run.count.Given as goal

abbrev pub invariant-loop-register : goal.invariant-loop-register
invariant-loop-register l = l.total ≤ 64 * l.register-index
