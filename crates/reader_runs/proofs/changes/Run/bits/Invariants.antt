use Rattle.std.proofs.Common.{◌≤◌}
use Rattle.reader_runs.proofs.changes.Run.bits.Given as goal

abbrev pub invariant-loop-bit : goal.invariant-loop-bit
invariant-loop-bit l = l.found ≤ l.bit
