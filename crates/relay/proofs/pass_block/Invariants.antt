-- Each turn answers at least one byte more.
use Rattle.std.proofs.Common.{◌-◌, ◌≤◌, length}
use Rattle.answers.specs.ReplyLength.{reply_room}
use Rattle.relay.proofs.Passes.{PassedSoFar}
use Rattle.relay.proofs.pass_block.Given as goal

abbrev pub invariant-loop-taken : goal.invariant-loop-taken
invariant-loop-taken g l = record {
  passed : PassedSoFar (record { site = l.site; house = l.house }) l.initial.current l.block l.current l.taken l.sent;
  roomy : reply_room ≤ length l.out;
}

abbrev pub decreases-loop-taken : goal.decreases-loop-taken
decreases-loop-taken g l = length l.block - l.taken
