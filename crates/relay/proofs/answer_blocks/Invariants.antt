-- What is answered so far is a text, whose replies are counted.
use Rattle.std.proofs.Common.{◌≤◌, length}
use Rattle.answers.specs.ReplyLength.{reply_room}
use Rattle.relay.proofs.Relays.{RelayedSoFar}
use Rattle.relay.proofs.answer_blocks.Given as goal

abbrev pub invariant-loop : goal.invariant-loop
invariant-loop g l = record {
  relayed : RelayedSoFar (record { site = l.site; house = l.house }) l.feed l.received l.sent;
  roomy : reply_room ≤ length l.out;
}
