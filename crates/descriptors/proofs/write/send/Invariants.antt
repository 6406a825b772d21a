-- The state is one that calls can reach, from turn to turn, and so lies within the text.
use Rattle.std.proofs.Common.{length, ◌≤◌}
use Rattle.descriptors.specs.Writes.{Reached}
use Rattle.descriptors.proofs.write.send.Given as goal

abbrev pub invariant-loop : goal.invariant-loop
invariant-loop g l = record {
  reached : Reached (length l.text) l.state;
  within : l.state.done ≤ length l.text;
}
