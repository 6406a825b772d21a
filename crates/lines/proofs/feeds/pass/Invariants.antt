use Prim.Native.Nat.{◌-◌}
use lib.ListN.{length, take}
use Rattle.responder.specs.Texts.{Put}
use Rattle.streams.specs.Stream.{feed_text}
use Rattle.lines.proofs.Passes.{PassedSoFar}
use Rattle.lines.proofs.feeds.pass.Given as goal

abbrev pub invariant-loop-taken : goal.invariant-loop-taken
invariant-loop-taken l = PassedSoFar (record { site = l.site; house = l.house }) l.initial.next l.text l.next l.taken × Put l.initial.out l.at (feed_text (record { site = l.site; house = l.house }) l.initial.next (take l.taken l.text)) l.out l.written

abbrev pub decreases-loop-taken : goal.decreases-loop-taken
decreases-loop-taken l = length l.text - l.taken
