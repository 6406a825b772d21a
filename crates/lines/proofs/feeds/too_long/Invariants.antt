use mathlib.Core.Path.{◌≡◌}
use Prim.Native.Nat.{◌+◌, ◌-◌}
use lib.ListN.{length, take}
use Rattle.streams.specs.Stream.{feed_text}
use Rattle.lines.proofs.Passes.{PassedSoFar}
use Rattle.lines.proofs.feeds.too_long.Given as goal

abbrev pub invariant-loop-taken : goal.invariant-loop-taken
invariant-loop-taken l = PassedSoFar (record { site = l.site; house = l.house }) l.initial.next l.text l.next l.taken × (l.left + length (feed_text (record { site = l.site; house = l.house }) l.initial.next (take l.taken l.text)) ≡ l.room)

abbrev pub decreases-loop-taken : goal.decreases-loop-taken
decreases-loop-taken l = length l.text - l.taken
