use mathlib.Core.Path.{◌≡◌}
use mathlib.Core.List.{List, ◌++◌}
use lib.ListN.{length}
use Rattle.requests.specs.declared.Entry.{Entry}
use Rattle.sessions.specs.Sessions.{padded}
use Rattle.planner.specs.Selections.{entries_at}
use Rattle.planner.proofs.requeue.place_behind.Given as goal

abbrev pub invariant-loop-i : goal.invariant-loop-i
invariant-loop-i l = (es : List Entry) → length es ≡ l.len → l.initial.queue ≡ padded es → l.queue ≡ padded (es ++ entries_at l.from l.i l.places)
