use mathlib.Core.Path.{◌≡◌}
use Prim.Native.Nat.{◌-◌}
use Rattle.search.specs.Rows.{rows_from}
use Rattle.plans.specs.FilterWords.{none_asked, asked_from}
use Rattle.search.proofs.filter_words.crowded.Given as goal

abbrev pub invariant-loop-i : goal.invariant-loop-i
invariant-loop-i l = asked_from l.asked (rows_from l.rows l.i (l.count - l.i)) ≡ asked_from none_asked (rows_from l.rows 0 l.count)
