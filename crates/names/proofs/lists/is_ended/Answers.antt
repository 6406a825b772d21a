use mathlib.Core.Path.{sym}
use native.Mathlib.Omega.{arith}
use Rattle.names.proofs.Newlines.{ended_none, ended_at}
use Rattle.names.proofs.lists.is_ended.Goals as goal

pub returns-in-Some : goal.returns-in-Some
returns-in-Some c = sym (ended_at c.args.list.now c.in-Some.last.now (sym c.in-Some.ensures.value))

pub returns-in-None : goal.returns-in-None
returns-in-None c = sym (ended_none c.args.list.now (omega (arith, c.in-None.ensures.item)))
