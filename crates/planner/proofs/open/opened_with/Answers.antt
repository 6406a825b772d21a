use mathlib.Core.Path.{sym, ap, ◌∙◌}
use mathlib.Core.Bool.{true}
use mathlib.Core.List.{List}
use Prim.Native.Nat.{◌%◌}
use Rattle.requests.specs.declared.Entry.{Entry}
use Rattle.sessions.specs.Sessions.{vacant, session_of}
use Rattle.planner.proofs.Arrays.{filled_again}
use Rattle.planner.proofs.Queues.{padded_none}
use Rattle.planner.proofs.open.opened_with.Goals as goal

pub returns : goal.returns
unfolding session_of
returns c =
    let t = c.args.setup in
    rw (c.vacant-places.ensures, c.vacant.ensures)
    (ap (λ (q : List Entry). record { opened = true; setup = t; queue = q; len = 0 }) (filled_again vacant 16 (t.usable.0 % 16) ∙ sym padded_none))
