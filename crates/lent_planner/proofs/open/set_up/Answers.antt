use Rattle.std.proofs.Common.{◌≡◌, true, false, sym, ◌∙◌}
use Rattle.lent_sessions.specs.Records.{is_count}
use Rattle.lent_planner.proofs.Deciding.{open_again, open_count, open_by}
use Rattle.lent_planner.proofs.open.set_up.Goals as goal

pub returns-then-session : goal.returns-then-session
returns-then-session c = let a = c.args in open_again a.session a.n a.opening c.if-session.true

pub returns-then-not-is_count : goal.returns-then-not-is_count
returns-then-not-is_count c =
    let a = c.args in
    let m : is_count a.n ≡ false = sym c.is_count.ensures ∙ c.if-not-is_count.true in
    open_count a.session a.n a.opening c.if-session.false m

pub returns : goal.returns
returns c =
    let a = c.args in
    let m : is_count a.n ≡ true = sym c.is_count.ensures ∙ c.if-not-is_count.false in
    open_by a.session a.n a.opening c.if-session.false m _ c.setup_of.ensures
