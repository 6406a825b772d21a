use Rattle.std.proofs.Common.{◌≡◌, Bool, true, false, not, refl, sym, ap, ◌∙◌}
use borrow.Author.Tests.{not-true}
use Rattle.lent_sessions.specs.Records.{is_count}
use Rattle.lent_planner.proofs.Deciding.{before_row, broken_row, few_broken, pass_broken}
use Rattle.lent_planner.proofs.Survey.check.Goals as goal
use Rattle.lent_planner.proofs.Survey.check.Goals.{then-not-is_count-via-then-not-is_count, then-not-is_count-via-else-not-is_count+then-self}

not_false : (b : Bool) → not b ≡ false → b ≡ true
not_false true h = refl
not_false false h = sym h

pub returns-then-not-session : goal.returns-then-not-session
returns-then-not-session c id rows len is call uses = before_row c.args.session rows call uses (not-true _ c.if-not-session.true)

pub returns-then-not-is_count : goal.returns-then-not-is_count
returns-then-not-is_count c id rows len is call uses =
    let s = c.args.session in
    let opened : s.opened ≡ true = not_false _ c.if-not-session.false in
    let count : is_count c.args.n ≡ c.is_count.result = sym c.is_count.ensures in
    broken_row s rows call uses opened (elim c.then-not-is_count.branch [
      | then-not-is_count-via-then-not-is_count w ↦ few_broken s rows (ap is_count len ∙ count ∙ w.if-not-is_count.true)
      | then-not-is_count-via-else-not-is_count+then-self w ↦ pass_broken s rows id c.args.self.now is (ap is_count len ∙ count ∙ w.if-not-is_count.false) w.if-self.true
    ])

pub returns : goal.returns
returns c = (not_false _ c.if-not-session.false, sym c.is_count.ensures ∙ c.if-not-is_count.false, c.if-self.false)
