use mathlib.Core.Path.{sym, ◌∙◌}
use Rattle.search.proofs.FreeBeside.{unruled_follows}
use Rattle.search.proofs.ruled.may_follow.Goals as goal

pub returns-then-not-has_rules : goal.returns-then-not-has_rules
returns-then-not-has_rules c = let a = c.args in sym (unruled_follows a.device _ a.code a.mask (sym c.has_rules.ensures ∙ c.if-not-has_rules.true))
