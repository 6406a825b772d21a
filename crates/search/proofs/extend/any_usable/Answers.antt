use mathlib.Core.Path.{sym, ◌∙◌}
use Rattle.search.proofs.FreeBeside.{any_usable}
use Rattle.search.proofs.extend.any_usable.Goals as goal

pub returns : goal.returns
returns c =
    λ h.
    any_usable c.args.setup _ _ _ c.available.ensures c.own_counters.ensures _ _ c.next.ensures.steps (sym c.is_some.ensures ∙ h)
