use mathlib.Core.Path.{◌≡◌, sym, ap, ◌∙◌}
use mathlib.Core.Bool.{true, false, not}
use Prim.Native.Nat.{ℕ}
use lib.ListN.{get_or}
use Rattle.requests.specs.declared.Setup.{Setup}
use Rattle.requests.specs.Choice.{both, every}
use Rattle.requests.specs.Devices.{counter_count}
use Rattle.requests.specs.EventRules.{has_rules}
use Rattle.requests.proofs.Tests.{every_true}
use Rattle.layouts.specs.Read.{rule_fits}
use Rattle.layouts.proofs.RuledWords.{unruled}
use Rattle.registers.proofs.precise.precise_fits.Goals as goal

no_rules : (s : Setup) (f : ℕ → ℕ) → has_rules s.device ≡ false → every (counter_count s.device) (rule_fits s f) ≡ true
no_rules s f h = every_true (counter_count s.device) (rule_fits s f) (λ k l. unruled s.device s f k h)

pub returns-then-not-has_rules : goal.returns-then-not-has_rules
unfolding both
returns-then-not-has_rules c =
    let a = c.args in
    rw (sym c.pebs_fits.ensures ∙ c.if-pebs_fits.true, no_rules a.setup (λ k. get_or a.words.now k 0) (sym c.has_rules.ensures ∙ c.if-not-has_rules.true)) (ap not c.if-not-has_rules.true)
