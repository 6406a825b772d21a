use mathlib.Core.Path.{◌≡◌, ap, sym, ◌∙◌}
use Prim.Native.Nat.{ℕ}
use native.Mathlib.Omega.{arith}
use Rattle.std.proofs.Common.{Option, None, Some, true}
use Rattle.requests.specs.MaskRules.{allows}
use Rattle.requests.specs.MaskRules as definitions
use Rattle.requests.specs.Catalogue.{events_of}
use Rattle.requests.specs.Lookup.{rows_of, row_allows}
use Rattle.requests.specs.ByCode.{listed_by}
use Rattle.requests.proofs.ListedByCode.{listed_by_none, listed_by_row, cbox_listing}
use Rattle.checks.specs.declared.mask_rules.MaskRule.{MaskRule}
use Rattle.checks.specs.RuleMasks.{listed_with, IsEntry}
use Rattle.checks.proofs.catalogue.mask_rule_of.Goals as goal

-- what is listed by the rule of an entry is what is listed by the entry
listed_by_entry : (c m r : ℕ) (found : Option MaskRule) → IsEntry c found r → listed_with found m ≡ listed_by r m
unfolding listed_with IsEntry row_allows
listed_by_entry c m r None e = sym (listed_by_none r m e)
listed_by_entry c m r (Some rule) e =
    ap (λ (q : definitions.MaskRule). record { code = true; pair = allows q m }) (sym e.2)
    ∙ sym (listed_by_row r m (λ z. omega (arith, e.0)))

pub returns-in-C : goal.returns-in-C
unfolding rows_of events_of
returns-in-C c m = rw c.in-C.is (listed_by_entry _ m _ _ c.rule_on_cbox.ensures ∙ sym (cbox_listing _ _ m))
