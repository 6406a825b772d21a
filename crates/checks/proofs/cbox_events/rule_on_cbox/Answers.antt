use mathlib.Core.Path.{refl, sym, subst, ◌∙◌}
use mathlib.Core.List.{map}
use Prim.Native.Nat.{ℕ}
use native.Mathlib.Omega.{arith}
use Rattle.std.proofs.Common.{Some}
use Rattle.requests.specs.Choice.{both}
use Rattle.requests.specs.CBoxEvents.{sink_masks, ring_masks, starved_masks, bypass_masks, cbox_events}
use Rattle.requests.specs.Lookup.{mask_rules, rule_at, same_numbers, same_rule, place_of, row_of}
use Rattle.requests.specs.ByCode.{put_at, table_of, found_in}
use Rattle.requests.proofs.ByCode.{none_with, found_same}
use Rattle.checks.specs.declared.mask_rules.MaskRule.TheVariants.{Rings}
use Rattle.checks.specs.RuleMasks.{rule_in, IsEntry}
use Rattle.checks.proofs.cbox_events.rule_on_cbox.Goals as goal

abbrev entry : ℕ → ℕ
entry c = (found_in (table_of (map row_of cbox_events)) c).row

pub returns-in-10 : goal.returns-in-10
unfolding IsEntry rule_in rule_at found_in table_of put_at row_of cbox_events mask_rules place_of same_rule same_numbers both sink_masks ring_masks starved_masks bypass_masks
returns-in-10 c = subst (λ n. IsEntry n (Some Rings) (entry n)) (sym c.in-10.is) (omega arith, refl, refl)

pub returns-in_default : goal.returns-in_default
unfolding IsEntry row_of cbox_events mask_rules place_of same_rule same_numbers both sink_masks ring_masks starved_masks bypass_masks
returns-in_default c =
    found_same (map row_of cbox_events) _ ∙ (none_with _ (map row_of cbox_events) _ c.in_default.in_default-own.rest).1
