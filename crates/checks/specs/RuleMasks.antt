-- The mask rule that a look-up finds for a code, and what is listed by it.
use Rattle.std.specs.Prelude.{◌≡◌, [], ◌∷◌, true, false, ℕ, ◌/◌, ◌%◌, ◌<◌, Option, Some, None}
use Rattle.requests.specs.MaskRules.{alone, range, among, allows}
use Rattle.requests.specs.MaskRules as definitions
use Rattle.requests.specs.CBoxEvents.{sink_masks, ring_masks, starved_masks, bypass_masks}
use Rattle.requests.specs.Lookup.{rule_at}
use Rattle.requests.specs.declared.Listing.{Listing}
use Rattle.checks.specs.declared.mask_rules.MaskRule.{MaskRule}
use Rattle.checks.specs.declared.mask_rules.MaskRule.TheVariants.{Lost, Alone, Either, UpTo, Sinks, Rings, Starved, Bypasses}

-- the rule of the definitions
unfoldable pub rule_in : MaskRule → definitions.MaskRule
rule_in Lost = among []
rule_in (Alone n) = alone n
rule_in (Either n k) = among (n ∷ k ∷ [])
rule_in (UpTo n) = range 1 n
rule_in Sinks = among sink_masks
rule_in Rings = among ring_masks
rule_in Starved = among starved_masks
rule_in Bypasses = among bypass_masks

-- what is listed of a code with the rule, or with none, and of a unit mask
unfoldable pub listed_with : Option MaskRule → ℕ → Listing
listed_with None m = record { code = false; pair = false }
listed_with (Some rule) m = record { code = true; pair = allows (rule_in rule) m }

-- whether an entry of a table by code is the code with the rule, or 0, which stands for none
unfoldable pub IsEntry : ℕ → Option MaskRule → ℕ → Type 0
IsEntry c None r = r ≡ 0
IsEntry c (Some rule) r = (0 < r) × (r / 16 ≡ c) × (rule_at (r % 16) ≡ rule_in rule)
