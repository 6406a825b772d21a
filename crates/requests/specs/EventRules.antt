-- Document 003, 18.9.4, and order 12: where the two precise events of B run.
use Rattle.std.specs.Prelude.{Bool, true, false, ℕ, eqb}
use Rattle.requests.specs.Choice.{both, pick}
use Rattle.requests.specs.declared.Device.{Device}
use Rattle.requests.specs.declared.Device.TheVariants.{G, S, C, B}
use Rattle.requests.specs.declared.Request.{Request}
use Rattle.requests.specs.declared.Request.TheVariants.{Event, Packet, Offcore, Latency}
use Rattle.requests.specs.declared.EventRule.{EventRule}
use Rattle.requests.specs.declared.EventRule.TheVariants.{Anywhere, OnlyOn, AloneOn}

-- the rule of an event on B: C0/01 is INST_RETIRED.ALL in its PDIR use, CD/02 MEM_TRANS_RETIRED.PRECISE_STORE
unfoldable pub rule_on_b : ℕ → ℕ → EventRule
rule_on_b c m = pick (both (eqb c 0xC0) (eqb m 0x01)) (AloneOn 1) (pick (both (eqb c 0xCD) (eqb m 0x02)) (OnlyOn 3) Anywhere)

-- whether some event of the device has a rule
unfoldable pub has_rules : Device → Bool
has_rules G = false
has_rules S = false
has_rules (C b) = false
has_rules B = true

-- the rule of an event
unfoldable pub rule_of : Device → ℕ → ℕ → EventRule
rule_of d c m = pick (has_rules d) (rule_on_b c m) Anywhere

-- the rule of a request
unfoldable pub rule_for : Device → Request → EventRule
rule_for d (Event c m a) = rule_of d c m
rule_for d (Packet x y a) = Anywhere
rule_for d (Offcore w a) = Anywhere
rule_for d (Latency t a b) = Anywhere

-- whether the rule wants every other counter quiet
unfoldable pub wants_quiet : EventRule → Bool
wants_quiet Anywhere = false
wants_quiet (OnlyOn k) = false
wants_quiet (AloneOn k) = true
