-- Order 12: "Document 003 sets two rules." Which request runs on which counter, in the order's words, and that `ruleFor` says so of it and of no other.
use Rattle.std.specs.Prelude.{◌≡◌, ◌⊎◌, ◌↔◌, true, false, ℕ}
use Rattle.requests.specs.Catalogue.{events_of, pair_in}
use Rattle.requests.specs.EventRules.{has_rules, rule_for, wants_quiet}
use Rattle.requests.specs.declared.CounterSet.{CounterSet}
use Rattle.requests.specs.declared.Device.{Device}
use Rattle.requests.specs.declared.Device.TheVariants.{G, B}
use Rattle.requests.specs.declared.Request.{Request}
use Rattle.requests.specs.declared.Request.TheVariants.{Event}
use Rattle.requests.specs.declared.EventRule.TheVariants.{Anywhere, OnlyOn, AloneOn}

-- on the device the request runs on this counter and on no other
pub data RunsOn : Device → Request → ℕ → Type 0 where
  -- "INST_RETIRED.ALL in its PDIR use (C0/01) runs on counter 1"
  instructions : {a : CounterSet} → RunsOn B (Event 0xC0 0x01 a) 1
  -- "MEM_TRANS_RETIRED.PRECISE_STORE (CD/02) runs on counter 3 only"
  stores : {a : CounterSet} → RunsOn B (Event 0xCD 0x02 a) 3

-- it runs "with every other general counter quiet"
pub data Lone : Device → Request → Type 0 where
  pdir : {a : CounterSet} → Lone B (Event 0xC0 0x01 a)

-- no request has a rule on the device
abbrev pub Unruled : Device → Type 0
Unruled d = (r : Request) (k : ℕ) → ¬ RunsOn d r k

pub record RuledEvents : Type 0 where
  -- the rule of a request, both ways
  pub anywhere : (d : Device) (r : Request) → (rule_for d r ≡ Anywhere) ↔ ((k : ℕ) → ¬ RunsOn d r k)
  pub only_on : (d : Device) (r : Request) (k : ℕ) → (rule_for d r ≡ OnlyOn k) ↔ (RunsOn d r k × (¬ Lone d r))
  pub alone_on : (d : Device) (r : Request) (k : ℕ) → (rule_for d r ≡ AloneOn k) ↔ (RunsOn d r k × Lone d r)
  pub quiet : (d : Device) (r : Request) → (wants_quiet (rule_for d r) ≡ true) ↔ Lone d r
  -- a request that runs alone has its counter too
  pub counted : (d : Device) (r : Request) → Lone d r → (k : ℕ) × RunsOn d r k
  -- where no event has a rule, no request is ruled; so on every device but B
  pub unruled : (d : Device) → (has_rules d ≡ false) ↔ Unruled d
  pub elsewhere : (d : Device) → ¬ (d ≡ B) → Unruled d
  -- B lists "document 01's seven pairs for G and two more", those that have a rule
  pub two_more : (c m : ℕ) (a : CounterSet) → (pair_in (events_of B) c m ≡ true) ↔ ((pair_in (events_of G) c m ≡ true) ⊎ ((k : ℕ) × RunsOn B (Event c m a) k))
