-- The rule of a request is the one that order 12 gives it: by the tests of the two pairs, on B alone. Assumes nothing.
use mathlib.Core.Path.{◌≡◌, refl, ap, sym, subst, ◌∙◌}
use mathlib.Core.Logic.{◌⊎◌, inl, inr, ⊎_elim}
use mathlib.Core.Bool.{Bool, true, false, true≢false, false≢true}
use mathlib.Core.List.{List, [], ◌∷◌, ◌++◌}
use Prim.Native.Nat.{ℕ}
use lib.Dec.{eqb}
use borrow.Author.Tests.{eqb-true}
use Rattle.requests.specs.Choice.{both, either}
use Rattle.requests.specs.MaskRules.{allows, ListedEvent}
use Rattle.requests.specs.Catalogue.{architectural_events, precise_events, events_of, pair_in}
use Rattle.requests.specs.EventRules.{rule_on_b, has_rules, rule_of, rule_for, wants_quiet}
use Rattle.requests.specs.RuledEvents.{RunsOn, instructions, stores, Lone, pdir, Unruled, RuledEvents}
use Rattle.requests.specs.declared.CounterSet.{CounterSet}
use Rattle.requests.specs.declared.Device.{Device}
use Rattle.requests.specs.declared.Device.TheVariants.{G, S, C, B}
use Rattle.requests.specs.declared.Request.{Request}
use Rattle.requests.specs.declared.Request.TheVariants.{Event, Packet, Offcore, Latency}
use Rattle.requests.specs.declared.EventRule.{EventRule}
use Rattle.requests.specs.declared.EventRule.TheVariants.{Anywhere, OnlyOn, AloneOn}
use Rattle.requests.proofs.Tests.{both_parts, either_cases, either_left, either_right, either_assoc, either_false}

-- a rule, and what it says of the request
pub data Says (d : Device) (r : Request) : EventRule → Type 0 where
  nothing : ((k : ℕ) → ¬ RunsOn d r k) → ¬ Lone d r → Says d r Anywhere
  only : {k : ℕ} → RunsOn d r k → ¬ Lone d r → Says d r (OnlyOn k)
  alone : {k : ℕ} → RunsOn d r k → Lone d r → Says d r (AloneOn k)

-- ---- B

abbrev is_instructions : ℕ → ℕ → Bool
is_instructions c m = both (eqb c 0xC0) (eqb m 0x01)

abbrev is_stores : ℕ → ℕ → Bool
is_stores c m = both (eqb c 0xCD) (eqb m 0x02)

stores_not_lone : (a : CounterSet) → ¬ Lone B (Event 0xCD 0x02 a)
stores_not_lone a l = elim l [ ]

no_run : (c m : ℕ) (a : CounterSet) (k : ℕ) → is_instructions c m ≡ false → is_stores c m ≡ false → ¬ RunsOn B (Event c m a) k
unfolding both
no_run c m a k e f instructions = true≢false e
no_run c m a k e f stores = true≢false f

not_lone : (c m : ℕ) (a : CounterSet) → is_instructions c m ≡ false → ¬ Lone B (Event c m a)
unfolding both
not_lone c m a e pdir = true≢false e

event_says : (c m : ℕ) (a : CounterSet) → Says B (Event c m a) (rule_on_b c m)
unfolding rule_on_b both
event_says c m a = go (is_instructions c m) refl (is_stores c m) refl
  where
    go : (p : Bool) → is_instructions c m ≡ p → (q : Bool) → is_stores c m ≡ q → Says B (Event c m a) (rule_on_b c m)
    go true e q f =
        let p = both_parts _ _ e in
        rw (eqb-true c 0xC0 p.0, eqb-true m 0x01 p.1) (alone instructions pdir)
    go false e true f =
        let p = both_parts _ _ f in
        rw (eqb-true c 0xCD p.0, eqb-true m 0x02 p.1) (only stores (stores_not_lone a))
    go false e false f = rw (e, f, rule_on_b) (nothing (λ k. no_run c m a k e f) (not_lone c m a e))

-- ---- every device

-- only B has an event that runs somewhere or alone
nowhere_on_g : (r : Request) (k : ℕ) → ¬ RunsOn G r k
nowhere_on_g r k h = elim h [ ]

nowhere_on_s : (r : Request) (k : ℕ) → ¬ RunsOn S r k
nowhere_on_s r k h = elim h [ ]

nowhere_on_c : (b : ℕ) (r : Request) (k : ℕ) → ¬ RunsOn (C b) r k
nowhere_on_c b r k h = elim h [ ]

not_lone_on_g : (r : Request) → ¬ Lone G r
not_lone_on_g r h = elim h [ ]

not_lone_on_s : (r : Request) → ¬ Lone S r
not_lone_on_s r h = elim h [ ]

not_lone_on_c : (b : ℕ) (r : Request) → ¬ Lone (C b) r
not_lone_on_c b r h = elim h [ ]

-- and no other kind of request does
packet_nowhere : (d : Device) (x y : ℕ) (a : CounterSet) (k : ℕ) → ¬ RunsOn d (Packet x y a) k
packet_nowhere d x y a k h = elim h [ ]

offcore_nowhere : (d : Device) (w : ℕ) (a : CounterSet) (k : ℕ) → ¬ RunsOn d (Offcore w a) k
offcore_nowhere d w a k h = elim h [ ]

latency_nowhere : (d : Device) (t : ℕ) (a b : CounterSet) (k : ℕ) → ¬ RunsOn d (Latency t a b) k
latency_nowhere d t a b k h = elim h [ ]

packet_not_lone : (d : Device) (x y : ℕ) (a : CounterSet) → ¬ Lone d (Packet x y a)
packet_not_lone d x y a h = elim h [ ]

offcore_not_lone : (d : Device) (w : ℕ) (a : CounterSet) → ¬ Lone d (Offcore w a)
offcore_not_lone d w a h = elim h [ ]

latency_not_lone : (d : Device) (t : ℕ) (a b : CounterSet) → ¬ Lone d (Latency t a b)
latency_not_lone d t a b h = elim h [ ]

-- the rule of a request says what the order does
pub rule_says : (d : Device) (r : Request) → Says d r (rule_for d r)
unfolding rule_for rule_of has_rules
rule_says G (Event c m a) = nothing (nowhere_on_g _) (not_lone_on_g _)
rule_says S (Event c m a) = nothing (nowhere_on_s _) (not_lone_on_s _)
rule_says (C b) (Event c m a) = nothing (nowhere_on_c b _) (not_lone_on_c b _)
rule_says B (Event c m a) = event_says c m a
rule_says d (Packet x y a) = nothing (packet_nowhere d x y a) (packet_not_lone d x y a)
rule_says d (Offcore w a) = nothing (offcore_nowhere d w a) (offcore_not_lone d w a)
rule_says d (Latency t a b) = nothing (latency_nowhere d t a b) (latency_not_lone d t a b)

anywhere_says : (d : Device) (r : Request) → Says d r Anywhere → (k : ℕ) → ¬ RunsOn d r k
anywhere_says d r (nothing n l) = n

only_says : (d : Device) (r : Request) (k : ℕ) → Says d r (OnlyOn k) → RunsOn d r k × (¬ Lone d r)
only_says d r k (only h l) = (h, l)

alone_says : (d : Device) (r : Request) (k : ℕ) → Says d r (AloneOn k) → RunsOn d r k × Lone d r
alone_says d r k (alone h l) = (h, l)

-- and a request of which the order says it has that rule
free_anywhere : (d : Device) (r : Request) (x : EventRule) → Says d r x → ((k : ℕ) → ¬ RunsOn d r k) → x ≡ Anywhere
free_anywhere d r x (nothing n l) none = refl
free_anywhere d r x (only {k = k} h l) none = absurd (none k h)
free_anywhere d r x (alone {k = k} h l) none = absurd (none k h)

runs_only : (d : Device) (r : Request) (k : ℕ) → RunsOn d r k → ¬ Lone d r → rule_for d r ≡ OnlyOn k
unfolding rule_for rule_of has_rules rule_on_b both
runs_only d r k instructions n = absurd (n pdir)
runs_only d r k stores n = refl

runs_alone : (d : Device) (r : Request) (k : ℕ) → RunsOn d r k → Lone d r → rule_for d r ≡ AloneOn k
unfolding rule_for rule_of has_rules rule_on_b both
runs_alone d r k instructions l = refl
runs_alone d r k (stores {a = a}) l = absurd (stores_not_lone a l)

quiet_says : (d : Device) (r : Request) (x : EventRule) → Says d r x → wants_quiet x ≡ true → Lone d r
unfolding wants_quiet
quiet_says d r x (nothing n l) h = absurd (false≢true h)
quiet_says d r x (only k l) h = absurd (false≢true h)
quiet_says d r x (alone k l) h = l

lone_quiet : (d : Device) (r : Request) → Lone d r → wants_quiet (rule_for d r) ≡ true
unfolding rule_for rule_of has_rules rule_on_b wants_quiet both
lone_quiet d r pdir = refl

-- ---- devices without rules

lone_runs_lem : (d : Device) (r : Request) → Lone d r → (k : ℕ) × RunsOn d r k
lone_runs_lem d r pdir = (1, instructions)

no_rules : (d : Device) → has_rules d ≡ false → Unruled d
unfolding has_rules
no_rules d e r k instructions = true≢false e
no_rules d e r k stores = true≢false e

rules_none : (d : Device) → Unruled d → has_rules d ≡ false
unfolding has_rules
rules_none G n = refl
rules_none S n = refl
rules_none (C b) n = refl
rules_none B n = absurd (n (Event 0xC0 0x01 (record { 0 = 0 })) 1 instructions)

elsewhere : (d : Device) → ¬ (d ≡ B) → Unruled d
elsewhere d n r k instructions = n refl
elsewhere d n r k stores = n refl

-- ---- the pairs of B

pairs_joined : (es fs : List ListedEvent) (c m : ℕ) → pair_in (es ++ fs) c m ≡ either (pair_in es c m) (pair_in fs c m)
unfolding pair_in either
pairs_joined [] fs c m = refl
pairs_joined (e ∷ es) fs c m =
    let here = both (eqb c e.code) (allows e.masks m) in
    ap (either here) (pairs_joined es fs c m) ∙ sym (either_assoc here (pair_in es c m) (pair_in fs c m))

precise_runs : (c m : ℕ) (a : CounterSet) → pair_in precise_events c m ≡ true → (k : ℕ) × RunsOn B (Event c m a) k
unfolding pair_in precise_events allows
precise_runs c m a h = ⊎_elim first second (either_cases (is_instructions c m) _ h)
  where
    first : is_instructions c m ≡ true → (k : ℕ) × RunsOn B (Event c m a) k
    first e = let p = both_parts _ _ e in rw (eqb-true c 0xC0 p.0, eqb-true m 0x01 p.1) (1, instructions)

    second : either (is_stores c m) false ≡ true → (k : ℕ) × RunsOn B (Event c m a) k
    second f = let p = both_parts _ _ (sym (either_false _) ∙ f) in rw (eqb-true c 0xCD p.0, eqb-true m 0x02 p.1) (3, stores)

runs_precise : (c m : ℕ) (a : CounterSet) (k : ℕ) → RunsOn B (Event c m a) k → pair_in precise_events c m ≡ true
unfolding pair_in precise_events allows both either
runs_precise c m a k instructions = refl
runs_precise c m a k stores = refl

pairs_b : (c m : ℕ) → pair_in (events_of B) c m ≡ either (pair_in (events_of G) c m) (pair_in precise_events c m)
unfolding events_of
pairs_b c m = pairs_joined architectural_events precise_events c m

two_more_to : (c m : ℕ) (a : CounterSet) → pair_in (events_of B) c m ≡ true → (pair_in (events_of G) c m ≡ true) ⊎ ((k : ℕ) × RunsOn B (Event c m a) k)
two_more_to c m a h = ⊎_elim inl (λ t. inr (precise_runs c m a t)) (either_cases _ _ (sym (pairs_b c m) ∙ h))

two_more_from : (c m : ℕ) (a : CounterSet) → (pair_in (events_of G) c m ≡ true) ⊎ ((k : ℕ) × RunsOn B (Event c m a) k) → pair_in (events_of B) c m ≡ true
two_more_from c m a (inl h) = pairs_b c m ∙ either_left _ _ h
two_more_from c m a (inr (k, h)) = pairs_b c m ∙ either_right _ _ (runs_precise c m a k h)

pub ruled_events : RuledEvents
ruled_events =
    record {
      anywhere = λ d r. (λ h. anywhere_says d r (subst (Says d r) h (rule_says d r)), free_anywhere d r (rule_for d r) (rule_says d r));
      only_on = λ d r k. (λ h. only_says d r k (subst (Says d r) h (rule_says d r)), λ h. runs_only d r k h.0 h.1);
      alone_on = λ d r k. (λ h. alone_says d r k (subst (Says d r) h (rule_says d r)), λ h. runs_alone d r k h.0 h.1);
      quiet = λ d r. (quiet_says d r (rule_for d r) (rule_says d r), lone_quiet d r);
      counted = lone_runs_lem;
      unruled = λ d. (no_rules d, rules_none d);
      elsewhere = elsewhere;
      two_more = λ c m a. (two_more_to c m a, two_more_from c m a);
    }
