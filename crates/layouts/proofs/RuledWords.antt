-- The rules of events: a legal plan's control words keep them, and a plan whose control words keep them is legal as to them. Assumes nothing.
--     unruled                 a device without rules has none to keep
--     rules-kept              the words of a legal plan pass the reader's test of rules
--     RulesKept, rules-of     what Legal asks of them, of a plan whose words pass it
--     no-rules                where no request has a rule, nothing
use mathlib.Core.Path.{◌≡◌, refl, sym, ap, ap₂, subst, ◌∙◌}
use mathlib.Core.Logic.{◌≢◌, ⊎_elim}
use mathlib.Core.Bool.{true, false}
use mathlib.Core.List.Memᴰ
use mathlib.Core.List.{List, [], ◌∷◌, ◌++◌, flat_map, Memᴰ}
use Prim.Native.Nat.{ℕ, ◌≤◌, ◌<◌}
use native.Mathlib.Nat.{le_refl}
use native.Mathlib.Decide.{ℕ_discrete}
use native.Mathlib.Omega.{arith}
use borrow.Author.Tests.{eqb-true, eq-eqb}
use lib.Dec.{eqb}
use lib.ListN.{length, length-append}
use Rattle.requests.specs.Choice.{both, either, every}
use Rattle.requests.specs.declared.CounterSet.{CounterSet}
use Rattle.requests.specs.declared.Device.{Device}
use Rattle.requests.specs.declared.Device.TheVariants.{G, S, C, B}
use Rattle.requests.specs.declared.EventRule.{EventRule}
use Rattle.requests.specs.declared.Setup.{Setup}
use Rattle.requests.specs.declared.Request.{Request}
use Rattle.requests.specs.declared.Request.TheVariants.{Event}
use Rattle.requests.specs.Devices.{counter_count, all_counters}
use Rattle.requests.specs.Catalogue.{events_of, pair_in}
use Rattle.requests.specs.EventRules.{rule_on_b, has_rules, rule_of, rule_for}
use Rattle.requests.specs.RuledEvents.{RunsOn, instructions, stores, Lone, pdir}
use Rattle.requests.specs.WellFormedRequests.{Described, event}
use Rattle.requests.proofs.RuledEvents.{Says, nothing, only, alone, rule_says, ruled_events}
use Rattle.requests.proofs.Tests.{both_parts, true_both, either_cases, either_left, either_right, every_true, every_at}
use Rattle.plans.specs.declared.Place.{Place}
use Rattle.plans.specs.declared.Place.TheVariants.{Counter, WithRsp, Pair}
use Rattle.plans.specs.Lists.{All, nil, cons, Pairwise, empty, add, Each, none, and}
use Rattle.plans.specs.Places.{counted_of, counters_of}
use Rattle.plans.specs.Legal.{Allowed, Ruled, Usable, Legal, counters}
use Rattle.plans.specs.Legal as plans
use Rattle.layouts.specs.Layout.{event_word, code_of, mask_of}
use Rattle.layouts.specs.Settings.{word_at}
use Rattle.layouts.specs.Read.{others_off, may_run, rule_fits}
use Rattle.layouts.proofs.ListLaws.{all_member}
use Rattle.layouts.proofs.UsableSets.{on}
use Rattle.layouts.proofs.ControlWords.{listed, word_parts}
use Rattle.layouts.proofs.PlanWords.{uses_in}
use Rattle.layouts.proofs.PlanFilters.{b_not_g, b_not_s, c_not_b}
use Rattle.layouts.proofs.BuiltPlans.{Built}
use Rattle.layouts.proofs.PlacedEvents.{Given, given_member, member_given, given_counter, each_given, each_of, one_place, Counted, word_given, given_word}

pub counter_path : (j k : ℕ) → Counter j ≡ Counter k → j ≡ k
counter_path j k e = cc

-- ---- a legal plan's words

-- a device without rules
pub unruled : (d : Device) (u : Setup) (f : ℕ → ℕ) (k : ℕ) → has_rules d ≡ false → rule_fits (on d u) f k ≡ true
unfolding rule_fits may_run rule_of
unruled d u f k h = rw h

module _ (u : Setup) (rs : List Request) (ps : List Place) (described : All (Described (on B u)) rs) (legal : Legal (on B u) rs ps) where
  abbrev s : Setup
  s = on B u

  abbrev us : List (ℕ × ℕ)
  us = uses_in (on B u) rs ps

  -- beside the only request every other counter is off
  others_off_lem : (r : Request) (k : ℕ) → Given r (Counter k) rs ps → rs ≡ r ∷ [] → (i : ℕ) → either (eqb i k) (eqb (word_at us i) 0) ≡ true
  others_off_lem r k g single i =
      elim (ℕ_discrete i k) [
        | yes e ↦ either_left _ _ (eq-eqb i k e)
        | no o ↦ either_right _ _
            (⊎_elim (λ z. eq-eqb _ _ z)
            (λ (c : Counted s b_not_g b_not_s rs ps i (word_at us i)).
            absurd (o (sym (counter_path k i (one_place (subst (λ (l : List Request). Given r (Counter k) l ps) single g) (subst (λ (l : List Request). Given (Event c.code c.mask c.set) (Counter i) l ps) single c.given))))))
            (word_given s b_not_g b_not_s described legal.allowed i))
      ]

  -- a counter that is off has no rule to keep
  zero_free : (k : ℕ) → may_run s (word_at us) k (rule_of B (code_of 0) (mask_of 0)) ≡ true
  unfolding may_run rule_of has_rules rule_on_b code_of mask_of both
  zero_free k = refl

  event_kept : (c m : ℕ) (a : CounterSet) (k : ℕ) (rule : EventRule) → Given (Event c m a) (Counter k) rs ps → Says B (Event c m a) rule → may_run s (word_at us) k rule ≡ true
  unfolding may_run others_off
  event_kept c m a k rule g (nothing n l) = refl
  event_kept c m a k rule g (only {k = j} runs l) = eq-eqb k j (counter_path k j (each_given legal.ruled g j runs))
  event_kept c m a k rule g (alone {k = j} runs l) =
      let r = Event c m a in
      true_both _ _ (eq-eqb k j (counter_path k j (each_given legal.ruled g j runs)))
      (true_both _ _ (eq-eqb _ _ (legal.quiet r (given_member g) l))
      (every_true (counter_count B) (λ i. either (eqb i k) (eqb (word_at us i) 0)) (λ i b. others_off_lem r k g (legal.alone r (given_member g) l) i)))

  word_kept : (k : ℕ) → rule_fits s (word_at us) k ≡ true
  unfolding rule_fits rule_for
  word_kept k =
      ⊎_elim
      (λ z. ap (λ (w : ℕ). may_run s (word_at us) k (rule_of B (code_of w) (mask_of w))) z ∙ zero_free k)
      (λ (c : Counted s b_not_g b_not_s rs ps k (word_at us k)).
      let l = listed B c.code c.mask c.listed in
      let p = word_parts s c.code c.mask l.code l.mask in
      ap (λ (w : ℕ). may_run s (word_at us) k (rule_of B (code_of w) (mask_of w))) c.word
      ∙ ap₂ (λ (x y : ℕ). may_run s (word_at us) k (rule_of B x y)) p.code p.mask
      ∙ event_kept c.code c.mask c.set k (rule_of B c.code c.mask) c.given (rule_says B (Event c.code c.mask c.set)))
      (word_given s b_not_g b_not_s described legal.allowed k)

-- on every device
pub rules_kept : (d : Device) (u : Setup) (rs : List Request) (ps : List Place) → All (Described (on d u)) rs → Legal (on d u) rs ps
    → every (counter_count d) (rule_fits (on d u) (word_at (uses_in (on d u) rs ps))) ≡ true
unfolding has_rules
rules_kept d u rs ps f legal = every_true (counter_count d) (rule_fits (on d u) (word_at (uses_in (on d u) rs ps))) (λ k l. go d f legal k)
  where
    go : (d : Device) → All (Described (on d u)) rs → Legal (on d u) rs ps → (k : ℕ) → rule_fits (on d u) (word_at (uses_in (on d u) rs ps)) k ≡ true
    go G f legal k = unruled G u (word_at (uses_in (on G u) rs ps)) k refl
    go S f legal k = unruled S u (word_at (uses_in (on S u) rs ps)) k refl
    go (C b) f legal k = unruled (C b) u (word_at (uses_in (on (C b) u) rs ps)) k refl
    go B f legal k = word_kept u rs ps f legal k

-- ---- a plan whose words keep the rules

-- what a legal plan is asked for rules
pub record RulesKept (s : Setup) (rs : List Request) (ps : List Place) : Type 0 where
  pub ruled : Each (Ruled s.device) rs ps
  pub alone : (r : Request) → Memᴰ r rs → Lone s.device r → rs ≡ r ∷ []
  pub quiet : (r : Request) → Memᴰ r rs → Lone s.device r → s.usable.0 ≡ all_counters s.device

-- nothing, where no request has a rule
pub no_rules : (s : Setup) {rs : List Request} {ps : List Place} → ((r : Request) → Memᴰ r rs → (k : ℕ) → ¬ RunsOn s.device r k) → Each Allowed rs ps → RulesKept s rs ps
no_rules s free es =
    let never : (r : Request) → Memᴰ r _ → Lone s.device r → ⊥ = λ r m l. let h = ruled_events.counted s.device r l in free r m h.0 h.1 in
    record {
      ruled = each_of (Ruled s.device) es (λ r p g k runs. absurd (free r (given_member g) k runs));
      alone = λ r m l. absurd (never r m l);
      quiet = λ r m l. absurd (never r m l);
    }

-- different counters that are all the same are at most one
one_counter : {ks : List ℕ} (k : ℕ) → Pairwise ◌≢◌ ks → All (λ (i : ℕ). i ≡ k) ks → length ks ≤ 1
one_counter k empty h = omega arith
one_counter k (add nil d) h = elim d [ empty ↦ le_refl 1 ]
one_counter k (add (cons d ds) e) (cons h (cons g hs)) = absurd (d (h ∙ sym g))

counter_some : (p : Place) → 1 ≤ length (counters_of p)
unfolding counters_of counted_of
counter_some (Counter k) = le_refl 1
counter_some (WithRsp k i) = le_refl 1
counter_some (Pair j k) = omega arith

-- where all are on one counter, there is one request
one_request : {rs : List Request} {ps : List Place} (r : Request) → Each Allowed rs ps → length (counters ps) ≤ 1 → Memᴰ r rs → rs ≡ r ∷ []
unfolding counters flat_map
one_request r none few m = absurd (Memᴰ.not-nil m)
one_request r (and a none) few m = ap (λ (y : Request). y ∷ []) (sym (Memᴰ.eq_of_singleton m))
one_request r (and {b = p} a (and {b = q} {t = ps} b es)) few m =
    absurd (omega (
      arith,
      counter_some p,
      counter_some q,
      length-append (counters_of p) (counters_of q ++ flat_map counters_of ps),
      length-append (counters_of q) (flat_map counters_of ps),
    ))

event_listed : (s : Setup) {c m : ℕ} {a : CounterSet} → Described s (Event c m a) → pair_in (events_of s.device) c m ≡ true
event_listed s (event h l) = h

all_both : {P Q R : ℕ → Type 0} {ks : List ℕ} → ((k : ℕ) → P k → Q k → R k) → All P ks → All Q ks → All R ks
all_both h nil nil = nil
all_both h (cons {a = k} p ps) (cons q qs) = cons (h k p q) (all_both h ps qs)

-- a plan with the control words f, which pass the test
module _ (u : Setup) (a b : ℕ) (q : ℕ × ℕ) (f : ℕ → ℕ) (built : Built (on B u) a b q f) (kept : (k : ℕ) → k < counter_count B → rule_fits (on B u) f k ≡ true) where
  abbrev rs : List Request
  rs = built.requests

  abbrev ps : List Place
  ps = built.places

  -- the counters of the plan are the device's
  below : {r : Request} (k : ℕ) → Given r (Counter k) rs ps → k < counter_count B
  below k g = (all_member {P = Usable (on B u)} built.usable_only (given_counter g)).0

  -- the rule of an event at its counter
  rule_at_lem : (c m : ℕ) (x : CounterSet) (k : ℕ) → Given (Event c m x) (Counter k) rs ps → k < counter_count B → may_run (on B u) f k (rule_of B c m) ≡ true
  unfolding rule_fits
  rule_at_lem c m x k g l =
      let word : f k ≡ event_word (on B u) c m = sym (built.words k) ∙ given_word (on B u) b_not_g b_not_s built.described built.allowed built.differ g in
      let n = listed B c m (event_listed (on B u) (all_member built.described (given_member g))) in
      let p = word_parts (on B u) c m n.code n.mask in
      sym (ap (λ (w : ℕ). may_run (on B u) f k (rule_of B (code_of w) (mask_of w))) word
      ∙ ap₂ (λ (y z : ℕ). may_run (on B u) f k (rule_of B y z)) p.code p.mask)
      ∙ kept k l

  -- a request that runs on one counter is there
  placed : (r : Request) (p : Place) → Given r p rs ps → (k : ℕ) → RunsOn B r k → p ≡ Counter k
  unfolding may_run rule_of has_rules rule_on_b both
  placed r p g k runs = go runs g (each_given built.allowed g)
    where
      go : {r : Request} {p : Place} {k : ℕ} → RunsOn B r k → Given r p rs ps → Allowed r p → p ≡ Counter k
      go (instructions {a = x}) g (plans.event {k = j} h) = ap Counter (eqb-true j 1 (both_parts _ _ (rule_at_lem 0xC0 0x01 x j g (below j g))).0)
      go (stores {a = x}) g (plans.event {k = j} h) = ap Counter (eqb-true j 3 (rule_at_lem 0xCD 0x02 x j g (below j g)))

  -- a request that wants every other counter quiet: all are usable, and the plan has no other counter
  record Quieted (k : ℕ) : Type 0 where
    pub usable : u.usable.0 ≡ all_counters B
    pub only : All (λ (i : ℕ). i ≡ k) (counters ps)

  pdir_rule : (x : CounterSet) → Given (Event 0xC0 0x01 x) (Counter 1) rs ps → both (eqb u.usable.0 (all_counters B)) (others_off (on B u) f 1) ≡ true
  unfolding may_run rule_of has_rules rule_on_b both
  pdir_rule x g = rule_at_lem 0xC0 0x01 x 1 g (below 1 g)

  pdir_quieted : (x : CounterSet) → Given (Event 0xC0 0x01 x) (Counter 1) rs ps → Quieted 1
  unfolding others_off
  pdir_quieted x g =
      let rule = both_parts _ _ (pdir_rule x g) in
      record {
        usable = eqb-true _ _ rule.0;
        only =
            all_both
            (λ i us on. ⊎_elim (λ e. eqb-true i 1 e) (λ z. absurd (on (eqb-true _ _ z))) (either_cases _ _ (every_at (counter_count B) (λ i. either (eqb i 1) (eqb (f i) 0)) rule.1 i us.0)))
            built.usable_only built.only;
      }

  quieted : (r : Request) → Memᴰ r rs → Lone B r → Quieted 1
  quieted r m lone = go lone (member_given built.allowed m)
    where
      go : {r : Request} → Lone B r → (p : Place) × Given r p rs ps → Quieted 1
      go (pdir {a = x}) found =
          pdir_quieted x (subst (λ (p : Place). Given (Event 0xC0 0x01 x) p rs ps) (placed (Event 0xC0 0x01 x) found.0 found.1 1 instructions) found.1)

  built_rules : RulesKept (on B u) built.requests built.places
  built_rules =
      record {
        ruled = each_of (Ruled B) built.allowed placed;
        alone = λ r m l. one_request r built.allowed (one_counter 1 built.differ (quieted r m l).only) m;
        quiet = λ r m l. (quieted r m l).usable;
      }

-- on every device
pub rules_of : (d : Device) (u : Setup) (a b : ℕ) (q : ℕ × ℕ) (f : ℕ → ℕ) (built : Built (on d u) a b q f) → every (counter_count d) (rule_fits (on d u) f) ≡ true
    → RulesKept (on d u) built.requests built.places
rules_of G u a b q f built h = no_rules (on G u) (λ r m. ruled_events.elsewhere G (λ e. b_not_g (sym e)) r) built.allowed
rules_of S u a b q f built h = no_rules (on S u) (λ r m. ruled_events.elsewhere S (λ e. b_not_s (sym e)) r) built.allowed
rules_of (C b) u x y q f built h = no_rules (on (C b) u) (λ r m. ruled_events.elsewhere (C b) (c_not_b b) r) built.allowed
rules_of B u a b q f built h = built_rules u a b q f built (every_at (counter_count B) (rule_fits (on B u) f) h)
