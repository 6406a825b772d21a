-- The rules of events, as the search keeps them: a plan of the narrowed requests is one in which each request is at its counter, and `quietKept` says that
-- a lone request is alone and all counters are usable. Assumes nothing.
use mathlib.Core.Path.{◌≡◌, refl, ap, ap₂, sym, ◌∙◌}
use mathlib.Core.Logic.{⊎_elim}
use mathlib.Core.Bool.{Bool, true, false, not, false≢true}
use mathlib.Core.List.{List, [], ◌∷◌, ◌++◌, map, flat_map, Memᴰ}
use Prim.Native.Nat.{ℕ, ◌-◌, ◌^◌}
use native.Mathlib.Decide.{ℕ_discrete}
use native.Mathlib.Omega.{arith}
use lib.Dec.{eqb}
use lib.ListN.{length}
use borrow.Author.Tests.{eqb-true, eq-eqb, not-true}
use Rattle.requests.specs.declared.CounterSet.{CounterSet}
use Rattle.requests.specs.declared.Device.{Device}
use Rattle.requests.specs.declared.EventRule.{EventRule}
use Rattle.requests.specs.declared.EventRule.TheVariants.{Anywhere}
use Rattle.requests.specs.declared.Request.{Request}
use Rattle.requests.specs.declared.Request.TheVariants.{Event, Packet, Offcore, Latency}
use Rattle.requests.specs.declared.Setup.{Setup}
use Rattle.requests.specs.Choice.{both, either, pick}
use Rattle.requests.specs.Devices.{has, all_counters}
use Rattle.requests.specs.EventRules.{rule_of, rule_for, wants_quiet}
use Rattle.requests.specs.RuledEvents.{RunsOn, instructions, stores, Lone, Unruled}
use Rattle.requests.proofs.RuledEvents.{Says, nothing, only, alone, rule_says, ruled_events}
use Rattle.requests.proofs.Tests.{both_ways, both_parts, true_both, either_cases, either_left, either_right}
use Rattle.plans.specs.declared.Place.{Place}
use Rattle.plans.specs.declared.Place.TheVariants.{Counter}
use Rattle.plans.specs.Lists.{Each, none, and}
use Rattle.plans.specs.Places.{first}
use Rattle.plans.specs.Legal.{Allowed, event, packet, offcore, latency, Ruled, words_of, packets_of, of_all, Legal}
use Rattle.plans.specs.Narrowed.{only_counter, allowed_by, narrowed, any_lone, quiet_kept}
use Rattle.plans.proofs.Sets.{no_bit, own_bit, has_other}
use Rattle.plans.proofs.Fits.{Fits}

-- ---- one counter of a set

has_only : (j : ℕ) (a : CounterSet) → has a j ≡ true → has (only_counter j a) j ≡ true
unfolding only_counter has
has_only j a h = rw h (own_bit j)

-- a set of one counter has no other
one_counter : (j k : ℕ) → has (record { 0 = 2 ^ j }) k ≡ true → k ≡ j
unfolding has
one_counter j k h = go (ℕ_discrete j k)
  where
    go : Dec (j ≡ k) → k ≡ j
    go (yes e) = sym e
    go (no n) =
        let left : has (record { 0 = 2 ^ j - 2 ^ j }) k ≡ true = has_other (record { 0 = 2 ^ j }) j k (own_bit j) n ∙ h in
        let none_left : 2 ^ j - 2 ^ j ≡ 0 = omega arith in
        absurd (no_bit k (rw none_left at left))

only_has : (j k : ℕ) (a : CounterSet) → has (only_counter j a) k ≡ true → (k ≡ j) × (has a k ≡ true)
unfolding only_counter has
only_has j k a h = go (has a j) refl h
  where
    go : (b : Bool) → has a j ≡ b → has (record { 0 = pick b (2 ^ j) 0 }) k ≡ true → (k ≡ j) × (has a k ≡ true)
    go true e g = let is = one_counter j k g in (is, rw is e)
    go false e g = absurd (no_bit k g)

-- ---- one request

counter_is : (k j : ℕ) → Counter k ≡ Counter j → k ≡ j
unfolding first
counter_is k j e = ap first e

-- the counter on which a request runs is one alone
pub runs_one : (d : Device) (r : Request) (j k : ℕ) → RunsOn d r j → RunsOn d r k → j ≡ k
runs_one d r j k instructions instructions = refl
runs_one d r j k stores stores = refl

module _ (d : Device) (c m : ℕ) (a : CounterSet) (k : ℕ) where
  rule_keeps : (x : EventRule) → Says d (Event c m a) x → has a k ≡ true → Ruled d (Event c m a) (Counter k) → has (allowed_by x a) k ≡ true
  unfolding allowed_by
  rule_keeps x (nothing n l) h at = h
  rule_keeps x (only {k = j} runs l) h at = let is = counter_is k j (at j runs) in rw is (has_only j a (rw is at h))
  rule_keeps x (alone {k = j} runs l) h at = let is = counter_is k j (at j runs) in rw is (has_only j a (rw is at h))

  keeps_rule : (x : EventRule) → Says d (Event c m a) x → has (allowed_by x a) k ≡ true → (has a k ≡ true) × Ruled d (Event c m a) (Counter k)
  unfolding allowed_by
  keeps_rule x (nothing n l) h = (h, λ i runs. absurd (n i runs))
  keeps_rule x (only {k = j} runs l) h = let o = only_has j k a h in (o.1, λ i r. ap Counter (o.0 ∙ runs_one d (Event c m a) j i runs r))
  keeps_rule x (alone {k = j} runs l) h = let o = only_has j k a h in (o.1, λ i r. ap Counter (o.0 ∙ runs_one d (Event c m a) j i runs r))

-- the rule of an event says what the order does
event_says : (d : Device) (c m : ℕ) (a : CounterSet) → Says d (Event c m a) (rule_of d c m)
unfolding rule_for
event_says d c m a = rule_says d (Event c m a)

allowed_narrowed : (d : Device) (r : Request) (p : Place) → Allowed r p → Ruled d r p → Allowed (narrowed d r) p
unfolding narrowed
allowed_narrowed d r p (event {c = c} {m = m} {a = a} {k = k} h) at = event (rule_keeps d c m a k (rule_of d c m) (event_says d c m a) h at)
allowed_narrowed d r p (packet h) at = packet h
allowed_narrowed d r p (offcore h l) at = offcore h l
allowed_narrowed d r p (latency h l) at = latency h l

-- only events have a rule
packet_free : (d : Device) (x y : ℕ) (a : CounterSet) (p : Place) → Ruled d (Packet x y a) p
packet_free d x y a p k h = elim h [ ]

offcore_free : (d : Device) (w : ℕ) (a : CounterSet) (p : Place) → Ruled d (Offcore w a) p
offcore_free d w a p k h = elim h [ ]

latency_free : (d : Device) (t : ℕ) (a b : CounterSet) (p : Place) → Ruled d (Latency t a b) p
latency_free d t a b p k h = elim h [ ]

narrowed_allowed : (d : Device) (r : Request) (p : Place) → Allowed (narrowed d r) p → Allowed r p × Ruled d r p
unfolding narrowed
narrowed_allowed d (Event c m a) p (event {k = k} h) = let o = keeps_rule d c m a k (rule_of d c m) (event_says d c m a) h in (event o.0, o.1)
narrowed_allowed d (Packet x y a) p (packet h) = (packet h, packet_free d x y a p)
narrowed_allowed d (Offcore w a) p (offcore h l) = (offcore h l, offcore_free d w a p)
narrowed_allowed d (Latency t a b) p (latency h l) = (latency h l, latency_free d t a b p)

-- it asks for the same words
narrowed_words : (d : Device) (i : ℕ) (r : Request) (p : Place) → words_of i (narrowed d r) p ≡ words_of i r p
unfolding narrowed words_of
narrowed_words d i (Event c m a) p = refl
narrowed_words d i (Packet x y a) p = refl
narrowed_words d i (Offcore w a) p = refl
narrowed_words d i (Latency t a b) p = refl

narrowed_packets : (d : Device) (r : Request) → packets_of (narrowed d r) ≡ packets_of r
unfolding narrowed packets_of
narrowed_packets d (Event c m a) = refl
narrowed_packets d (Packet x y a) = refl
narrowed_packets d (Offcore w a) = refl
narrowed_packets d (Latency t a b) = refl

-- ---- all requests

module _ (d : Device) where
  each_narrowed : {rs : List Request} {ps : List Place} → Each Allowed rs ps → Each (Ruled d) rs ps → Each Allowed (map (narrowed d) rs) ps
  each_narrowed none none = none
  each_narrowed (and {a = r} {b = p} h hs) (and g gs) = and (allowed_narrowed d r p h g) (each_narrowed hs gs)

  narrowed_each : (rs : List Request) {ps : List Place} → Each Allowed (map (narrowed d) rs) ps → Each Allowed rs ps × Each (Ruled d) rs ps
  narrowed_each [] none = (none, none)
  narrowed_each (r ∷ rs) (and {b = p} h hs) =
      let here = narrowed_allowed d r p h in
      let rest = narrowed_each rs hs in
      (and here.0 rest.0, and here.1 rest.1)

  words_narrowed : (i : ℕ) (rs : List Request) (ps : List Place) → of_all (words_of i) (map (narrowed d) rs) ps ≡ of_all (words_of i) rs ps
  unfolding of_all
  words_narrowed i [] ps = refl
  words_narrowed i (r ∷ rs) [] = refl
  words_narrowed i (r ∷ rs) (p ∷ ps) = ap₂ (λ (l m : List ℕ). l ++ m) (narrowed_words d i r p) (words_narrowed i rs ps)

  packets_narrowed : (rs : List Request) → flat_map packets_of (map (narrowed d) rs) ≡ flat_map packets_of rs
  unfolding flat_map
  packets_narrowed [] = refl
  packets_narrowed (r ∷ rs) = ap₂ (λ (l m : List (ℕ × ℕ)). l ++ m) (narrowed_packets d r) (packets_narrowed rs)

-- ---- lone requests

lone_in : (d : Device) (rs : List Request) → any_lone d rs ≡ true → (r : Request) × Memᴰ r rs × Lone d r
unfolding any_lone
lone_in d [] h = absurd (false≢true h)
lone_in d (r ∷ rs) h =
    ⊎_elim (λ t. (r, Memᴰ.head refl, (ruled_events.quiet d r).0 t)) (λ t. let f = lone_in d rs t in (f.0, Memᴰ.tail f.1, f.2)) (either_cases _ _ h)

lone_any : (d : Device) (rs : List Request) (r : Request) → Memᴰ r rs → Lone d r → any_lone d rs ≡ true
unfolding any_lone
lone_any d (q ∷ rs) r (Memᴰ.head e) l = either_left _ _ (ap (λ (x : Request). wants_quiet (rule_for d x)) (sym e) ∙ (ruled_events.quiet d r).1 l)
lone_any d (q ∷ rs) r (Memᴰ.tail m) l = either_right _ _ (lone_any d rs r m l)
lone_any d [] r x'' l = elim x'' [ ]

-- the one element of a list is the whole list
only_member : (rs : List Request) (r : Request) → length rs ≡ 1 → Memᴰ r rs → rs ≡ r ∷ []
only_member (q ∷ []) r e (Memᴰ.head h) = ap (λ (x : Request). x ∷ []) (sym h)
only_member (q ∷ p ∷ rs) r e m = absurd (omega arith)
only_member [] r e m = elim m [ ]
only_member (q ∷ []) r e (mathlib.Core.List.Memᴰ.tail x10) = elim x10 [ ]

-- no request is lone but where it is alone and all counters are usable
abbrev Quiet : Setup → List Request → Type 0
Quiet s rs = (r : Request) → Memᴰ r rs → Lone s.device r → (rs ≡ r ∷ []) × (s.usable.0 ≡ all_counters s.device)

kept_quiet : (s : Setup) (rs : List Request) → quiet_kept s rs ≡ true → Quiet s rs
unfolding quiet_kept
kept_quiet s rs h r m l = ⊎_elim (λ t. absurd (both_ways (lone_any s.device rs r m l) (not-true _ t))) fits (either_cases _ _ h)
  where
    fits : both (eqb (length rs) 1) (eqb s.usable.0 (all_counters s.device)) ≡ true → (rs ≡ r ∷ []) × (s.usable.0 ≡ all_counters s.device)
    fits t = let p = both_parts _ _ t in (only_member rs r (eqb-true (length rs) 1 p.0) m, eqb-true s.usable.0 (all_counters s.device) p.1)

quiet_kept_lem : (s : Setup) (rs : List Request) → Quiet s rs → quiet_kept s rs ≡ true
unfolding quiet_kept
quiet_kept_lem s rs q = go (any_lone s.device rs) refl
  where
    go : (b : Bool) → any_lone s.device rs ≡ b → either (not b) (both (eqb (length rs) 1) (eqb s.usable.0 (all_counters s.device))) ≡ true
    go false e = either_left _ _ refl
    go true e =
        let found = lone_in s.device rs e in
        let fits = q found.0 found.1 found.2 in
        either_right _ _ (true_both _ _ (eq-eqb (length rs) 1 (ap length fits.0)) (eq-eqb s.usable.0 (all_counters s.device) fits.1))

-- ---- plans

pub legal_narrowed : (s : Setup) (rs : List Request) (ps : List Place) → Legal s rs ps → (quiet_kept s rs ≡ true) × Fits s (map (narrowed s.device) rs) ps
legal_narrowed s rs ps l = (
  quiet_kept_lem s rs (λ r m lone. (l.alone r m lone, l.quiet r m lone)),
  record {
    differ = l.differ;
    usable_only = l.usable_only;
    allowed = each_narrowed s.device l.allowed l.ruled;
    one_word = λ i b. rw (words_narrowed s.device i rs ps) (l.one_word i b);
    one_packet = rw (packets_narrowed s.device rs) l.one_packet;
  },
)

pub narrowed_legal : (s : Setup) (rs : List Request) (ps : List Place) → quiet_kept s rs ≡ true → Fits s (map (narrowed s.device) rs) ps → Legal s rs ps
narrowed_legal s rs ps h f =
    let each = narrowed_each s.device rs f.allowed in
    let quiet = kept_quiet s rs h in
    record {
      differ = f.differ;
      usable_only = f.usable_only;
      allowed = each.0;
      one_word = λ i b. rw (← words_narrowed s.device i rs ps) (f.one_word i b);
      one_packet = rw (← packets_narrowed s.device rs) f.one_packet;
      ruled = each.1;
      alone = λ r m l. (quiet r m l).0;
      quiet = λ r m l. (quiet r m l).1;
    }

-- ---- devices without rules

free_narrowed : (d : Device) (r : Request) → rule_for d r ≡ Anywhere → narrowed d r ≡ r
unfolding narrowed rule_for allowed_by
free_narrowed d (Event c m a) e = ap (λ (x : EventRule). Event c m (allowed_by x a)) e
free_narrowed d (Packet x y a) e = refl
free_narrowed d (Offcore w a) e = refl
free_narrowed d (Latency t a b) e = refl

module _ (s : Setup) (free : Unruled s.device) where
  pub never_lone : (r : Request) → ¬ Lone s.device r
  never_lone r l = let c = ruled_events.counted s.device r l in free r c.0 c.1

  unruled_each : {rs : List Request} {ps : List Place} → Each Allowed rs ps → Each (Ruled s.device) rs ps
  unruled_each none = none
  unruled_each (and {a = r} h hs) = and (λ k runs. absurd (free r k runs)) (unruled_each hs)

  -- what fits is legal
  pub fits_legal : (rs : List Request) (ps : List Place) → Fits s rs ps → Legal s rs ps
  fits_legal rs ps f = record {
    differ = f.differ;
    usable_only = f.usable_only;
    allowed = f.allowed;
    one_word = f.one_word;
    one_packet = f.one_packet;
    ruled = unruled_each f.allowed;
    alone = λ r m l. absurd (never_lone r l);
    quiet = λ r m l. absurd (never_lone r l);
  }

  -- and the search is given the requests as they are
  pub all_kept : (rs : List Request) → quiet_kept s rs ≡ true
  all_kept rs = quiet_kept_lem s rs (λ r m l. absurd (never_lone r l))

  pub unnarrowed : (rs : List Request) → map (narrowed s.device) rs ≡ rs
  unnarrowed [] = refl
  unnarrowed (r ∷ rs) = ap₂ (λ (x : Request) (xs : List Request). x ∷ xs) (same r) (unnarrowed rs)
    where
      same : (q : Request) → narrowed s.device q ≡ q
      same q = free_narrowed s.device q ((ruled_events.anywhere s.device q).1 (free q))
