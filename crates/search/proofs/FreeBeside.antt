-- The counters that a plan leaves free, one place after another, and the least of them that an event allows. Assumes nothing.
use mathlib.Core.Path.{◌≡◌, refl, sym, ◌∙◌, subst}
use mathlib.Core.Logic.{◌≢◌}
use mathlib.Core.List.{List, [], ◌∷◌, ◌++◌, flat_map, Memᴰ}
use mathlib.Core.Bool.{Bool, true, false, not, false≢true}
use Prim.Native.Nat.{ℕ, ◌<◌, ◌≤◌}
use native.Mathlib.Omega.{arith}
use native.Mathlib.Decide.{dec_lt}
use lib.Dec.{eqb}
use Rattle.std.specs.Prelude.{Option, Some, None, is_some, MatchOption, IfSome}
use borrow.Author.Tests.{not-true}
use Rattle.requests.specs.declared.CounterSet.{CounterSet}
use Rattle.requests.specs.declared.Device.{Device}
use Rattle.requests.specs.declared.EventRule.{EventRule}
use Rattle.requests.specs.declared.EventRule.TheVariants.{Anywhere, OnlyOn, AloneOn}
use Rattle.requests.specs.declared.Setup.{Setup}
use Rattle.requests.specs.declared.Request.{Request}
use Rattle.requests.specs.declared.Request.TheVariants.{Event, Packet, Offcore}
use Rattle.requests.specs.Choice.{both, either, pick}
use Rattle.requests.specs.Devices.{has, counter_count}
use Rattle.requests.specs.EventRules.{has_rules, rule_of, rule_for, wants_quiet}
use Rattle.requests.specs.RuledEvents.{RunsOn, Lone, Unruled}
use Rattle.requests.proofs.RuledEvents.{ruled_events}
use Rattle.requests.proofs.Tests.{both_parts}
use Rattle.plans.specs.declared.Place.{Place}
use Rattle.plans.specs.Lists.{All, nil, cons, empty, add, OneValue, none, and}
use Rattle.plans.specs.declared.Place.TheVariants.{Counter, WithRsp}
use Rattle.plans.specs.Places.{counted_of, counters_of}
use Rattle.plans.specs.Legal.{event, packet, offcore, words_of, packets_of, of_all, counters, Legal, HasPlan}
use Rattle.plans.specs.Narrowed.{any_lone}
use Rattle.search.specs.Rows.{set_of}
use Rattle.search.specs.Counters.{available, Least, without}
use Rattle.plans.specs.Extends.{Unused, LeastUnused, MayFollow}
use Rattle.search.specs.Beside.{Without, LeftFree, is_anywhere, may_follow, AnyUsable}
use Rattle.plans.proofs.Sets.{has_other, has_self}
use Rattle.plans.proofs.Fits.{Fits}
use Rattle.search.proofs.CounterBits.{has_below, chosen_free}
use Rattle.search.proofs.OwnCounters.{own_set, has_own, own_below}
use Rattle.plans.proofs.ExtendsHold.{all_front, all_back, all_join, counters_behind}

-- ---- counters taken out of a set

never : {A : Type 0} {b : Bool} → b ≡ true → b ≡ false → A
never e f = let z : ◌≡◌ {A = ℕ} 0 1 = cc in absurd (omega arith)

module _ (set : CounterSet) (k : ℕ) where
  pub without_one : has set k ≡ true → Without set (k ∷ []) (without set k)
  without_one h = record {
    inside = λ i g. sym (has_other set k i h (has_self set k i h g)) ∙ g;
    away = λ i g. cons (λ e. has_self set k i h g (sym e)) nil;
    rest = λ i g a. has_other set k i h (λ e. head a (sym e)) ∙ g;
  }
    where
      head : {i : ℕ} → All (λ (j : ℕ). i ≢ j) (k ∷ []) → i ≢ k
      head (cons f a) = f

  pub without_none : has set k ≡ false → Without set (k ∷ []) set
  without_none h = record {
    inside = λ i g. g;
    away = λ i g. cons (λ e. never (rw e at g) h) nil;
    rest = λ i g a. g;
  }

pub without_both : {set mid r : CounterSet} (js ks : List ℕ) → Without set js mid → Without mid ks r → Without set (js ++ ks) r
without_both js ks f g = record {
  inside = λ i h. f.inside i (g.inside i h);
  away = λ i h. all_join (f.away i (g.inside i h)) (g.away i h);
  rest = λ i h a. g.rest i (f.rest i h (all_front js ks a)) (all_back js ks a);
}

-- ---- counters that a plan leaves

pub free_first : (s : Setup) (x : ℕ) → x ≡ (own_set s.device s.usable).0 → LeftFree s [] (set_of x)
unfolding counters flat_map
free_first s x e = rw e (record {
  unused = λ i h. let b = has_below (counter_count s.device) (own_set s.device s.usable) i (own_below s.device s.usable) h in
      ((b, sym (has_own s.device s.usable i b) ∙ h), nil);
  all = λ i u. has_own s.device s.usable i u.0.0 ∙ u.0.1;
})

pub without_place : (ps : List Place) (p : Place) (f g h : CounterSet) → Without f (counters ps) g → Without g (counters_of p) h → Without f (counters (ps ++ p ∷ [])) h
without_place ps p f g h v w = rw (counters_behind ps p) (without_both (counters ps) (counters_of p) v w)

pub free_after : (s : Setup) (ps : List Place) (f g : CounterSet) → LeftFree s [] f → Without f (counters ps) g → LeftFree s ps g
unfolding counters flat_map
free_after s ps f g l w = record {
  unused = λ i h. ((l.unused i (w.inside i h)).0, w.away i h);
  all = λ i u. w.rest i (l.all i (u.0, nil)) u.1;
}

-- ---- the least

module _ (s : Setup) (ps : List Place) (a free choice : CounterSet) (chosen : (k : ℕ) → has choice k ≡ available a free k) where
  chosen_allowed : (k : ℕ) → has choice k ≡ true → has a k ≡ true
  unfolding available both
  chosen_allowed k h = go (has a k) (sym (chosen k) ∙ h)
    where
      go : (b : Bool) → both b (has free k) ≡ true → b ≡ true
      go true e = refl
      go false e = e

  pub least_unused : LeftFree s ps free → (r : ℕ) (left : CounterSet) → Least choice r left → LeastUnused s a ps r
  unfolding available both
  least_unused l r left n = record {
    allowed = chosen_allowed r n.there;
    unused = l.unused r (chosen_free a free choice r (chosen r) n.there);
    least = λ j h u. go j h u (dec_lt j r);
  }
    where
      go : (j : ℕ) → has a j ≡ true → Unused s ps j → Dec (j < r) → r ≤ j
      go j h u (yes f) = let e : has choice j ≡ true = rw (chosen j, h) (l.all j u) in never e (n.next.none_between j (omega arith) f)
      go j h u (no f) = omega arith

-- a counter that an iterator told, if it told one
pub least_told : (choice left : CounterSet) (P : ℕ → Type 0) → ((k : ℕ) → Least choice k left → P k)
    → (o : Option ℕ) → MatchOption o (choice.0 ≡ 0) (λ k. Least choice k left) → IfSome o P
least_told choice left P f None m = tt
least_told choice left P f (Some k) m = f k m

-- ---- which events may follow others

-- the rule of an event is the one that lets it run anywhere
anywhere_is : (x : EventRule) → is_anywhere x ≡ true → x ≡ Anywhere
unfolding is_anywhere
anywhere_is Anywhere h = refl
anywhere_is (OnlyOn k) h = absurd (false≢true h)
anywhere_is (AloneOn k) h = absurd (false≢true h)

pub runs_anywhere : (d : Device) (c m : ℕ) (a : CounterSet) → is_anywhere (rule_of d c m) ≡ true → (k : ℕ) → ¬ RunsOn d (Event c m a) k
unfolding rule_for
runs_anywhere d c m a h = (ruled_events.anywhere d (Event c m a)).0 (anywhere_is (rule_of d c m) h)

-- only events have a rule
packet_anywhere : (d : Device) (x y : ℕ) (a : CounterSet) (k : ℕ) → ¬ RunsOn d (Packet x y a) k
packet_anywhere d x y a k h = elim h [ ]

offcore_anywhere : (d : Device) (w : ℕ) (a : CounterSet) (k : ℕ) → ¬ RunsOn d (Offcore w a) k
offcore_anywhere d w a k h = elim h [ ]

-- neither part of a choice holds where it does not
neither : (a b : Bool) → either a b ≡ false → (a ≡ false) × (b ≡ false)
unfolding either
neither true b h = absurd (false≢true (sym h))
neither false b h = (refl, h)

none_lone : (d : Device) (rs : List Request) → any_lone d rs ≡ false → All (λ (q : Request). ¬ Lone d q) rs
unfolding any_lone
none_lone d [] h = nil
none_lone d (r ∷ rs) h =
    let o = neither (wants_quiet (rule_for d r)) (any_lone d rs) h in
    cons (λ l. never ((ruled_events.quiet d r).1 l) o.0) (none_lone d rs o.1)

pub follows : (s : Setup) (rs : List Request) (c m : ℕ) (a : CounterSet) → may_follow s.device rs c m ≡ true → MayFollow s rs (Event c m a)
unfolding may_follow
follows s rs c m a h =
    let o = both_parts (is_anywhere (rule_of s.device c m)) (not (any_lone s.device rs)) h in
    record { anywhere = runs_anywhere s.device c m a o.0; beside = none_lone s.device rs (not-true (any_lone s.device rs) o.1) }

unruled_none : (d : Device) → Unruled d → (rs : List Request) → any_lone d rs ≡ false
unfolding any_lone either wants_quiet
unruled_none d free [] = refl
unruled_none d free (r ∷ rs) = rw ((ruled_events.anywhere d r).1 (free r)) (unruled_none d free rs)

-- where no event has a rule, every event may follow any others
pub unruled_follows : (d : Device) (rs : List Request) (c m : ℕ) → has_rules d ≡ false → may_follow d rs c m ≡ true
unfolding may_follow both is_anywhere rule_of
unruled_follows d rs c m h = rw (h, unruled_none d ((ruled_events.unruled d).0 h) rs)

-- ---- a request alone

module _ (s : Setup) where
  pub any_usable : (a free choice : CounterSet) → ((k : ℕ) → has choice k ≡ available a free k) → LeftFree s [] free
      → (o : Option ℕ) (left : CounterSet) → MatchOption o (choice.0 ≡ 0) (λ r. Least choice r left) → is_some o ≡ true → AnyUsable s a
  any_usable a free choice chosen l None left n h = absurd (false≢true h)
  any_usable a free choice chosen l (Some r) left n h = let u = least_unused s [] a free choice chosen l r left n in (r, u.allowed, u.unused.0)

  -- what fits is legal where the request may run on every counter
  alone_legal : (r : Request) (p : Place) → ((k : ℕ) → ¬ RunsOn s.device r k) → Fits s (r ∷ []) (p ∷ []) → Legal s (r ∷ []) (p ∷ [])
  alone_legal r p free f = record {
    differ = f.differ;
    usable_only = f.usable_only;
    allowed = f.allowed;
    one_word = f.one_word;
    one_packet = f.one_packet;
    ruled = and (λ k runs. absurd (free k runs)) none;
    alone = λ q m l. absurd (lone q m l);
    quiet = λ q m l. absurd (lone q m l);
  }
    where
      lone : (q : Request) → Memᴰ q (r ∷ []) → ¬ Lone s.device q
      lone q (Memᴰ.head e) l = let c = ruled_events.counted s.device r (subst (Lone s.device) e l) in free c.0 c.1
      lone q (mathlib.Core.List.Memᴰ.tail x5) l = elim x5 [ ]

  pub event_alone : (c m : ℕ) (a : CounterSet) → is_anywhere (rule_of s.device c m) ≡ true → AnyUsable s a → HasPlan s (Event c m a ∷ [])
  unfolding counters counters_of counted_of of_all words_of packets_of flat_map
  event_alone c m a h u = (
    Counter u.0 ∷ [],
    alone_legal (Event c m a) (Counter u.0) (runs_anywhere s.device c m a h) (record {
      differ = add nil empty;
      usable_only = cons u.2 nil;
      allowed = and (event u.1) none;
      one_word = λ i b. (0, nil);
      one_packet = ((0, 0), nil);
    }),
  )

  pub packet_alone : (x y : ℕ) (a : CounterSet) → AnyUsable s a → HasPlan s (Packet x y a ∷ [])
  unfolding counters counters_of counted_of of_all words_of packets_of flat_map
  packet_alone x y a u = (
    Counter u.0 ∷ [],
    alone_legal (Packet x y a) (Counter u.0) (packet_anywhere s.device x y a) (record {
      differ = add nil empty;
      usable_only = cons u.2 nil;
      allowed = and (packet u.1) none;
      one_word = λ i b. (0, nil);
      one_packet = ((x, y), cons refl nil);
    }),
  )

  pub offcore_alone : (w : ℕ) (a : CounterSet) → AnyUsable s a → HasPlan s (Offcore w a ∷ [])
  unfolding counters counters_of counted_of of_all words_of packets_of flat_map
  offcore_alone w a u = (
    WithRsp u.0 0 ∷ [],
    alone_legal (Offcore w a) (WithRsp u.0 0) (offcore_anywhere s.device w a) (record {
      differ = add nil empty;
      usable_only = cons u.2 nil;
      allowed = and (offcore {i = 0} u.1 (omega arith)) none;
      one_word = λ i b. words (eqb 0 i);
      one_packet = ((0, 0), nil);
    }),
  )
    where
      words : (b : Bool) → OneValue (pick b (w ∷ []) [] ++ [])
      words true = (w, cons refl nil)
      words false = (w, nil)
