-- One request more behind the first plan: any plan of all has a plan of the front and a place behind it, and neither comes before. Assumes nothing.
use Rattle.std.specs.Prelude.{Option, None, Some}
use mathlib.Core.Path.{◌≡◌, refl, sym, ap, subst, ◌∙◌}
use mathlib.Core.Logic.{◌≢◌, ◌⊎◌, inl, inr}
use mathlib.Core.List.{List, [], ◌∷◌, ◌++◌, flat_map, append-nil, append_assoc, Memᴰ}
use mathlib.Core.Bool.{true}
use Prim.Native.Nat.{ℕ, suc, ◌+◌, ◌*◌, ◌^◌, ◌<◌}
use native.Mathlib.Nat.{mul_assoc}
use native.Mathlib.Omega.{arith}
use native.Mathlib.Decide.{dec_lt}
use lib.ListN.{length}
use lib.Pow.{pow-add}
use Rattle.requests.specs.declared.CounterSet.{CounterSet}
use Rattle.requests.specs.declared.Setup.{Setup}
use Rattle.requests.specs.declared.Request.{Request}
use Rattle.requests.specs.declared.Request.TheVariants.{Event}
use Rattle.requests.specs.Devices.{has}
use Rattle.requests.specs.RuledEvents.{Lone}
use Rattle.requests.proofs.RuledEvents.{ruled_events}
use Rattle.plans.specs.declared.Place.{Place}
use Rattle.plans.specs.declared.Place.TheVariants.{Counter}
use Rattle.plans.specs.Lists.{All, nil, cons, Pairwise, empty, add, OneValue, Each, none as Each-none, and}
use Rattle.plans.specs.Places.{first, second, counted_of, counters_of}
use Rattle.plans.specs.Legal.{Allowed, event, packet, Usable, words_of, packets_of, of_all, counters, Legal}
use Rattle.plans.specs.Order.{Earlier, Before, here, later, First}
use Rattle.plans.specs.Search.{first_plan}
use Rattle.plans.specs.Packed.{code_of}
use Rattle.plans.specs.Extends.{OneCounter, event as one_event, packet as one_packet, Unused, LeastUnused, MayFollow, Extends}
use Rattle.plans.proofs.FirstFound.{first_plan_lem}

-- ---- lists with one element more

module _ {A : Type 0} where
  pub all_front : {P : A → Type 0} (l m : List A) → All P (l ++ m) → All P l
  all_front [] m h = nil
  all_front (a ∷ l) m (cons p h) = cons p (all_front l m h)

  pub all_back : {P : A → Type 0} (l m : List A) → All P (l ++ m) → All P m
  all_back [] m h = h
  all_back (a ∷ l) m (cons p h) = all_back l m h

  pub all_join : {P : A → Type 0} {l m : List A} → All P l → All P m → All P (l ++ m)
  all_join nil h = h
  all_join (cons p ps) h = cons p (all_join ps h)

  all_member : {P : A → Type 0} {l : List A} → All P l → {a : A} → Memᴰ a l → P a
  all_member {P = P} (cons p ps) (Memᴰ.head e) = subst P (sym e) p
  all_member (cons p ps) (Memᴰ.tail m) = all_member ps m
  all_member {P = P} nil {a = a} x3 = elim x3 [ ]

-- k differs from each of a list
abbrev Away : List ℕ → ℕ → Type 0
Away ks k = All (λ (j : ℕ). k ≢ j) ks

turned : {j k : ℕ} → j ≢ k → k ≢ j
turned f e = f (sym e)

differ_more : {ks : List ℕ} {k : ℕ} → Pairwise ◌≢◌ ks → Away ks k → Pairwise ◌≢◌ (ks ++ k ∷ [])
differ_more empty a = add nil empty
differ_more (add h d) (cons f a) = add (all_join h (cons (turned f) nil)) (differ_more d a)

differ_front : (ks : List ℕ) (k : ℕ) → Pairwise ◌≢◌ (ks ++ k ∷ []) → Pairwise ◌≢◌ ks × Away ks k
differ_front [] k d = (empty, nil)
differ_front (j ∷ ks) k (add h d) =
    let rest = differ_front ks k d in
    (add (all_front ks (k ∷ []) h) rest.0, cons (last (all_back ks (k ∷ []) h)) rest.1)
  where
    last : All (λ (i : ℕ). j ≢ i) (k ∷ []) → k ≢ j
    last (cons f h) = turned f

-- ---- requests and places with one more

pub counters_behind : (ps : List Place) (p : Place) → counters (ps ++ p ∷ []) ≡ counters ps ++ counters_of p
unfolding counters flat_map
counters_behind [] p = append-nil (counters_of p)
counters_behind (q ∷ ps) p = ap (λ (l : List ℕ). counters_of q ++ l) (counters_behind ps p) ∙ sym (append_assoc (counters_of q) (counters ps) (counters_of p))

counters_more : (ps : List Place) (k : ℕ) → counters (ps ++ Counter k ∷ []) ≡ counters ps ++ k ∷ []
unfolding counters_of counted_of
counters_more ps k = counters_behind ps (Counter k)

module _ {r : Request} {a : CounterSet} (o : OneCounter r a) where
  no_word : (i : ℕ) (p : Place) → words_of i r p ≡ []
  unfolding words_of
  no_word i p = go o
    where
      go : {q : Request} {b : CounterSet} → OneCounter q b → words_of i q p ≡ []
      go one_event = refl
      go one_packet = refl

  words_more : {rs : List Request} {ps : List Place} (i : ℕ) (p : Place) → Each Allowed rs ps → of_all (words_of i) (rs ++ r ∷ []) (ps ++ p ∷ []) ≡ of_all (words_of i) rs ps
  unfolding of_all
  words_more i p Each-none = rw (no_word i p)
  words_more i p (and {a = q} {b = b} h e) = ap (λ (l : List ℕ). words_of i q b ++ l) (words_more i p e)

  -- a place that the request allows is one of the set's counters
  counter_at : {p : Place} → Allowed r p → (k : ℕ) × (p ≡ Counter k) × (has a k ≡ true)
  counter_at h = go o h
    where
      go : {q : Request} {b : CounterSet} {p : Place} → OneCounter q b → Allowed q p → (k : ℕ) × (p ≡ Counter k) × (has b k ≡ true)
      go one_event (event {k = k} f) = (k, refl, f)
      go one_packet (packet {k = k} f) = (k, refl, f)

  allowed_at : {k : ℕ} → has a k ≡ true → Allowed r (Counter k)
  allowed_at h = go o h
    where
      go : {q : Request} {b : CounterSet} {k : ℕ} → OneCounter q b → has b k ≡ true → Allowed q (Counter k)
      go one_event f = event f
      go one_packet f = packet f

packets_front : (rs : List Request) (r : Request) → OneValue (flat_map packets_of (rs ++ r ∷ [])) → OneValue (flat_map packets_of rs)
unfolding flat_map
packets_front rs r v = (v.0, go rs v.1)
  where
    go : {x : ℕ × ℕ} (qs : List Request) → All (λ (y : ℕ × ℕ). y ≡ x) (flat_map packets_of (qs ++ r ∷ [])) → All (λ (y : ℕ × ℕ). y ≡ x) (flat_map packets_of qs)
    go [] h = nil
    go (q ∷ qs) h = all_join (all_front (packets_of q) (flat_map packets_of (qs ++ r ∷ [])) h) (go qs (all_back (packets_of q) (flat_map packets_of (qs ++ r ∷ [])) h))

each_more : {R : Request → Place → Type 0} {rs : List Request} {ps : List Place} {r : Request} {p : Place} → Each R rs ps → R r p → Each R (rs ++ r ∷ []) (ps ++ p ∷ [])
each_more Each-none h = and h Each-none
each_more (and g e) h = and g (each_more e h)

each_front : (rs : List Request) {r : Request} {qs : List Place} → Each Allowed (rs ++ r ∷ []) qs → (ps : List Place) × (p : Place) × (qs ≡ ps ++ p ∷ []) × Each Allowed rs ps × Allowed r p
each_front [] (and {b = p} h Each-none) = ([], p, refl, Each-none, h)
each_front (q ∷ rs) (and {b = b} g e) = let f = each_front rs e in (b ∷ f.0, f.1, ap (λ (l : List Place). b ∷ l) f.2, and g f.3, f.4)

-- the same of a front whose places are known
each_before : {R : Request → Place → Type 0} {rs : List Request} {ps : List Place} (r : Request) (p : Place) → Each Allowed rs ps → Each R (rs ++ r ∷ []) (ps ++ p ∷ []) → Each R rs ps
each_before r p Each-none e = Each-none
each_before r p (and h hs) (and g gs) = and g (each_before r p hs gs)

-- ---- the order

before_more : {ps qs : List Place} (p q : Place) → Before ps qs → Before (ps ++ p ∷ []) (qs ++ q ∷ [])
before_more p q (here e) = here e
before_more p q (later b) = later (before_more p q b)

before_last : (ps : List Place) (p q : Place) → Earlier p q → Before (ps ++ p ∷ []) (ps ++ q ∷ [])
before_last [] p q e = here e
before_last (x ∷ ps) p q e = later (before_last ps p q e)

-- ---- the first plan

module _ (s : Setup) (rs : List Request) (r : Request) (a : CounterSet) (o : OneCounter r a) (may : MayFollow s rs r) where
  -- none of the requests is lone, nor is the one behind them
  front_lone : (q : Request) → Memᴰ q rs → ¬ Lone s.device q
  front_lone q m = all_member may.beside m

  never_lone : (q : Request) → Memᴰ q (rs ++ r ∷ []) → ¬ Lone s.device q
  never_lone q m l = go rs may.beside m
    where
      go : (xs : List Request) → All (λ (x : Request). ¬ Lone s.device x) xs → Memᴰ q (xs ++ r ∷ []) → ⊥
      go [] h (Memᴰ.head e) = let c = ruled_events.counted s.device r (subst (Lone s.device) e l) in may.anywhere c.0 c.1
      go (x ∷ xs) (cons n h) (Memᴰ.head e) = n (subst (Lone s.device) e l)
      go (x ∷ xs) (cons n h) (Memᴰ.tail t) = go xs h t
      go [] h (mathlib.Core.List.Memᴰ.tail t) = elim t [ ]

  legal_more : {ps : List Place} {k : ℕ} → OneValue (flat_map packets_of (rs ++ r ∷ [])) → has a k ≡ true → Unused s ps k → Legal s rs ps → Legal s (rs ++ r ∷ []) (ps ++ Counter k ∷ [])
  legal_more {ps} {k} v h u l = record {
    differ = rw (counters_more ps k) (differ_more l.differ u.1);
    usable_only = rw (counters_more ps k) (all_join l.usable_only (cons u.0 nil));
    allowed = each_more l.allowed (allowed_at o h);
    one_word = λ i b. rw (words_more o i (Counter k) l.allowed) (l.one_word i b);
    one_packet = v;
    ruled = each_more l.ruled (λ j runs. absurd (may.anywhere j runs));
    alone = λ q m lone. absurd (never_lone q m lone);
    quiet = λ q m lone. absurd (never_lone q m lone);
  }

  -- a legal plan of all: one of the front, and an allowed counter that it leaves
  legal_front : (qs : List Place) → Legal s (rs ++ r ∷ []) qs → (ps : List Place) × (k : ℕ) × (qs ≡ ps ++ Counter k ∷ []) × Legal s rs ps × (has a k ≡ true) × Unused s ps k
  legal_front qs l =
      let f = each_front rs l.allowed in
      let p = counter_at o f.4 in
      at f.0 p.0 (f.2 ∙ ap (λ (x : Place). f.0 ++ x ∷ []) p.1) f.3 p.2
    where
      head : {k : ℕ} → All (Usable s) (k ∷ []) → Usable s k
      head (cons p rest) = p

      at : (ps : List Place) (k : ℕ) → qs ≡ ps ++ Counter k ∷ [] → Each Allowed rs ps → has a k ≡ true
          → (os : List Place) × (j : ℕ) × (qs ≡ os ++ Counter j ∷ []) × Legal s rs os × (has a j ≡ true) × Unused s os j
      at ps k e f h =
          let m = rw e at l in
          let d = differ_front (counters ps) k (rw (counters_more ps k) at m.differ) in
          let u = rw (counters_more ps k) at m.usable_only in (
            ps,
            k,
            e,
            record {
              differ = d.0;
              usable_only = all_front (counters ps) (k ∷ []) u;
              allowed = f;
              one_word = λ i b. rw (words_more o i (Counter k) f) at (m.one_word i b);
              one_packet = packets_front rs r m.one_packet;
              ruled = each_before r (Counter k) f m.ruled;
              alone = λ q t lone. absurd (front_lone q t lone);
              quiet = λ q t lone. absurd (front_lone q t lone);
            },
            h,
            (head (all_back (counters ps) (k ∷ []) u), d.1),
          )

  extended : (ps : List Place) (k : ℕ) → OneValue (flat_map packets_of (rs ++ r ∷ [])) → LeastUnused s a ps k → First s rs ps → First s (rs ++ r ∷ []) (ps ++ Counter k ∷ [])
  unfolding first
  extended ps k v n f = record {
    legal = legal_more v n.allowed n.unused f.legal;
    earliest = λ qs l. let w = legal_front qs l in go qs w.0 w.1 w.2 (f.earliest w.0 w.3) w.4 w.5;
  }
    where
      go : (qs os : List Place) (j : ℕ) → qs ≡ os ++ Counter j ∷ [] → (ps ≡ os) ⊎ Before ps os → has a j ≡ true → Unused s os j
          → (ps ++ Counter k ∷ [] ≡ qs) ⊎ Before (ps ++ Counter k ∷ []) qs
      go qs os j e (inr b) h u = inr (rw e (before_more (Counter k) (Counter j) b))
      go qs os j e (inl g) h u = let le = n.least j h (rw g u) in same (dec_lt k j)
        where
          same : Dec (k < j) → (ps ++ Counter k ∷ [] ≡ qs) ⊎ Before (ps ++ Counter k ∷ []) qs
          same (yes l) = inr (rw (e, ← g) (before_last ps (Counter k) (Counter j) (inl l)))
          same (no l) = let eq : k ≡ j = omega (arith, n.least j h (rw g u)) in inl (rw (e, ← g, eq))

-- ---- the search

no_packet : (rs : List Request) (c m : ℕ) (a : CounterSet) → flat_map packets_of (rs ++ Event c m a ∷ []) ≡ flat_map packets_of rs
unfolding flat_map packets_of
no_packet [] c m a = refl
no_packet (r ∷ rs) c m a = ap (λ (l : List (ℕ × ℕ)). packets_of r ++ l) (no_packet rs c m a)

-- the first plan is the one that is found
found_first : (s : Setup) (rs : List Request) (ps : List Place) → First s rs ps → first_plan s rs ≡ Some ps
found_first s rs ps f = go (first_plan s rs) refl
  where
    go : (o : Option (List Place)) → first_plan s rs ≡ o → o ≡ Some ps
    go None e = absurd (first_plan_lem.complete s rs e (ps, f.legal))
    go (Some qs) e = ap Some (first_plan_lem.only s rs qs ps (first_plan_lem.sound s rs qs e) f)

number : (ps : List Place) (k : ℕ) → code_of (ps ++ Counter k ∷ []) ≡ code_of ps + (63 + k * 8) * 2 ^ (6 * length ps)
unfolding code_of first second
number [] k = omega arith
number (p ∷ ps) k =
    let x = 63 + k * 8 in
    let e : 6 * suc (length ps) ≡ 6 * length ps + 6 = omega arith in
    let power : x * 2 ^ (6 * suc (length ps)) ≡ x * 2 ^ (6 * length ps) * 64 = rw (e, pow-add 2 (6 * length ps) 6) (sym (mul_assoc x (2 ^ (6 * length ps)) 64)) in
    omega (arith, number ps k, power)

pub extends : Extends
extends = record {
  first = λ s rs r a ps k o may v n f. extended s rs r a o may ps k v n f;
  event = λ s rs c m a ps k may n e.
      let f = first_plan_lem.sound s rs ps e in
      found_first s (rs ++ Event c m a ∷ []) (ps ++ Counter k ∷ []) (extended s rs (Event c m a) a one_event may ps k (rw (no_packet rs c m a) f.legal.one_packet) n f);
  number = number;
}
