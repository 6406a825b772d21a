-- `Legal` and document 01's sentence are equivalent: what stands in a joined list is some request's at its place, and the other way round. Assumes nothing.
--     nth-takes, takes-nth   the counters of a plan are those that its places take
--     asks-word, word-asks   the words of an RSP register are those that requests ask for there
use mathlib.Core.Path.{◌≡◌, refl, sym, ap, subst, ◌∙◌}
use mathlib.Core.Logic.{◌≢◌, ◌⊎◌, inl, inr, ⊎_elim}
use mathlib.Core.Bool.{Bool, true, false}
use mathlib.Core.List.Memᴰ
use mathlib.Core.List.Sublistᴰ
use mathlib.Core.List.{List, [], ◌∷◌, ◌++◌, flat_map, Memᴰ}
use Prim.Native.Nat.{ℕ, zero, suc, ◌<◌}
use native.Mathlib.Omega.{arith}
use borrow.Author.Tests.{eqb-true, eq-eqb}
use lib.Dec.{eqb}
use lib.ListN.{length}
use Rattle.requests.specs.declared.CounterSet.{CounterSet}
use Rattle.requests.specs.declared.Device.{Device}
use Rattle.requests.specs.declared.Device.TheVariants.{G, S, C, B}
use Rattle.requests.specs.declared.Setup.{Setup}
use Rattle.requests.specs.declared.Request.{Request}
use Rattle.requests.specs.declared.Request.TheVariants.{Event, Packet, Offcore, Latency}
use Rattle.requests.specs.Choice.{pick}
use Rattle.requests.specs.Bits.{bit, any_response, outstanding, latency_word}
use Rattle.requests.specs.Devices.{has, counter_count, all_counters}
use Rattle.requests.specs.RuledEvents.{RunsOn, instructions, stores, Lone, pdir}
use Rattle.plans.specs.declared.Place.{Place}
use Rattle.plans.specs.declared.Place.TheVariants.{Counter, WithRsp, Pair}
use Rattle.plans.specs.Lists.{All, nil, cons, Pairwise, empty, add, OneValue, Each, none, and}
use Rattle.plans.specs.Places.{counted_of, counters_of}
use Rattle.plans.specs.Legal.{Allowed, event, packet, offcore, latency, words_of, packets_of, of_all, Ruled, counters, Usable, Legal}
use Rattle.plans.specs.LegalInWords.{Nth, here, later, Takes, InSet, counters_on, Fitting, Asks, InWords, LegalInWords}
use Rattle.plans.proofs.Sets.{all_append}
use Rattle.plans.proofs.Sublists.{pairwise_part, back_part}

-- ---- lists

module _ {A : Type 0} where
  all_member : {P : A → Type 0} {l : List A} → All P l → {a : A} → Memᴰ a l → P a
  all_member {P = P} (cons p ps) (Memᴰ.head e) = subst P (sym e) p
  all_member (cons p ps) (Memᴰ.tail m) = all_member ps m
  all_member {P = P} nil {a = a} x3 = elim x3 [ ]

  all_of : (P : A → Type 0) (l : List A) → ((a : A) → Memᴰ a l → P a) → All P l
  all_of P [] h = nil
  all_of P (a ∷ l) h = cons (h a (Memᴰ.head refl)) (all_of P l (λ b m. h b (Memᴰ.tail m)))

  -- no element stands both in front and behind
  parted : (front : List A) {back : List A} {a : A} → Pairwise ◌≢◌ (front ++ back) → Memᴰ a front → Memᴰ a back → ⊥
  parted (x ∷ front) (add h hs) (Memᴰ.head e) m = all_member {P = λ (y : A). x ≢ y} h (Memᴰ.append_right front m) (sym e)
  parted (x ∷ front) (add h hs) (Memᴰ.tail f) m = parted front hs f m
  parted [] {back = back} {a = a} _ x4 m = elim x4 [ ]

  behind : (front : List A) {back : List A} → Pairwise ◌≢◌ (front ++ back) → Pairwise ◌≢◌ back
  behind front {back = back} d = pairwise_part (back_part front (Sublistᴰ.refl back)) d

  joined : {front back : List A} → Pairwise ◌≢◌ front → Pairwise ◌≢◌ back → ((a b : A) → Memᴰ a front → Memᴰ b back → a ≢ b) → Pairwise ◌≢◌ (front ++ back)
  joined empty d h = d
  joined {back = back} (add {a = a} {rest = front} f fs) d h =
      add (all_append f (all_of (λ (y : A). a ≢ y) back (λ b m. h a b (Memᴰ.head refl) m))) (joined fs d (λ x y m n. h x y (Memᴰ.tail m) n))

  -- elements that are equal two by two have one value
  one_of : A → (l : List A) → ((a b : A) → Memᴰ a l → Memᴰ b l → a ≡ b) → OneValue l
  one_of d [] h = (d, nil)
  one_of d (a ∷ l) h = (a, all_of (λ (b : A). b ≡ a) (a ∷ l) (λ b m. h b a m (Memᴰ.head refl)))

  one_equal : {l : List A} {a b : A} → OneValue l → Memᴰ a l → Memᴰ b l → a ≡ b
  one_equal (v, h) m n = all_member h m ∙ sym (all_member h n)

-- ---- requests at their places

each_nth : {R : Request → Place → Type 0} {n : ℕ} {r : Request} {p : Place} {rs : List Request} {ps : List Place} → Each R rs ps → Nth r p n rs ps → R r p
each_nth (and a es) here = a
each_nth (and a es) (later g) = each_nth es g
each_nth {R = R} {n = n} {r = r} {p = p} none x4 = elim x4 [ ]

nth_each : (R : Request → Place → Type 0) (rs : List Request) (ps : List Place) → length ps ≡ length rs
    → ((n : ℕ) (r : Request) (p : Place) → Nth r p n rs ps → R r p) → Each R rs ps
nth_each R [] [] e h = none
nth_each R [] (p ∷ ps) e h = absurd (omega arith)
nth_each R (r ∷ rs) [] e h = absurd (omega arith)
nth_each R (r ∷ rs) (p ∷ ps) e h = and (h 0 r p here) (nth_each R rs ps (omega arith) (λ n x y g. h (suc n) x y (later g)))

each_length : {R : Request → Place → Type 0} {rs : List Request} {ps : List Place} → Each R rs ps → length ps ≡ length rs
each_length none = refl
each_length (and r rest) = omega (arith, each_length rest)

nth_member : {r : Request} {p : Place} {n : ℕ} {rs : List Request} {ps : List Place} → Nth r p n rs ps → Memᴰ r rs
nth_member here = Memᴰ.head refl
nth_member (later g) = Memᴰ.tail (nth_member g)

member_nth : {R : Request → Place → Type 0} {r : Request} {rs : List Request} {ps : List Place} → Each R rs ps → Memᴰ r rs → (n : ℕ) × (p : Place) × Nth r p n rs ps
member_nth {r = r} (and {b = p} {s = rs} {t = ps} a es) (Memᴰ.head e) = (0, p, subst (λ (x : Request). Nth r p 0 (x ∷ rs) (p ∷ ps)) e (here {rs = rs}))
member_nth (and a es) (Memᴰ.tail m) = let g = member_nth es m in (suc g.0, g.1, later g.2)
member_nth {R = R} {r = r} none x4 = elim x4 [ ]

-- ---- counters

pub has_in : (a : CounterSet) (k : ℕ) → has a k ≡ true → InSet a k
unfolding has bit
has_in a k h = eqb-true _ _ h

pub in_has : (a : CounterSet) (k : ℕ) → InSet a k → has a k ≡ true
unfolding has bit
in_has a k h = eq-eqb _ _ h

own_takes : (p : Place) {k : ℕ} → Memᴰ k (counters_of p) → Takes p k
unfolding counters_of counted_of
own_takes (Counter j) (Memᴰ.head e) = sym e
own_takes (WithRsp j i) (Memᴰ.head e) = sym e
own_takes (Pair i j) (Memᴰ.head e) = inl (sym e)
own_takes (Pair i j) (Memᴰ.tail (Memᴰ.head e)) = inr (sym e)
own_takes (Counter j) {k = k} (Memᴰ.tail x5) = elim x5 [ ]
own_takes (WithRsp j i) {k = k} (Memᴰ.tail x6) = elim x6 [ ]
own_takes (Pair i j) {k = k} (Memᴰ.tail (Memᴰ.tail x11)) = elim x11 [ ]

takes_own : (p : Place) {k : ℕ} → Takes p k → Memᴰ k (counters_of p)
unfolding counters_of counted_of
takes_own (Counter j) e = Memᴰ.head (sym e)
takes_own (WithRsp j i) e = Memᴰ.head (sym e)
takes_own (Pair i j) (inl e) = Memᴰ.head (sym e)
takes_own (Pair i j) (inr e) = Memᴰ.tail (Memᴰ.head (sym e))

pub nth_takes : {r : Request} {p : Place} {n k : ℕ} {rs : List Request} {ps : List Place} → Nth r p n rs ps → Takes p k → Memᴰ k (counters ps)
unfolding counters flat_map
nth_takes {p = p} (here {ps = ps}) t = Memᴰ.append_left (counters ps) (takes_own p t)
nth_takes (later {y = y} g) t = Memᴰ.append_right (counters_of y) (nth_takes g t)

pub record TakenBy (k : ℕ) (rs : List Request) (ps : List Place) : Type 0 where
  pub number : ℕ
  pub request : Request
  pub place : Place
  pub nth : Nth request place number rs ps
  pub takes : Takes place k

pub takes_nth : {R : Request → Place → Type 0} {k : ℕ} {rs : List Request} {ps : List Place} → Each R rs ps → Memᴰ k (counters ps) → TakenBy k rs ps
unfolding counters flat_map
takes_nth (and {a = r} {b = p} a es) m =
    ⊎_elim (λ h. record { number = 0; request = r; place = p; nth = here; takes = own_takes p h })
    (λ h. let t = takes_nth es h in record { number = suc t.number; request = t.request; place = t.place; nth = later t.nth; takes = t.takes })
    (Memᴰ.append_cases (counters_of p) m)
takes_nth {R = R} {k = k} none m = elim m [ ]

differ_nth : (k : ℕ) {r : Request} {p : Place} {m n : ℕ} {q : Request} {o : Place} {rs : List Request} {ps : List Place} → Pairwise ◌≢◌ (counters ps) → Nth r p m rs ps → Nth q o n rs ps
    → Takes p k → Takes o k → m ≡ n
unfolding counters flat_map
differ_nth k d here here t u = refl
differ_nth k {p = p} d here (later g) t u = absurd (parted (counters_of p) d (takes_own p t) (nth_takes g u))
differ_nth k {o = o} d (later f) here t u = absurd (parted (counters_of o) d (takes_own o u) (nth_takes f t))
differ_nth k d (later {y = y} f) (later g) t u = ap suc (differ_nth k (behind (counters_of y) d) f g t u)

two_nth : {r : Request} {k j n : ℕ} {rs : List Request} {ps : List Place} → Pairwise ◌≢◌ (counters ps) → Nth r (Pair j k) n rs ps → j ≢ k
unfolding counters flat_map counters_of counted_of
two_nth d here = first_two d
  where
    first_two : {a b : ℕ} {l : List ℕ} → Pairwise ◌≢◌ (a ∷ b ∷ l) → a ≢ b
    first_two (add (cons h hs) d) = h
two_nth d (later {y = y} g) = two_nth (behind (counters_of y) d) g

own_differ : (p : Place) → ((j k : ℕ) → p ≡ Pair j k → j ≢ k) → Pairwise ◌≢◌ (counters_of p)
unfolding counters_of counted_of
own_differ (Counter k) h = add nil empty
own_differ (WithRsp k i) h = add nil empty
own_differ (Pair j k) h = add (cons (h j k refl) nil) (add nil empty)

nth_differ : {R : Request → Place → Type 0} {rs : List Request} {ps : List Place} → Each R rs ps
    → ((m n k : ℕ) (r q : Request) (p o : Place) → Nth r p m rs ps → Nth q o n rs ps → Takes p k → Takes o k → m ≡ n)
    → ((n j k : ℕ) (r : Request) → Nth r (Pair j k) n rs ps → j ≢ k)
    → Pairwise ◌≢◌ (counters ps)
unfolding counters flat_map
nth_differ none h two = empty
nth_differ (and {a = r} {b = p} {s = rs} {t = ps} a es) h two =
    joined (own_differ p (λ j k e. two 0 j k r (subst (λ (x : Place). Nth r x 0 (r ∷ rs) (p ∷ ps)) e here)))
    (nth_differ es (λ m n k x y u v f g t w. let z : suc m ≡ suc n = h (suc m) (suc n) k x y u v (later f) (later g) t w in omega arith) (λ n j k x g. two (suc n) j k x (later g)))
    (λ i j mi mj e. let t = takes_nth es mj in
    let z : 0 ≡ suc t.number = h 0 (suc t.number) j r t.request p t.place here (later t.nth) (own_takes p (subst (λ (x : ℕ). Memᴰ x (counters_of p)) e mi)) t.takes in
    omega arith)

pub count_is : (d : Device) → counter_count d ≡ counters_on d
unfolding counter_count
count_is G = refl
count_is S = refl
count_is (C b) = refl
count_is B = refl

-- ---- what is allowed

fitting_of : {r : Request} {p : Place} → Allowed r p → Fitting r p
fitting_of (event {a = a} {k = k} h) = has_in a k h
fitting_of (packet {a = a} {k = k} h) = has_in a k h
fitting_of (offcore {a = a} {k = k} {i = i} h l) = (has_in a k h, below i l)
  where
    below : (i : ℕ) → i < 2 → (i ≡ 0) ⊎ (i ≡ 1)
    below zero l = inl refl
    below (suc zero) l = inr refl
    below (suc (suc i)) l = absurd (omega arith)
fitting_of (latency {a = a} {b = b} {j = j} {k = k} h l) = (has_in a j h, has_in b k l)

allowed_of : (r : Request) (p : Place) → Fitting r p → Allowed r p
allowed_of (Event c m a) (Counter k) h = event (in_has a k h)
allowed_of (Event c m a) (WithRsp k i) h = absurd h
allowed_of (Event c m a) (Pair j k) h = absurd h
allowed_of (Packet x y a) (Counter k) h = packet (in_has a k h)
allowed_of (Packet x y a) (WithRsp k i) h = absurd h
allowed_of (Packet x y a) (Pair j k) h = absurd h
allowed_of (Offcore w a) (Counter k) h = absurd h
allowed_of (Offcore w a) (WithRsp k i) h = offcore {i = i} (in_has a k h.0) (⊎_elim (λ e. let z : i ≡ 0 = e in omega arith) (λ e. let z : i ≡ 1 = e in omega arith) h.1)
allowed_of (Offcore w a) (Pair j k) h = absurd h
allowed_of (Latency t a b) (Counter k) h = absurd h
allowed_of (Latency t a b) (WithRsp k i) h = absurd h
allowed_of (Latency t a b) (Pair j k) h = latency (in_has a j h.0) (in_has b k h.1)

-- ---- filter words

asks_own : (i w : ℕ) (r : Request) (p : Place) → Asks i r p w → Memᴰ w (words_of i r p)
unfolding words_of latency_word outstanding any_response
asks_own i w (Event c m a) p h = absurd h
asks_own i w (Packet x y a) p h = absurd h
asks_own i w (Offcore v a) (Counter k) h = absurd h
asks_own i w (Offcore v a) (WithRsp k j) h = rw (eq-eqb j i h.0) (Memᴰ.head h.1)
asks_own i w (Offcore v a) (Pair j k) h = absurd h
asks_own i w (Latency t a b) p h = ⊎_elim (λ z. rw z.0 (Memᴰ.head z.1)) (λ z. rw z.0 (Memᴰ.head z.1)) h

own_asks : (i w : ℕ) (r : Request) (p : Place) → i < 2 → Memᴰ w (words_of i r p) → Asks i r p w
unfolding words_of latency_word outstanding any_response
own_asks i w (Offcore v a) (WithRsp k j) l m = go (eqb j i) refl m
  where
    go : (b : Bool) → eqb j i ≡ b → Memᴰ w (pick b (v ∷ []) []) → (j ≡ i) × (w ≡ v)
    go true e (Memᴰ.head q) = (eqb-true j i e, q)
    go false e x4 = elim x4 [ ]
    go true e (Memᴰ.tail x9) = elim x9 [ ]
own_asks zero w (Latency t a b) p l (Memᴰ.head e) = inl (refl, e)
own_asks (suc zero) w (Latency t a b) p l (Memᴰ.head e) = inr (refl, e)
own_asks (suc (suc i)) w (Latency t a b) p l m = absurd (omega arith)
own_asks i w (Event _ _ _) p l m = elim m [ ]
own_asks i w (Packet _ _ _) p l m = elim m [ ]
own_asks i w (Offcore v a) (Counter _) l m = elim m [ ]
own_asks i w (Offcore v a) (Pair _ _) l m = elim m [ ]
own_asks zero w (Latency t a b) p l (Memᴰ.tail x11) = elim x11 [ ]
own_asks (suc zero) w (Latency t a b) p l (Memᴰ.tail x15) = elim x15 [ ]

pub asks_word : (i : ℕ) {r : Request} {p : Place} {w n : ℕ} {rs : List Request} {ps : List Place} → Nth r p n rs ps → Asks i r p w → Memᴰ w (of_all (words_of i) rs ps)
unfolding of_all
asks_word i {r = r} {p = p} {w = w} (here {rs = rs} {ps = ps}) h = Memᴰ.append_left (of_all (words_of i) rs ps) (asks_own i w r p h)
asks_word i (later {x = x} {y = y} g) h = Memᴰ.append_right (words_of i x y) (asks_word i g h)

pub record AskedBy (i w : ℕ) (rs : List Request) (ps : List Place) : Type 0 where
  pub number : ℕ
  pub request : Request
  pub place : Place
  pub nth : Nth request place number rs ps
  pub asks : Asks i request place w

pub word_asks : {R : Request → Place → Type 0} {i w : ℕ} {rs : List Request} {ps : List Place} → i < 2 → Each R rs ps → Memᴰ w (of_all (words_of i) rs ps) → AskedBy i w rs ps
unfolding of_all
word_asks {i = i} {w = w} l (and {a = r} {b = p} a es) m =
    ⊎_elim (λ h. record { number = 0; request = r; place = p; nth = here; asks = own_asks i w r p l h })
    (λ h. let t = word_asks l es h in record { number = suc t.number; request = t.request; place = t.place; nth = later t.nth; asks = t.asks })
    (Memᴰ.append_cases (words_of i r p) m)
word_asks {R = R} {i = i} {w = w} l none m = elim m [ ]

packet_word_lem : {a : CounterSet} {p : Place} {y x n : ℕ} {rs : List Request} {ps : List Place} → Nth (Packet x y a) p n rs ps → Memᴰ (x, y) (flat_map packets_of rs)
unfolding flat_map packets_of
packet_word_lem here = Memᴰ.head refl
packet_word_lem (later {x = r} g) = Memᴰ.append_right (packets_of r) (packet_word_lem g)

record PacketBy (w : ℕ × ℕ) (rs : List Request) (ps : List Place) : Type 0 where
  pub number : ℕ
  pub allowed : CounterSet
  pub place : Place
  pub nth : Nth (Packet w.0 w.1 allowed) place number rs ps

own_packet : {w : ℕ × ℕ} (r : Request) (p : Place) (rs : List Request) (ps : List Place) → Memᴰ w (packets_of r) → PacketBy w (r ∷ rs) (p ∷ ps)
unfolding packets_of
own_packet {w = w} (Packet x y a) p rs ps (Memᴰ.head e) =
    record { number = 0; allowed = a; place = p; nth = subst (λ (v : ℕ × ℕ). Nth (Packet w.0 w.1 a) p 0 (Packet v.0 v.1 a ∷ rs) (p ∷ ps)) e here }
own_packet {w = w} (Event _ _ _) p rs ps x4 = elim x4 [ ]
own_packet {w = w} (Packet x y a) p rs ps (Memᴰ.tail x7) = elim x7 [ ]
own_packet {w = w} (Offcore _ _) p rs ps x5 = elim x5 [ ]
own_packet {w = w} (Latency _ _ _) p rs ps x7 = elim x7 [ ]

word_packet : {R : Request → Place → Type 0} {w : ℕ × ℕ} {rs : List Request} {ps : List Place} → Each R rs ps → Memᴰ w (flat_map packets_of rs) → PacketBy w rs ps
unfolding flat_map
word_packet (and {a = r} {b = p} {s = rs} {t = ps} a es) m =
    ⊎_elim (λ h. own_packet r p rs ps h)
    (λ h. let t = word_packet es h in record { number = suc t.number; allowed = t.allowed; place = t.place; nth = later t.nth })
    (Memᴰ.append_cases (packets_of r) m)
word_packet {R = R} {w = w} none m = elim m [ ]

-- ---- both ways

all_on_b : (d : Device) → d ≡ B → all_counters d ≡ 15
unfolding all_counters counter_count
all_on_b d e = rw e

module _ (s : Setup) (rs : List Request) (ps : List Place) where
  in_words : Legal s rs ps → InWords s rs ps
  in_words l = record {
    one_each = each_length l.allowed;
    differ = λ m n k r q p o f g t u. differ_nth k l.differ f g t u;
    two = λ n j k r f. two_nth l.differ f;
    usable = λ n k r p f t. let u = all_member l.usable_only (nth_takes f t) in (subst (λ (c : ℕ). k < c) (count_is s.device) u.0, has_in s.usable k u.1);
    allowed = λ n r p f. fitting_of (each_nth l.allowed f);
    one_word = λ i v w m n r q p o b f g x y. one_equal (l.one_word i b) (asks_word i f x) (asks_word i g y);
    one_packet = λ m n x y z u a b p o f g. let e = one_equal l.one_packet (packet_word_lem f) (packet_word_lem g) in (ap (λ (w : ℕ × ℕ). w.0) e, ap (λ (w : ℕ × ℕ). w.1) e);
    pdir = λ e n a p f.
        let lone : Lone s.device (Event 0xC0 0x01 a) = subst (λ (d : Device). Lone d (Event 0xC0 0x01 a)) (sym e) pdir in
        (each_nth l.ruled f 1 (subst (λ (d : Device). RunsOn d (Event 0xC0 0x01 a) 1) (sym e) instructions), l.alone (Event 0xC0 0x01 a) (nth_member f) lone, l.quiet (Event 0xC0 0x01 a) (nth_member f) lone ∙ all_on_b s.device e);
    stores = λ e n a p f. each_nth l.ruled f 3 (subst (λ (d : Device). RunsOn d (Event 0xCD 0x02 a) 3) (sym e) stores);
  }

  module _ (w : InWords s rs ps) where
    each_allowed : Each Allowed rs ps
    each_allowed = nth_each Allowed rs ps w.one_each (λ n r p f. allowed_of r p (w.allowed n r p f))

    runs_at : {d : Device} {r : Request} {k n : ℕ} {p : Place} → s.device ≡ d → RunsOn d r k → Nth r p n rs ps → p ≡ Counter k
    runs_at {n = n} {p = p} e (instructions {a = a}) f = (w.pdir e n a p f).0
    runs_at {n = n} {p = p} e (stores {a = a}) f = w.stores e n a p f

    lone_at : {d : Device} {r : Request} {n : ℕ} {p : Place} → s.device ≡ d → Lone d r → Nth r p n rs ps → (rs ≡ r ∷ []) × (s.usable.0 ≡ all_counters d)
    lone_at {n = n} {p = p} e (pdir {a = a}) f = let h = w.pdir e n a p f in (h.1, h.2 ∙ sym (all_on_b B refl))

    lone_in : (r : Request) → Memᴰ r rs → Lone s.device r → (rs ≡ r ∷ []) × (s.usable.0 ≡ all_counters s.device)
    lone_in r m l = lone_at refl l (member_nth each_allowed m).2

    legal_of : Legal s rs ps
    legal_of = record {
      differ = nth_differ each_allowed w.differ w.two;
      usable_only = all_of (Usable s) (counters ps) (λ k m. let t = takes_nth each_allowed m in
          let u = w.usable t.number k t.request t.place t.nth t.takes in
          (subst (λ (c : ℕ). k < c) (sym (count_is s.device)) u.0, in_has s.usable k u.1));
      allowed = each_allowed;
      one_word = λ i b. one_of 0 (of_all (words_of i) rs ps) (λ v u m n. let x = word_asks b each_allowed m in let y = word_asks b each_allowed n in
          w.one_word i v u x.number y.number x.request y.request x.place y.place b x.nth y.nth x.asks y.asks);
      one_packet = one_of (0, 0) (flat_map packets_of rs) (λ v u m n. let x = word_packet each_allowed m in let y = word_packet each_allowed n in
          let e = w.one_packet x.number y.number v.0 v.1 u.0 u.1 x.allowed y.allowed x.place y.place x.nth y.nth in λ i. (e.0 i, e.1 i));
      ruled = nth_each (Ruled s.device) rs ps w.one_each (λ n r p f k runs. runs_at refl runs f);
      alone = λ r m l. (lone_in r m l).0;
      quiet = λ r m l. (lone_in r m l).1;
    }

-- ---- plans that are legal

latency_unruled : {d : Device} {t i : ℕ} {a b : CounterSet} → RunsOn d (Latency t a b) i → ⊥
latency_unruled = elim [ ]

latency_not_lone : {d : Device} {t : ℕ} {a b : CounterSet} → Lone d (Latency t a b) → ⊥
latency_not_lone = elim [ ]

offcore_unruled : {d : Device} {w i : ℕ} {a : CounterSet} → RunsOn d (Offcore w a) i → ⊥
offcore_unruled = elim [ ]

offcore_not_lone : {d : Device} {w : ℕ} {a : CounterSet} → Lone d (Offcore w a) → ⊥
offcore_not_lone = elim [ ]

module _ (s : Setup) (t j k : ℕ) (a b : CounterSet) where
  abbrev Fits : Type 0
  Fits = (j ≢ k) × ((j < counters_on s.device) × InSet s.usable j) × ((k < counters_on s.device) × InSet s.usable k) × InSet a j × InSet b k

  latency_fits_lem : Legal s (Latency t a b ∷ []) (Pair j k ∷ []) → Fits
  latency_fits_lem l =
      let w = in_words s (Latency t a b ∷ []) (Pair j k ∷ []) l in
      let f = w.allowed 0 (Latency t a b) (Pair j k) here in
      (w.two 0 j k (Latency t a b) here, w.usable 0 j (Latency t a b) (Pair j k) here (inl refl), w.usable 0 k (Latency t a b) (Pair j k) here (inr refl), f.0, f.1)

  fits_latency : Fits → Legal s (Latency t a b ∷ []) (Pair j k ∷ [])
  unfolding counters flat_map counters_of counted_of of_all words_of packets_of
  fits_latency h = record {
    differ = add (cons h.0 nil) (add nil empty);
    usable_only = cons (subst (λ (c : ℕ). j < c) (sym (count_is s.device)) h.1.0, in_has s.usable j h.1.1) (cons (subst (λ (c : ℕ). k < c) (sym (count_is s.device)) h.2.0, in_has s.usable k h.2.1) nil);
    allowed = and (latency (in_has a j h.3) (in_has b k h.4)) none;
    one_word = λ i l. (latency_word i t, cons refl nil);
    one_packet = ((0, 0), nil);
    ruled = and (λ i runs. absurd (latency_unruled runs)) none;
    alone = λ r m l. absurd (not_alone m l);
    quiet = λ r m l. absurd (not_alone m l);
  }
    where
      not_alone : {r : Request} → Memᴰ r (Latency t a b ∷ []) → Lone s.device r → ⊥
      not_alone (Memᴰ.head e) l = latency_not_lone (subst (Lone s.device) e l)
      not_alone {r = r} (Memᴰ.tail x5) l = elim x5 [ ]

module _ (s : Setup) (w : ℕ) (g : s.device ≡ G) (full : s.usable.0 ≡ 15) where
  abbrev any : CounterSet
  any = record { 0 = 15 }

  both_legal : (i j : ℕ) → i < 2 → j < 2 → Legal s (Offcore w any ∷ Offcore w any ∷ []) (WithRsp 0 i ∷ WithRsp 1 j ∷ [])
  unfolding counters flat_map counters_of counted_of of_all words_of packets_of has bit counter_count
  both_legal i j l m = record {
    differ = add (cons (λ e. let z : ◌≡◌ {A = ℕ} 0 1 = e in omega arith) nil) (add nil empty);
    usable_only = rw (g, full) (cons {a = 0} (omega arith, refl) (cons {a = 1} (omega arith, refl) nil));
    allowed = and (offcore refl l) (and (offcore refl m) none);
    one_word = λ x b. (w, all_append (own (eqb i x)) (all_append (own (eqb j x)) nil));
    one_packet = ((0, 0), nil);
    ruled = and (λ x runs. absurd (offcore_unruled runs)) (and (λ x runs. absurd (offcore_unruled runs)) none);
    alone = λ r m l. absurd (not_alone m l);
    quiet = λ r m l. absurd (not_alone m l);
  }
    where
      own : (b : Bool) → All (λ (v : ℕ). v ≡ w) (pick b (w ∷ []) [])
      own true = cons refl nil
      own false = nil

      not_alone : {r : Request} → Memᴰ r (Offcore w any ∷ Offcore w any ∷ []) → Lone s.device r → ⊥
      not_alone (Memᴰ.head e) l = offcore_not_lone (subst (Lone s.device) e l)
      not_alone (Memᴰ.tail (Memᴰ.head e)) l = offcore_not_lone (subst (Lone s.device) e l)
      not_alone {r = r} (Memᴰ.tail (Memᴰ.tail x9)) l = elim x9 [ ]

pub legal_in_words : LegalInWords
legal_in_words = record {
  legal = λ s rs ps. (in_words s rs ps, legal_of s rs ps);
  latency = λ s t j k a b. (latency_fits_lem s t j k a b, fits_latency s t j k a b);
  apart = λ s w g full. both_legal s w g full 0 1 (omega arith) (omega arith);
  apart_exchanged = λ s w g full. both_legal s w g full 1 0 (omega arith) (omega arith);
}
