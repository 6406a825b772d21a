-- The events of a plan on a device that has events only: each request at its place, and its word in the control register there. Assumes nothing.
--     Given                       a request of the plan, at its place
--     given-member, member-given  the requests that have places are those of the list
--     given-counter               the counters of places are those of the plan
--     each-given, each-of         what holds of each request at its place
--     word-given, given-word      a control word is 0 or that of the request there, and a request's word is there
use mathlib.Core.Path.{◌≡◌, refl, subst}
use mathlib.Core.Logic.{◌≢◌, ◌⊎◌, inl, inr, ⊎_elim}
use mathlib.Core.Bool.{true}
use mathlib.Core.List.{List, [], ◌∷◌, ◌++◌, flat_map, Memᴰ}
use Prim.Native.Nat.{ℕ}
use native.Mathlib.Decide.{ℕ_discrete}
use borrow.Author.Tests.{eq-eqb, ne_eqb}
use native.Mathlib.Omega.{arith}
use lib.ListN.{length}
use Rattle.requests.specs.declared.CounterSet.{CounterSet}
use Rattle.requests.specs.declared.Device.TheVariants.{G, S}
use Rattle.requests.specs.declared.Setup.{Setup}
use Rattle.requests.specs.declared.Request.{Request}
use Rattle.requests.specs.declared.Request.TheVariants.{Event}
use Rattle.requests.specs.Catalogue.{events_of, pair_in}
use Rattle.requests.specs.WellFormedRequests.{Described, event, packet, offcore, latency}
use Rattle.plans.specs.declared.Place.{Place}
use Rattle.plans.specs.declared.Place.TheVariants.{Counter}
use Rattle.plans.specs.Lists.{All, nil, cons, Pairwise, add, Each, none, and}
use Rattle.plans.specs.Places.{counted_of, counters_of, first}
use Rattle.plans.specs.Legal.{Allowed, of_all, counters}
use Rattle.plans.specs.Legal as plans
use Rattle.layouts.specs.Layout.{event_word}
use Rattle.layouts.specs.Settings.{uses_of, word_at}
use Rattle.layouts.proofs.ListLaws.{all_member}

-- a request of the plan, at its place
pub data Given (r : Request) (p : Place) : List Request → List Place → Type 0 where
  here : {rs : List Request} {ps : List Place} → Given r p (r ∷ rs) (p ∷ ps)
  later : {x : Request} {y : Place} {rs : List Request} {ps : List Place} → Given r p rs ps → Given r p (x ∷ rs) (y ∷ ps)

pub given_member : {r : Request} {p : Place} {rs : List Request} {ps : List Place} → Given r p rs ps → Memᴰ r rs
given_member here = Memᴰ.head refl
given_member (later g) = Memᴰ.tail (given_member g)

pub member_given : {R : Request → Place → Type 0} {r : Request} {rs : List Request} {ps : List Place} → Each R rs ps → Memᴰ r rs → (p : Place) × Given r p rs ps
member_given {r = r} (and {b = p} {s = rs} {t = ps} a es) (Memᴰ.head e) = (p, subst (λ (x : Request). Given r p (x ∷ rs) (p ∷ ps)) e (here {rs = rs}))
member_given (and a es) (Memᴰ.tail m) = let g = member_given es m in (g.0, later g.1)
member_given {R = R} {r = r} none x4 = elim x4 [ ]

pub each_given : {R : Request → Place → Type 0} {r : Request} {p : Place} {rs : List Request} {ps : List Place} → Each R rs ps → Given r p rs ps → R r p
each_given (and a es) here = a
each_given (and a es) (later g) = each_given es g
each_given {R = R} {r = r} {p = p} none x4 = elim x4 [ ]

pub each_of : {R : Request → Place → Type 0} (Q : Request → Place → Type 0) {rs : List Request} {ps : List Place} → Each R rs ps → ((r : Request) (p : Place) → Given r p rs ps → Q r p) → Each Q rs ps
each_of Q none h = none
each_of Q (and {a = r} {b = p} a es) h = and (h r p here) (each_of Q es (λ x y g. h x y (later g)))

-- no request of an empty list has a place
not_given : {r : Request} {p : Place} {rs : List Request} {ps : List Place} → Given r p rs ps → length rs ≡ 0 → ⊥
not_given here l = omega (arith, l)
not_given (later g) l = omega (arith, l)

-- the only request of a plan has one place
one_given : {r x : Request} {p q : Place} {rs : List Request} {ps : List Place} → Given r p rs ps → Given x q rs ps → length rs ≡ 1 → p ≡ q
one_given here here l = refl
one_given here (later g) l = absurd (not_given g (omega (arith, l)))
one_given (later f) g l = absurd (not_given f (omega (arith, l)))

pub one_place : {r x : Request} {p q : Place} {ps : List Place} → Given r p (r ∷ []) ps → Given x q (r ∷ []) ps → p ≡ q
one_place f g = one_given f g refl

-- the counter of a place is one of the plan's
pub given_counter : {r : Request} {k : ℕ} {rs : List Request} {ps : List Place} → Given r (Counter k) rs ps → Memᴰ k (counters ps)
unfolding counters flat_map counters_of counted_of
given_counter here = Memᴰ.head refl
given_counter (later {y = y} g) = member_right (counters_of y) (given_counter g)
  where
    member_right : {k : ℕ} (before : List ℕ) {ks : List ℕ} → Memᴰ k ks → Memᴰ k (before ++ ks)
    member_right [] m = m
    member_right (j ∷ before) m = Memᴰ.tail (member_right before m)

module _ (s : Setup) (no-g : s.device ≡ G → ⊥) (no-s : s.device ≡ S → ⊥) where
  -- the event that counter k counts with the word
  pub record Counted (rs : List Request) (ps : List Place) (k w : ℕ) : Type 0 where
    pub code : ℕ
    pub mask : ℕ
    pub set : CounterSet
    pub given : Given (Event code mask set) (Counter k) rs ps
    pub listed : pair_in (events_of s.device) code mask ≡ true
    pub word : w ≡ event_word s code mask

  counted_later : {rs : List Request} {ps : List Place} {k w : ℕ} (r : Request) (p : Place) → Counted rs ps k w → Counted (r ∷ rs) (p ∷ ps) k w
  counted_later r p c = record { code = c.code; mask = c.mask; set = c.set; given = later c.given; listed = c.listed; word = c.word }

  pub word_given : {rs : List Request} {ps : List Place} → All (Described s) rs → Each Allowed rs ps → (k : ℕ)
      → (word_at (of_all (uses_of s) rs ps) k ≡ 0) ⊎ Counted rs ps k (word_at (of_all (uses_of s) rs ps) k)
  unfolding of_all uses_of word_at first
  word_given nil none k = inl refl
  word_given (cons {a = r} (event {c = c} {m = m} {a = a} h l) fs) (and {s = rs} {t = ps} (plans.event {k = j} b) es) k =
      elim (ℕ_discrete j k) [
        | yes e ↦ rw (eq-eqb j k e) (inr (record { code = c; mask = m; set = a; given = subst (λ (i : ℕ). Given r (Counter i) (r ∷ rs) (Counter j ∷ ps)) e here; listed = h; word = refl }))
        | no o ↦ rw (ne_eqb j k o) (⊎_elim (λ z. inl z) (λ g. inr (counted_later r (Counter j) g)) (word_given fs es k))
      ]
  word_given (cons (packet g x y a) fs) (and (plans.packet b) es) k = absurd (no-s g)
  word_given (cons (offcore g h t o a) fs) (and (plans.offcore b l) es) k = absurd (no-g g)
  word_given (cons (latency g h t a b) fs) (and (plans.latency c x) es) k = absurd (no-g g)

  pub given_word : {rs : List Request} {ps : List Place} {c m k : ℕ} {a : CounterSet} → All (Described s) rs → Each Allowed rs ps → Pairwise ◌≢◌ (counters ps)
      → Given (Event c m a) (Counter k) rs ps → word_at (of_all (uses_of s) rs ps) k ≡ event_word s c m
  unfolding of_all uses_of word_at first counters flat_map counters_of counted_of
  given_word {k = k} (cons (event h l) fs) (and (plans.event b) es) (add d ds) here = rw (eq-eqb k k refl)
  given_word {k = k} (cons (event h l) fs) (and (plans.event {k = j} b) es) (add d ds) (later g) =
      rw (ne_eqb j k (all_member {P = λ (i : ℕ). j ≢ i} d (given_counter g))) (given_word fs es ds g)
  given_word (cons (packet g x y a) fs) (and (plans.packet b) es) d (later q) = absurd (no-s g)
  given_word (cons (offcore g h t o a) fs) (and (plans.offcore b l) es) d (later q) = absurd (no-g g)
  given_word (cons (latency g h t a b) fs) (and (plans.latency c x) es) d (later q) = absurd (no-g g)
  given_word {ps = ps} {c = c} {m = m} {k = k} {a = a} nil _ d x8 = elim x8 [ ]
