-- From control words to a plan that has them: one request after another is put in front of a plan for the other counters. Assumes nothing.
--     Built     a legal plan with given control words and filter words
--     extend    one request more, on counters that the plan does not use
--     build     a plan for words that have a request each
use mathlib.Core.Path.{◌≡◌, refl, sym, ap, ◌∙◌, subst, fun_ext}
use mathlib.Core.Logic.{◌⊎◌, inl, ⊎_elim, ◌≢◌}
use mathlib.Core.Bool.{Bool, true, false}
use mathlib.Core.List.{List, [], ◌∷◌, ◌++◌, map, flat_map}
use Prim.Native.Nat.{ℕ, zero, suc, ◌≤◌}
use native.Mathlib.Decide.{ℕ_discrete}
use native.Mathlib.Omega.{arith}
use borrow.Author.Tests.{eq-eqb, ne_eqb}
use lib.Dec.{eqb}
use Rattle.requests.specs.Choice.{pick}
use Rattle.requests.specs.declared.Setup.{Setup}
use Rattle.requests.specs.declared.Request.{Request}
use Rattle.requests.specs.WellFormedRequests.{Described}
use Rattle.plans.specs.declared.Place.{Place}
use Rattle.plans.specs.Lists.{All, nil, cons, Pairwise, empty, add, Each, none, and}
use Rattle.plans.specs.Places.{counters_of}
use Rattle.plans.specs.Legal.{Allowed, Usable, words_of, packets_of, of_all, counters}
use Rattle.plans.proofs.Sets.{all_append, all_imp}
use Rattle.layouts.specs.Settings.{uses_of, word_at}
use Rattle.layouts.proofs.Counts.{counter_of}
use Rattle.layouts.proofs.PlanWords.{use_counters}

-- a plan whose control words are f, and whose filter words are a, b and q
pub record Built (s : Setup) (a b : ℕ) (q : ℕ × ℕ) (f : ℕ → ℕ) : Type 0 where
  pub requests : List Request
  pub places : List Place
  pub described : All (Described s) requests
  pub allowed : Each Allowed requests places
  pub usable_only : All (Usable s) (counters places)
  pub differ : Pairwise ◌≢◌ (counters places)
  pub rsp0 : All (λ (w : ℕ). w ≡ a) (of_all (words_of 0) requests places)
  pub rsp1 : All (λ (w : ℕ). w ≡ b) (of_all (words_of 1) requests places)
  pub packet : All (λ (p : ℕ × ℕ). p ≡ q) (flat_map packets_of requests)
  pub words : (k : ℕ) → word_at (of_all (uses_of s) requests places) k ≡ f k
  pub only : All (λ (k : ℕ). f k ≡ 0 → ⊥) (counters places)

-- f with the uses in front
abbrev pub put : List (ℕ × ℕ) → (ℕ → ℕ) → ℕ → ℕ
put [] f k = f k
put (x ∷ xs) f k = pick (eqb x.0 k) x.1 (put xs f k)

word_put : (xs ys : List (ℕ × ℕ)) (f : ℕ → ℕ) (k : ℕ) → word_at ys k ≡ f k → word_at (xs ++ ys) k ≡ put xs f k
unfolding word_at
word_put [] ys f k e = e
word_put (x ∷ xs) ys f k e = rw (word_put xs ys f k e)

pick_some : (b : Bool) (v w : ℕ) → (v ≡ 0 → ⊥) → (w ≡ 0 → ⊥) → pick b v w ≡ 0 → ⊥
pick_some true v w h g = h
pick_some false v w h g = g

put_some : {xs : List (ℕ × ℕ)} (f : ℕ → ℕ) (k : ℕ) → All (λ (x : ℕ × ℕ). x.1 ≡ 0 → ⊥) xs → (f k ≡ 0 → ⊥) → put xs f k ≡ 0 → ⊥
put_some f k nil g = g
put_some f k (cons {a = x} {rest = xs} h hs) g = pick_some (eqb x.0 k) x.1 (put xs f k) h (put_some f k hs g)

put_counters : {xs : List (ℕ × ℕ)} (f : ℕ → ℕ) → All (λ (x : ℕ × ℕ). x.1 ≡ 0 → ⊥) xs → All (λ (k : ℕ). put xs f k ≡ 0 → ⊥) (map counter_of xs)
put_counters f nil = nil
put_counters f (cons {a = x} {rest = xs} h hs) =
    cons {a = x.0} (rw (eq-eqb x.0 x.0 refl) h) (all_imp (λ k n. pick_some (eqb x.0 k) x.1 (put xs f k) h n) (put_counters f hs))

-- counters where f is 0 differ from those where it is not
differ_append : (f : ℕ → ℕ) {xs ys : List ℕ} → Pairwise ◌≢◌ xs → Pairwise ◌≢◌ ys → All (λ (k : ℕ). f k ≡ 0) xs → All (λ (k : ℕ). f k ≡ 0 → ⊥) ys → Pairwise ◌≢◌ (xs ++ ys)
differ_append f empty b e n = b
differ_append f (add {a = x} a rest) b (cons e es) n = add (all_append a (all_imp (λ y m q. m (ap f (sym q) ∙ e)) n)) (differ_append f rest b es n)

module _ (s : Setup) (a b : ℕ) (q : ℕ × ℕ) where
  pub extend : (f : ℕ → ℕ) (r : Request) (p : Place) → Built s a b q f → Described s r → Allowed r p
      → All (Usable s) (counters_of p) → Pairwise ◌≢◌ (counters_of p)
      → All (λ (w : ℕ). w ≡ a) (words_of 0 r p) → All (λ (w : ℕ). w ≡ b) (words_of 1 r p) → All (λ (x : ℕ × ℕ). x ≡ q) (packets_of r)
      → All (λ (k : ℕ). f k ≡ 0) (counters_of p) → All (λ (x : ℕ × ℕ). x.1 ≡ 0 → ⊥) (uses_of s r p)
      → Built s a b q (put (uses_of s r p) f)
  unfolding of_all counters flat_map
  extend f r p built described allowed usable differ first second packet free some =
      let us = uses_of s r p in
      record {
        requests = r ∷ built.requests;
        places = p ∷ built.places;
        described = cons described built.described;
        allowed = and allowed built.allowed;
        usable_only = all_append usable built.usable_only;
        differ = differ_append f differ built.differ free built.only;
        rsp0 = all_append first built.rsp0;
        rsp1 = all_append second built.rsp1;
        packet = all_append packet built.packet;
        words = λ k. word_put us (of_all (uses_of s) built.requests built.places) f k (built.words k);
        only = all_append (subst (λ (l : List ℕ). All (λ (k : ℕ). put us f k ≡ 0 → ⊥) l) (use_counters s allowed) (put_counters f some))
            (all_imp (λ k n. put_some f k some n) built.only);
      }

  -- the empty plan
  nothing : Built s a b q (λ k. 0)
  unfolding of_all counters flat_map word_at
  nothing = record { requests = []; places = []; described = nil; allowed = none; usable_only = nil; differ = empty; rsp0 = nil; rsp1 = nil; packet = nil; words = λ k. refl; only = nil }

-- f without counter j
abbrev pub without : ℕ → (ℕ → ℕ) → ℕ → ℕ
without j f i = pick (eqb j i) 0 (f i)

pub without_same : (j : ℕ) (f : ℕ → ℕ) → without j f j ≡ 0
without_same j f = rw (eq-eqb j j refl)

pub without_other : (j i : ℕ) (f : ℕ → ℕ) → (j ≡ i → ⊥) → without j f i ≡ f i
without_other j i f h = rw (ne_eqb j i h)

pub restore : (j w : ℕ) (f : ℕ → ℕ) → f j ≡ w → put ((j, w) ∷ []) (without j f) ≡ f
restore j w f e = fun_ext (λ i. elim (ℕ_discrete j i) [ yes p ↦ rw (eq-eqb j i p) (sym e ∙ ap f p) | no n ↦ rw (ne_eqb j i n) ])

-- a request for counter k with the word w
pub record Item (s : Setup) (a b : ℕ) (q : ℕ × ℕ) (k w : ℕ) : Type 0 where
  pub request : Request
  pub place : Place
  pub described : Described s request
  pub allowed : Allowed request place
  pub one : uses_of s request place ≡ (k, w) ∷ []
  pub rsp0 : All (λ (x : ℕ). x ≡ a) (words_of 0 request place)
  pub rsp1 : All (λ (x : ℕ). x ≡ b) (words_of 1 request place)
  pub packet : All (λ (x : ℕ × ℕ). x ≡ q) (packets_of request)

module _ (s : Setup) (a b : ℕ) (q : ℕ × ℕ) where
  add_item : (f : ℕ → ℕ) (k w : ℕ) → (w ≡ 0 → ⊥) → Usable s k → f k ≡ w → Item s a b q k w → Built s a b q (without k f) → Built s a b q f
  add_item f k w some usable e x built =
      let us : List (ℕ × ℕ) = (k, w) ∷ [] in
      let counter : counters_of x.place ≡ k ∷ [] = sym (use_counters s x.allowed) ∙ ap (map counter_of) x.one in
      subst (λ (g : ℕ → ℕ). Built s a b q g) (ap (λ (l : List (ℕ × ℕ)). put l (without k f)) x.one ∙ restore k w f e)
      (extend s a b q (without k f) x.request x.place built x.described x.allowed
      (rw counter (cons usable nil))
      (rw counter (add nil empty))
      x.rsp0 x.rsp1 x.packet
      (rw counter (cons (without_same k f) nil))
      (rw x.one (cons some nil)))

  -- a plan for words that have an item each
  pub build : (n : ℕ) (f : ℕ → ℕ) → ((k : ℕ) → n ≤ k → f k ≡ 0) → ((k : ℕ) → (f k ≡ 0) ⊎ (Usable s k × Item s a b q k (f k))) → Built s a b q f
  build zero f z items = subst (λ (g : ℕ → ℕ). Built s a b q g) (fun_ext (λ k. sym (z k (omega arith)))) (nothing s a b q)
  build (suc m) f z items =
      elim (ℕ_discrete (f m) 0) [
        | yes e ↦ build m f (λ k l. elim (ℕ_discrete m k) [ yes p ↦ sym (ap f p) ∙ e | no n ↦ z k (let y = n in omega arith) ]) items
        | no n ↦ let item : Usable s m × Item s a b q m (f m) = ⊎_elim (λ e. absurd (n e)) (λ x. x) (items m) in
            add_item f m (f m) n item.0 refl item.1
            (build m (without m f) (λ k l. elim (ℕ_discrete m k) [ yes p ↦ rw (eq-eqb m k p) | no o ↦ rw (ne_eqb m k o) (z k (let y = o in omega arith)) ])
            (λ k. elim (ℕ_discrete m k) [ yes p ↦ inl (rw (eq-eqb m k p)) | no o ↦ rw (ne_eqb m k o) (items k) ]))
      ]
