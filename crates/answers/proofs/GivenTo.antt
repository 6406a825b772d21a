-- What the `take` lines of a plan give an id: where ids are distinct, the place of its entry and nothing else. Assumes nothing.
use Rattle.std.specs.Prelude.{None}
use mathlib.Core.Path.{◌≡◌, refl, sym, ◌∙◌}
use mathlib.Core.Logic.{◌≢◌, ◌⊎◌, inl, inr}
use mathlib.Core.Bool.{Bool, true, false}
use mathlib.Core.List.Memᴰ
use mathlib.Core.List.{List, [], ◌∷◌, ◌++◌, map, flat_map, append-nil, Memᴰ}
use Prim.Native.Nat.{ℕ}
use lib.Dec.{eqb}
use borrow.Author.Tests.{eq-eqb, ne_eqb}
use Rattle.requests.specs.declared.Entry.{Entry}
use Rattle.requests.specs.Choice.{pick}
use Rattle.plans.specs.declared.Place.{Place}
use Rattle.plans.specs.Lists.{All, cons, add, Each, and}
use Rattle.plans.specs.Places.{Counted, counted_of}
use Rattle.plans.specs.Legal.{Allowed}
use Rattle.layouts.specs.Writes.{Write}
use Rattle.layouts.proofs.ListLaws.{all_member}
use Rattle.sessions.specs.Turns.{requests_of, assign}
use Rattle.sessions.specs.DistinctIds.{Distinct}
use Rattle.answers.specs.Reader.{Said, Takes, Sets, Answers}
use Rattle.answers.specs.LinesAreCalls.{takes_of, sets_of}
use Rattle.answers.specs.Demand3OfLines.{given_to}

-- the ids of entries
abbrev ids : List Entry → List ℕ
ids es = map (λ (e : Entry). e.id) es

-- what one request's lines say
abbrev says : ℕ → List Counted → List Said
says id cs = map (λ (c : Counted). Takes id c.0 c.1) cs

module _ (id : ℕ) where
  pub given_append : (xs ys : List Said) → given_to id (xs ++ ys) ≡ given_to id xs ++ given_to id ys
  unfolding given_to
  given_append [] ys = refl
  given_append (Takes other k r ∷ xs) ys = go (eqb id other) (given_append xs ys)
    where
      go : (t : Bool) → given_to id (xs ++ ys) ≡ given_to id xs ++ given_to id ys
          → pick t ((k, r) ∷ given_to id (xs ++ ys)) (given_to id (xs ++ ys)) ≡ pick t ((k, r) ∷ given_to id xs) (given_to id xs) ++ given_to id ys
      go true e = rw e
      go false e = e
  given_append (Sets a v ∷ xs) ys = given_append xs ys
  given_append (Answers n ∷ xs) ys = given_append xs ys

  -- its own lines
  given_own : (cs : List Counted) → given_to id (says id cs) ≡ cs
  unfolding given_to
  given_own [] = refl
  given_own (c ∷ cs) = rw (eq-eqb id id refl, given_own cs)

  -- those of another id
  given_other : (other : ℕ) → id ≢ other → (cs : List Counted) → given_to id (says other cs) ≡ []
  unfolding given_to
  given_other other h [] = refl
  given_other other h (c ∷ cs) = rw (ne_eqb id other h) (given_other other h cs)

  -- `set` lines and the answer
  pub given_end : (ws : List Write) → given_to id (sets_of ws ++ Answers None ∷ []) ≡ []
  unfolding given_to sets_of
  given_end [] = refl
  given_end (w ∷ ws) = given_end ws

  -- a plan of entries with other ids
  given_none : (es : List Entry) (ps : List Place) → All (λ (j : ℕ). id ≢ j) (ids es) → given_to id (takes_of (assign es ps)) ≡ []
  unfolding given_to takes_of assign flat_map
  given_none [] ps h = refl
  given_none (x ∷ es) [] h = refl
  given_none (x ∷ es) (p ∷ ps) (cons h hs) =
      given_append (says x.id (counted_of p)) (takes_of (assign es ps)) ∙ rw (given_other x.id h (counted_of p), given_none es ps hs)

-- the place of an entry in a plan
pub record Placed (es : List Entry) (ps : List Place) (e : Entry) : Type 0 where
  pub place : Place
  pub among : Memᴰ place ps
  pub allowed : Allowed e.request place
  pub given : given_to e.id (takes_of (assign es ps)) ≡ counted_of place

pub placed : (es : List Entry) (ps : List Place) (e : Entry) → Each Allowed (requests_of es) ps → Distinct es → Memᴰ e es → Placed es ps e
unfolding requests_of assign takes_of flat_map
placed [] ps e each d m = absurd (Memᴰ.not-nil m)
placed (x ∷ es) (p ∷ ps) e (and a each) (add h d) m = go (Memᴰ.cases_cons m) (placed es ps e each d)
  where
    both_given : given_to e.id (says x.id (counted_of p) ++ takes_of (assign es ps)) ≡ given_to e.id (says x.id (counted_of p)) ++ given_to e.id (takes_of (assign es ps))
    both_given = given_append e.id (says x.id (counted_of p)) (takes_of (assign es ps))

    go : (e ≡ x) ⊎ Memᴰ e es → (Memᴰ e es → Placed es ps e) → Placed (x ∷ es) (p ∷ ps) e
    go (inl k) below =
        record {
          place = p;
          among = Memᴰ.head refl;
          allowed = rw k a;
          given = both_given ∙ rw (k, given_own x.id (counted_of p), given_none x.id es ps h, append-nil);
        }
    go (inr n) below =
        let g = below n in
        let apart : e.id ≢ x.id = λ is. all_member h (Memᴰ.map (λ (y : Entry). y.id) n) (sym is) in
        record {
          place = g.place;
          among = Memᴰ.tail g.among;
          allowed = g.allowed;
          given = both_given ∙ rw (given_other e.id x.id apart (counted_of p)) g.given;
        }
placed (x ∷ es) [] e each d m = elim each [ ]
