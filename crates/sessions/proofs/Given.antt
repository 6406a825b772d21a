-- The plan of a turn gives every request that it takes its counter. Assumes nothing.
--     assign-gives    a plan of entries gives each of them its place, and no other, at counters that it allows
--     in-plan         so a completed turn's plan has every entry that the turn takes
use mathlib.Core.Path.{◌≡◌, refl, ap, sym}
use mathlib.Core.Logic.{◌⊎◌, inl, inr}
use mathlib.Core.List.Memᴰ
use mathlib.Core.List.{List, [], ◌∷◌, map, map-append, Memᴰ}
use Prim.Native.Nat.{ℕ}
use Rattle.requests.specs.declared.Setup.{Setup}
use Rattle.requests.specs.declared.Entry.{Entry}
use Rattle.plans.specs.declared.Place.{Place}
use Rattle.plans.specs.Lists.{add, Each, and}
use Rattle.plans.specs.Places.{counters_of}
use Rattle.plans.specs.Legal.{Allowed, counters}
use Rattle.layouts.proofs.ListLaws.{all_member}
use Rattle.sessions.specs.Turns.{requests_of, taken, passed, turned, places_of, assign}
use Rattle.sessions.specs.DistinctIds.{Distinct}
use Rattle.sessions.specs.Sound.{Sound}
use Rattle.sessions.specs.Completed.{CompletedTurn}
use Rattle.sessions.specs.Demand3.{InPlan}
use Rattle.sessions.specs.declared.Assigned.{Assigned}
use Rattle.sessions.proofs.Lists.{all_joined, pairwise_right}
use Rattle.sessions.proofs.TakenPlan.{taken_first}
use Rattle.sessions.proofs.SoundKept.{sound_turned}
use Rattle.sessions.proofs.Faithful.{Planned}

-- the entry's id with a place
abbrev with_place : Entry → Place → Assigned
with_place e p = record { id = e.id; place = p }

-- an id that has a place is an entry's
assigned_id : (es : List Entry) (ps : List Place) (a : Assigned) → Memᴰ a (assign es ps) → Memᴰ a.id (map (λ (e : Entry). e.id) es)
unfolding assign
assigned_id [] ps a m = absurd (Memᴰ.not-nil m)
assigned_id (e ∷ es) [] a m = absurd (Memᴰ.not-nil m)
assigned_id (e ∷ es) (p ∷ ps) a m = go (Memᴰ.cases_cons m) (assigned_id es ps a)
  where
    go : (a ≡ with_place e p) ⊎ Memᴰ a (assign es ps)
        → (Memᴰ a (assign es ps) → Memᴰ a.id (map (λ (x : Entry). x.id) es))
        → Memᴰ a.id (e.id ∷ map (λ (x : Entry). x.id) es)
    go (inl k) below = Memᴰ.head (ap (λ (x : Assigned). x.id) k)
    go (inr k) below = Memᴰ.tail (below k)

-- the entry's place in a plan
record Gives (es : List Entry) (ps : List Place) (e : Entry) : Type 0 where
  place : Place
  among : Memᴰ place ps
  given : Memᴰ (with_place e place) (assign es ps)
  only : (other : Place) → Memᴰ (with_place e other) (assign es ps) → other ≡ place
  allowed : Allowed e.request place

assign_gives : (es : List Entry) (ps : List Place) (e : Entry) → Each Allowed (requests_of es) ps → Distinct es → Memᴰ e es → Gives es ps e
unfolding requests_of assign
assign_gives [] ps e each d m = absurd (Memᴰ.not-nil m)
assign_gives (x ∷ es) (p ∷ ps) e (and a each) (add h d) m = go (Memᴰ.cases_cons m) (assign_gives es ps e each d)
  where
    -- the first entry's id has no other place
    first_only : e ≡ x → (other : Place) → (with_place e other ≡ with_place x p) ⊎ Memᴰ (with_place e other) (assign es ps) → other ≡ p
    first_only k other (inl r) = ap (λ (y : Assigned). y.place) r
    first_only k other (inr n) = absurd (all_member h (assigned_id es ps (with_place e other) n) (ap (λ (y : Entry). y.id) (sym k)))

    -- nor has the id of a later entry
    later_only : Memᴰ e es → (g : Gives es ps e) (other : Place) → (with_place e other ≡ with_place x p) ⊎ Memᴰ (with_place e other) (assign es ps) → other ≡ g.place
    later_only n g other (inl r) = absurd (all_member h (Memᴰ.map (λ (y : Entry). y.id) n) (sym (ap (λ (y : Assigned). y.id) r)))
    later_only n g other (inr k) = g.only other k

    go : (e ≡ x) ⊎ Memᴰ e es → (Memᴰ e es → Gives es ps e) → Gives (x ∷ es) (p ∷ ps) e
    go (inl k) below =
        record {
          place = p;
          among = Memᴰ.head refl;
          given = Memᴰ.head (ap (λ (y : Entry). with_place y p) k);
          only = λ other n. first_only k other (Memᴰ.cases_cons n);
          allowed = rw k a;
        }
    go (inr n) below =
        let g = below n in
        record {
          place = g.place;
          among = Memᴰ.tail g.among;
          given = Memᴰ.tail g.given;
          only = λ other k. later_only n g other (Memᴰ.cases_cons k);
          allowed = g.allowed;
        }
assign_gives (x ∷ es) [] e each d m = elim each [ ]

-- the ids taken are distinct
pub taken_distinct : (limit : ℕ) (s : Setup) (q : List Entry) → Sound limit s q → Distinct (taken s q)
unfolding turned
taken_distinct limit s q sound =
    pairwise_right (map (λ (e : Entry). e.id) (passed s q))
    (rw (map-append (λ (e : Entry). e.id) (passed s q) (taken s q)) at (sound_turned limit s q sound).distinct)

pub in_plan : (limit : ℕ) (t : CompletedTurn) (e : Entry) → Planned t → Sound limit t.setup t.queue → Memᴰ e (taken t.setup t.queue) → InPlan t e
unfolding counters
in_plan limit t e planned sound m =
    let es : List Entry = taken t.setup t.queue in
    let ps : List Place = places_of t.setup es in
    let first = taken_first t.setup t.queue in
    let g : Gives es ps e = assign_gives es ps e first.legal.allowed (taken_distinct limit t.setup t.queue sound) m in
    record {
      places = ps;
      first = first;
      answered = planned;
      takes = m;
      place = g.place;
      given = rw planned g.given;
      only = λ other n. g.only other (rw planned at n);
      usable = all_joined counters_of ps first.legal.usable_only g.among;
      allowed = g.allowed;
    }
