-- The condition of each row of the table holds exactly where document 01's does. Assumes nothing.
--     setup-test, id-test, waits-test, alone-test, full-test, short-test    rows 3, 4, 5 and 6, 12, 13, 14
--     many-test, turns-short-test    rows 10 and 14 of turns at once
use mathlib.Core.Path.{◌≡◌, refl, ap, sym, subst, ◌∙◌}
use mathlib.Core.List.Memᴰ
use mathlib.Core.List.{List, [], ◌∷◌, map}
use mathlib.Core.Logic.{◌⊎◌, inl, inr, ◌↔◌}
use mathlib.Core.Bool.{Bool, true, false, not, false≢true}
use mathlib.Mathlib.Data.Bool.Basic.{eq-false_of_not-eq-true, eq-true_of_not-eq-false}
use Prim.Native.Nat.{ℕ, zero, suc, ◌*◌, ◌≤◌, ◌<◌}
use native.Mathlib.Omega.{arith}
use lib.Dec.{ltb, leb, eqb}
use lib.ListN.{length}
use borrow.Author.Tests.{ltb-true, ltb-false, leb-true, eqb-true, eqb-false, not-true, lt-ltb, le-leb}
use Rattle.requests.specs.declared.Setup.{Setup}
use Rattle.requests.specs.declared.Request.{Request}
use Rattle.requests.specs.declared.Entry.{Entry}
use Rattle.requests.specs.Choice.{either}
use Rattle.requests.proofs.Tests.{either_true, either_parts, either_cases}
use Rattle.plans.specs.declared.Place.{Place}
use Rattle.plans.specs.Legal.{HasPlan}
use Rattle.plans.specs.Order.{First}
use Rattle.plans.specs.Search.{has_plan_lem}
use Rattle.plans.proofs.FirstFound.{first_plan_lem}
use Rattle.plans.proofs.PlanTestHolds.{plan_test}
use Rattle.layouts.specs.Writes.{Write, writes}
use Rattle.sessions.specs.Turns.{requests_of, taken, places_of, writes_of, lists_of, joined}
use Rattle.sessions.specs.Calls.{waits}
use Rattle.sessions.specs.Table.{outside_ids, turns_limit}
use Rattle.sessions.specs.RefusalTable.{IsId, Waits, Lists}
use Rattle.sessions.proofs.TakenPlan.{taken_first}
use Rattle.sessions.proofs.TurnLists.{lists_hold, lists_are}

-- a test of the contrary
pub not_test : {b : Bool} {P : Type 0} → (b ≡ true) ↔ P → (not b ≡ true) ↔ (¬ P)
not_test {b} e = (λ h p. false≢true (sym (not-true b h) ∙ e.1 p), λ n. ap not (eq-false_of_not-eq-true (λ h. n (e.0 h))))

-- ---- 4: id 0 or above 65535

-- "an id 1..65535", at its bounds
id_bounds : map outside_ids (0 ∷ 1 ∷ 65535 ∷ 65536 ∷ []) ≡ true ∷ false ∷ false ∷ true ∷ []
unfolding outside_ids either
id_bounds = refl

outside : (id : ℕ) → outside_ids id ≡ true → ¬ IsId id
unfolding outside_ids
outside id e i = go (either_cases (eqb id 0) (ltb 65535 id) e)
  where
    go : (eqb id 0 ≡ true) ⊎ (ltb 65535 id ≡ true) → ⊥
    go (inl h) = omega (arith, eqb-true id 0 h, i.0)
    go (inr h) = omega (arith, ltb-true 65535 id h, i.1)

pub inside : (id : ℕ) → outside_ids id ≡ false → IsId id
unfolding outside_ids
inside id e = let t = either_parts (eqb id 0) (ltb 65535 id) e in (positive id (eqb-false id 0 t.0), ltb-false 65535 id t.1)
  where
    positive : (n : ℕ) → ¬ (n ≡ 0) → 1 ≤ n
    positive zero h = absurd (h refl)
    positive (suc n) h = omega arith

pub id_test : (id : ℕ) → (outside_ids id ≡ true) ↔ (¬ IsId id)
id_test id = (outside id, λ n. eq-true_of_not-eq-false (λ h. n (inside id h)))

-- ---- 5: the id is waiting; 6: it isn't

waits_yes : (id : ℕ) (q : List Entry) → waits id q ≡ true → Waits id q
unfolding waits
waits_yes id [] e = absurd (false≢true e)
waits_yes id (x ∷ q) e = go (either_cases (eqb id x.id) (waits id q) e) (waits_yes id q)
  where
    go : (eqb id x.id ≡ true) ⊎ (waits id q ≡ true) → (waits id q ≡ true → Waits id q) → Waits id (x ∷ q)
    go (inl h) below = Memᴰ.head (eqb-true id x.id h)
    go (inr h) below = Memᴰ.tail (below h)

waits_no : (id : ℕ) (q : List Entry) → waits id q ≡ false → Waits id q → ⊥
unfolding waits
waits_no id [] e m = Memᴰ.not-nil m
waits_no id (x ∷ q) e m = go (Memᴰ.cases_cons m) (waits_no id q (either_parts (eqb id x.id) (waits id q) e).1)
  where
    go : (id ≡ x.id) ⊎ Waits id q → (Waits id q → ⊥) → ⊥
    go (inl h) below = eqb-false id x.id (either_parts (eqb id x.id) (waits id q) e).0 h
    go (inr n) below = below n

pub waits_test : (id : ℕ) (q : List Entry) → (waits id q ≡ true) ↔ Waits id q
waits_test id q = (waits_yes id q, λ w. eq-true_of_not-eq-false (λ h. waits_no id q h w))

-- ---- 12: the request has no plan alone

pub alone_test : (s : Setup) (r : Request) → (not (has_plan_lem s (r ∷ [])) ≡ true) ↔ (¬ HasPlan s (r ∷ []))
alone_test s r = not_test (plan_test.has_plan s (r ∷ []), plan_test.planned s (r ∷ []))

-- ---- 13: queue full

pub full_test : (limit n : ℕ) → (leb limit n ≡ true) ↔ (limit ≤ n)
full_test limit n = (leb-true limit n, le-leb limit n)

-- ---- 14: slice shorter than twice the writes of the first legal plan of those taken, which is the plan found

pub short_test : (s : Setup) (q : List Entry) (room : ℕ)
    → (ltb room (2 * length (writes_of s (taken s q))) ≡ true)
    ↔ ((ps : List Place) × First s (requests_of (taken s q)) ps × (room < 2 * length (writes s (requests_of (taken s q)) ps)))
unfolding writes_of
short_test s q room =
    (λ h. (places_of s (taken s q), taken_first s q, ltb-true room needed h), λ t. lt-ltb room needed (found t.0 t.1 t.2))
  where
    needed : ℕ
    needed = 2 * length (writes s (requests_of (taken s q)) (places_of s (taken s q)))

    found : (ps : List Place) → First s (requests_of (taken s q)) ps → room < 2 * length (writes s (requests_of (taken s q)) ps) → room < needed
    found ps f l =
        let e : ps ≡ places_of s (taken s q) = first_plan_lem.only s (requests_of (taken s q)) ps (places_of s (taken s q)) f (taken_first s q) in
        subst (λ (x : List Place). room < 2 * length (writes s (requests_of (taken s q)) x)) e l

-- ---- turns at once: 10, more than 64; 14, either slice is too short for all

pub many_test : (n : ℕ) → (ltb turns_limit n ≡ true) ↔ (64 < n)
unfolding turns_limit
many_test n = (ltb-true 64 n, lt-ltb 64 n)

pub turns_short_test : (s : Setup) (q : List Entry) (n room places : ℕ)
    → (either (ltb room (2 * length (joined (lists_of s n q)))) (ltb places n) ≡ true)
    ↔ (((lists : List (List Write)) × Lists s n q lists × (room < 2 * length (joined lists))) ⊎ (places < n))
unfolding either
turns_short_test s q n room places = (λ h. to (either_cases (ltb room needed) (ltb places n) h), from)
  where
    needed : ℕ
    needed = 2 * length (joined (lists_of s n q))

    to : (ltb room needed ≡ true) ⊎ (ltb places n ≡ true) → ((lists : List (List Write)) × Lists s n q lists × (room < 2 * length (joined lists))) ⊎ (places < n)
    to (inl h) = inl (lists_of s n q, lists_hold s n q, ltb-true room needed h)
    to (inr h) = inr (ltb-true places n h)

    from : ((lists : List (List Write)) × Lists s n q lists × (room < 2 * length (joined lists))) ⊎ (places < n) → either (ltb room needed) (ltb places n) ≡ true
    from (inl t) = ap (λ (b : Bool). either b (ltb places n)) (lt-ltb room needed (subst (λ (x : List (List Write)). room < 2 * length (joined x)) (lists_are t.1) t.2))
    from (inr l) = ap (either (ltb room needed)) (lt-ltb places n l) ∙ either_true (ltb room needed)
