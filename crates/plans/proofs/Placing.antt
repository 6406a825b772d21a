-- The search finds the first of the plans whose requests can be placed one after another. Assumes nothing.
--     Placed        each request is admitted at its place in the room that those before it leave
--     plan-placed   the plan that is found can be placed
--     plan-first    where requests can be placed there is a plan, and none that can be placed is before it
use Rattle.std.specs.Prelude.{Option, None, Some}
use mathlib.Core.Path.{◌≡◌, refl, ap, ◌∙◌}
use mathlib.Core.Logic.{◌⊎◌, inl, inr, ⊎_elim}
use mathlib.Core.List.{List, [], ◌∷◌}
use Prim.Native.Nat.{ℕ, zero, suc, ◌+◌, ◌*◌, ◌/◌, ◌%◌, ◌<◌, ◌≤◌}
use native.Mathlib.Nat.{div-add-mod', div-lt_iff_lt-mul, mod-lt, eq-or-lt_of_le, mul-zero}
use native.Mathlib.Decide.{dec_lt}
use native.Mathlib.Omega.{arith}
use lib.Arith.{digits_lt, digits_div, digits_mod}
use Rattle.requests.specs.declared.Request.{Request}
use Rattle.requests.specs.declared.Request.TheVariants.{Event, Packet, Offcore, Latency}
use Rattle.plans.specs.declared.Room.{Room}
use Rattle.plans.specs.declared.Place.{Place}
use Rattle.plans.specs.Places.{first, second}
use Rattle.plans.specs.Order.{Earlier, Before, here, later}
use Rattle.plans.specs.Search.{place_of, admit, width, first_from, put_first, then_rest, try_number, plan_in}

pub data Placed (n : ℕ) : List Request → Room → List Place → Type 0 where
  none_left : {m : Room} → Placed n [] m []
  next : {r : Request} {rs : List Request} {m room : Room} {k j : ℕ} {ps : List Place}
      → k < n → j < width n r → admit r k j m ≡ Some room → Placed n rs room ps → Placed n (r ∷ rs) m (place_of r k j ∷ ps)

-- equal, or before
abbrev pub NotAfter : List Place → List Place → Type 0
NotAfter ps qs = (ps ≡ qs) ⊎ Before ps qs

not_after_rest : (p : Place) (ps qs : List Place) → NotAfter ps qs → NotAfter (p ∷ ps) (p ∷ qs)
not_after_rest p ps qs (inl e) = inl (ap (λ (l : List Place). p ∷ l) e)
not_after_rest p ps qs (inr b) = inr (later b)

-- places go by their two numbers
place_earlier : (n : ℕ) (r : Request) (k j k' j' : ℕ) → j < width n r → j' < width n r → (k < k') ⊎ ((k ≡ k') × (j < j')) → Earlier (place_of r k j) (place_of r k' j')
unfolding place_of width first second
place_earlier n (Event c m a) k j k' j' h g (inl l) = inl l
place_earlier n (Event c m a) k j k' j' h g (inr l) = let z = l.1 in absurd (omega arith)
place_earlier n (Packet x y a) k j k' j' h g (inl l) = inl l
place_earlier n (Packet x y a) k j k' j' h g (inr l) = let z = l.1 in absurd (omega arith)
place_earlier n (Offcore w a) k j k' j' h g l = l
place_earlier n (Latency t a b) k j k' j' h g l = l

-- and so do their numbers
digits_before : (w p q : ℕ) → 0 < w → p < q → (p / w < q / w) ⊎ ((p / w ≡ q / w) × (p % w < q % w))
digits_before w p q pos l = go (dec_lt (p / w) (q / w)) (dec_lt (q / w) (p / w))
  where
    go : Dec (p / w < q / w) → Dec (q / w < p / w) → (p / w < q / w) ⊎ ((p / w ≡ q / w) × (p % w < q % w))
    go (yes a) d = inl a
    go (no a) (yes b) = absurd (omega (arith, digits_lt b (mod-lt q pos), div-add-mod' p w, div-add-mod' q w))
    go (no a) (no b) =
        let e : p / w ≡ q / w = omega arith in
        inr (e, omega (arith, rw e at (div-add-mod' p w), div-add-mod' q w))

width_pos : (n w p : ℕ) → p < n * w → 0 < w
width_pos n zero p l = omega (arith, mul-zero n)
width_pos n (suc w) p l = omega arith

-- a result of the search comes from a number
first_some : {B : Type 0} (f : ℕ → Option B) (p left : ℕ) (b : B) → first_from f p left ≡ Some b → (q : ℕ) × (q < p + left) × (f q ≡ Some b)
unfolding first_from
first_some f p zero b e = let z : ◌≡◌ {A = ℕ} 0 1 = cc in absurd (omega arith)
first_some {B} f p (suc left) b e = go (first_some f (suc p) left b) (f p) refl
  where
    go : (first_from f (suc p) left ≡ Some b → (q : ℕ) × (q < suc p + left) × (f q ≡ Some b)) → (o : Option B) → f p ≡ o → (q : ℕ) × (q < p + suc left) × (f q ≡ Some b)
    go below None h = let r = below (rw (h, first_from) at e) in (r.0, omega (arith, r.1), r.2)
    go below (Some c) h = let e2 : Some c ≡ Some b = rw (h, first_from) at e in (p, omega arith, h ∙ e2)

-- a result of the search is the one of the least number
first_least : {B : Type 0} (f : ℕ → Option B) (p left q : ℕ) (b : B) → p ≤ q → q < p + left → f q ≡ Some b
    → (k : ℕ) × (c : B) × (k ≤ q) × (f k ≡ Some c) × (first_from f p left ≡ Some c)
unfolding first_from
first_least {B} f p zero q b l h e = absurd (omega arith)
first_least {B} f p (suc left) q b l h e = go (λ n. first_least f (suc p) left q b n (omega arith) e) (f p) refl
  where
    go : (suc p ≤ q → (k : ℕ) × (c : B) × (k ≤ q) × (f k ≡ Some c) × (first_from f (suc p) left ≡ Some c))
        → (o : Option B) → f p ≡ o → (k : ℕ) × (c : B) × (k ≤ q) × (f k ≡ Some c) × (first_from f p (suc left) ≡ Some c)
    go later' (Some c) k = (p, c, l, k, rw (k, first_from))
    go later' None k =
        let differ : p ≡ q → p < q = λ same. let z : ◌≡◌ {A = ℕ} 0 1 = cc in omega arith in
        let r = later' (⊎_elim differ (λ x. x) (eq-or-lt_of_le l)) in
        (r.0, r.1, r.2, r.3, rw (k, first_from) r.4)

-- a plan that is found for a place has that place first, and the rest is a plan in the room that is left
after_place : (rest : Room → Option (List Place)) (p : Place) (a : Option Room) (ps : List Place) → then_rest rest p a ≡ Some ps
    → (k : Room) × (qs : List Place) × (a ≡ Some k) × (rest k ≡ Some qs) × (ps ≡ p ∷ qs)
unfolding then_rest put_first
after_place rest p None ps e = let z : ◌≡◌ {A = ℕ} 0 1 = cc in absurd (omega arith)
after_place rest p (Some k) ps e = go (rest k) refl e
  where
    go : (o : Option (List Place)) → rest k ≡ o → put_first p o ≡ Some ps
        → (j : Room) × (qs : List Place) × (Some k ≡ Some j) × (rest j ≡ Some qs) × (ps ≡ p ∷ qs)
    go None h e' = let z : ◌≡◌ {A = ℕ} 0 1 = cc in absurd (omega arith)
    go (Some qs) h e' = (k, qs, refl, h, (cc))

pub plan_placed : (n : ℕ) (rs : List Request) (m : Room) (ps : List Place) → plan_in n rs m ≡ Some ps → Placed n rs m ps
unfolding plan_in try_number
plan_placed n [] m ps e = let h : ps ≡ [] = cc in rw h none_left
plan_placed n (r ∷ rs) m ps e =
    let w = width n r in
    let q = first_some (try_number (plan_in n rs) n r m) 0 (n * w) ps e in
    let below : q.0 < n * w = omega (arith, q.1) in
    let pos = width_pos n w q.0 below in
    let a = after_place (plan_in n rs) (place_of r (q.0 / w) (q.0 % w)) (admit r (q.0 / w) (q.0 % w) m) ps q.2 in
    rw a.4 (next ((div-lt_iff_lt-mul pos).1 below) (mod-lt q.0 pos) a.2 (plan_placed n rs a.0 a.1 a.3))

-- the plan c at place number k is not after a plan at a number that is no less
least_first : (n : ℕ) (r : Request) (f : ℕ → Option (List Place)) (k number : ℕ) (p : Place) (c found rest qs : List Place)
    → place_of r (number / width n r) (number % width n r) ≡ p → 0 < width n r → k ≤ number → f k ≡ Some c → f number ≡ Some (p ∷ found)
    → c ≡ place_of r (k / width n r) (k % width n r) ∷ rest → NotAfter found qs → NotAfter c (p ∷ qs)
least_first n r f k number p c found rest qs at pos l fk fn head na = ⊎_elim same less (eq-or-lt_of_le l)
  where
    same : k ≡ number → NotAfter c (p ∷ qs)
    same x = let e : c ≡ p ∷ found = cc in rw e (not_after_rest p found qs na)

    less : k < number → NotAfter c (p ∷ qs)
    less x =
        let w = width n r in
        rw (head, ← at) (inr (here (place_earlier n r (k / w) (k % w) (number / w) (number % w) (mod-lt k pos) (mod-lt number pos) (digits_before w k number pos x))))

pub plan_first : (n : ℕ) {rs : List Request} {m : Room} {qs : List Place} → Placed n rs m qs → (ps : List Place) × (plan_in n rs m ≡ Some ps) × NotAfter ps qs
unfolding plan_in try_number then_rest put_first
plan_first n none_left = ([], refl, inl refl)
plan_first n (next {r = r} {rs = rs} {m = m} {room = room} {k = k} {j = j} {ps = qs} f g e d) =
    let w : ℕ = width n r in
    let number : ℕ = k * w + j in
    let below = plan_first n d in
    let at : place_of r (number / w) (number % w) ≡ place_of r k j = λ i. place_of r (digits_div k g i) (digits_mod k g i) in
    let found : try_number (plan_in n rs) n r m number ≡ Some (place_of r k j ∷ below.0) = rw (digits_div k g, digits_mod k g, e, below.1) in
    let least = first_least (try_number (plan_in n rs) n r m) 0 (n * w) number (place_of r k j ∷ below.0) (omega arith) (omega (arith, digits_lt f g)) found in
    let head = after_place (plan_in n rs) (place_of r (least.0 / w) (least.0 % w)) (admit r (least.0 / w) (least.0 % w) m) least.1 least.3 in
    (least.1, least.4, least_first n r (try_number (plan_in n rs) n r m) least.0 number (place_of r k j) least.1 below.0 head.1 qs at (omega arith) least.2 least.3 found head.4 below.2)
