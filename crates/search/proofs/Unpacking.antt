-- A packed plan is not 0 and unpacks to the plan; 0 is no plan. Assumes nothing.
--     none-packed, some-packed   a number that is 0 stands for no plan, and any other for a plan
--     plan-packed                .. so that it tells whether the requests have a plan
--     plan-unpacked              the places read out of the number are those of the plan
use Rattle.std.specs.Prelude.{Option, None, Some}
use mathlib.Core.Path.{◌≡◌, refl, ap₂, sym, ◌∙◌}
use mathlib.Core.Bool.{Bool, true, false, not}
use mathlib.Core.List.{List, [], ◌∷◌, map}
use Prim.Native.Nat.{ℕ, zero, suc, ◌+◌, ◌-◌, ◌*◌, ◌/◌, ◌%◌, ◌^◌, ◌<◌, ◌≤◌}
use native.Mathlib.Omega.{arith}
use lib.Dec.{eqb}
use lib.Pow.{shr-shr}
use lib.ListN.{length, length-map}
use borrow.Author.Tests.{ne_eqb}
use Rattle.requests.specs.declared.Device.{Device}
use Rattle.requests.specs.declared.Setup.{Setup}
use Rattle.requests.specs.declared.Request.{Request}
use Rattle.requests.specs.declared.Request.TheVariants.{Event, Packet, Offcore, Latency}
use Rattle.requests.specs.Choice.{is_some, pick}
use Rattle.requests.specs.Devices.{counter_count}
use Rattle.requests.proofs.DeviceNumbers.{numbers}
use Rattle.plans.specs.declared.Place.{Place}
use Rattle.plans.specs.declared.Room.{Room}
use Rattle.plans.specs.Places.{first, second}
use Rattle.plans.specs.Narrowed.{narrowed, quiet_kept}
use Rattle.plans.specs.Search.{empty_room, place_of, width, plan_in, first_plan, has_plan_lem}
use Rattle.search.specs.Rows.{rows_from}
use Rattle.search.specs.Remaining.{plan_after}
use Rattle.plans.specs.Packed.{code_of, packed, place_at_lem, places_from}
use Rattle.plans.proofs.Placing.{Placed, none_left, next, plan_placed}
use Rattle.plans.proofs.FirstFound.{found_kept}
use Rattle.search.proofs.RequestRows.{rows_length}

-- ---- the two numbers of a place

pub place_first : (r : Request) (k j : ℕ) → first (place_of r k j) ≡ k
unfolding place_of first
place_first (Event c m a) k j = refl
place_first (Packet x y a) k j = refl
place_first (Offcore w a) k j = refl
place_first (Latency t a b) k j = refl

pub place_second : (n : ℕ) (r : Request) (k j : ℕ) → j < width n r → second (place_of r k j) ≡ j
unfolding place_of second width
place_second n (Event c m a) k j l = omega arith
place_second n (Packet x y a) k j l = omega arith
place_second n (Offcore w a) k j l = refl
place_second n (Latency t a b) k j l = refl

-- a device has at least one counter, and at most as many as six bits a place allow
pub counters_few : (d : Device) → (1 ≤ counter_count d) × (counter_count d ≤ 8)
counters_few d = ((numbers d).counters_some, omega (arith, (numbers d).counters_few))

width_fits : (n : ℕ) (r : Request) → n ≤ 8 → width n r ≤ 8
unfolding width
width_fits n (Event c m a) few = omega arith
width_fits n (Packet x y a) few = omega arith
width_fits n (Offcore w a) few = omega arith
width_fits n (Latency t a b) few = few

-- ---- whether there is a plan

code_pos : (ps : List Place) → 1 ≤ code_of ps
unfolding code_of
code_pos [] = omega arith
code_pos (p ∷ ps) = omega (arith, code_pos ps)

pub none_packed : (o : Option (List Place)) → packed o ≡ 0 → o ≡ None
unfolding packed
none_packed None e = refl
none_packed (Some ps) e = absurd (omega (arith, code_pos ps))

pub some_packed : (o : Option (List Place)) → (packed o ≡ 0 → ⊥) → (ps : List Place) × (o ≡ Some ps)
unfolding packed
some_packed None f = absurd (f refl)
some_packed (Some ps) f = (ps, refl)

pub plan_packed : (s : Setup) (rs : List Request) → eqb (packed (first_plan s rs)) 0 ≡ not (has_plan_lem s rs)
unfolding has_plan_lem packed
plan_packed s rs = go (first_plan s rs)
  where
    go : (o : Option (List Place)) → eqb (packed o) 0 ≡ not (is_some o)
    go None = refl
    go (Some ps) = ne_eqb (code_of ps) 0 (λ e. omega (arith, code_pos ps))

-- ---- its places

placed_back : (n : ℕ) → n ≤ 8 → {rs : List Request} {m : Room} {ps : List Place} → Placed n rs m ps → (code i : ℕ) → code / 2 ^ (6 * i) ≡ code_of ps → places_from code i rs ≡ ps
unfolding code_of places_from place_at_lem
placed_back n few none_left code i e = refl
placed_back n few (next {r = r} {k = k} {j = j} {ps = ps} f g a d) code i e =
    let fk = place_first r k j in
    let sj = place_second n r k j g in
    let wide = width_fits n r few in
    let whole : code / 2 ^ (6 * i) ≡ code_of ps * 64 + k * 8 + j = e ∙ rw (fk, sj) in
    let high : code / 2 ^ (6 * i) / 8 % 8 ≡ k = omega (arith, whole, f, g, wide, few) in
    let low : code / 2 ^ (6 * i) % 8 ≡ j = omega (arith, whole, f, g, wide, few) in
    let shift : 6 * (i + 1) ≡ 6 * i + 6 = omega arith in
    let rest : code / 2 ^ (6 * (i + 1)) ≡ code_of ps = rw (shift, ← shr-shr code (6 * i) 6) (omega (arith, whole, f, g, wide, few)) in
    rw (high, low, placed_back n few d code (i + 1) rest)

-- the places of requests as the rules leave them
place_narrowed : (d : Device) (r : Request) (k j : ℕ) → place_of (narrowed d r) k j ≡ place_of r k j
unfolding narrowed place_of
place_narrowed d (Event c m a) k j = refl
place_narrowed d (Packet x y a) k j = refl
place_narrowed d (Offcore w a) k j = refl
place_narrowed d (Latency t a b) k j = refl

places_narrowed : (d : Device) (code i : ℕ) (rs : List Request) → places_from code i (map (narrowed d) rs) ≡ places_from code i rs
unfolding places_from place_at_lem
places_narrowed d code i [] = refl
places_narrowed d code i (r ∷ rs) =
    ap₂ (λ (p : Place) (ps : List Place). p ∷ ps) (place_narrowed d r (code / 2 ^ (6 * i) / 8 % 8) (code / 2 ^ (6 * i) % 8)) (places_narrowed d code (i + 1) rs)

pub plan_unpacked : (s : Setup) (rs : List Request) (ps : List Place) → first_plan s rs ≡ Some ps → places_from (packed (first_plan s rs)) 0 rs ≡ ps
unfolding packed
plan_unpacked s rs ps e =
    let n = counter_count s.device in
    let found = (found_kept s rs ps e).1 in
    sym (places_narrowed s.device (packed (first_plan s rs)) 0 rs)
    ∙ placed_back n (counters_few s.device).1 (plan_placed n (map (narrowed s.device) rs) (empty_room s) ps found) (packed (first_plan s rs)) 0 (rw e (omega arith))

-- ---- how large the number is

-- 2 * 64 ^ k
limit : ℕ → ℕ
limit zero = 2
limit (suc k) = limit k * 64

limit_le : (k : ℕ) → k ≤ 7 → limit k ≤ 8796093022208
unfolding limit
limit_le zero h = omega arith
limit_le (suc zero) h = omega arith
limit_le (suc (suc zero)) h = omega arith
limit_le (suc (suc (suc zero))) h = omega arith
limit_le (suc (suc (suc (suc zero)))) h = omega arith
limit_le (suc (suc (suc (suc (suc zero))))) h = omega arith
limit_le (suc (suc (suc (suc (suc (suc zero)))))) h = omega arith
limit_le (suc (suc (suc (suc (suc (suc (suc zero))))))) h = omega arith
limit_le (suc (suc (suc (suc (suc (suc (suc (suc k)))))))) h = absurd (omega arith)

placed_code : (n : ℕ) → n ≤ 8 → {rs : List Request} {m : Room} {ps : List Place} → Placed n rs m ps → code_of ps < limit (length rs)
unfolding code_of limit
placed_code n few none_left = omega arith
placed_code n few (next {r = r} {k = k} {j = j} f g a d) =
    omega (arith, placed_code n few d, f, g, width_fits n r few, place_first r k j, place_second n r k j g)

-- the plan of at most 7 requests is below 2^43
pub plan_code : (n : ℕ) → n ≤ 8 → (rs : List Request) (m : Room) → length rs ≤ 7 → packed (plan_in n rs m) < 8796093022208
unfolding packed
plan_code n few rs m l = go (plan_in n rs m) refl
  where
    go : (o : Option (List Place)) → plan_in n rs m ≡ o → packed o < 8796093022208
    go None e = omega arith
    go (Some ps) e = omega (arith, placed_code n few (plan_placed n rs m ps e), limit_le (length rs) l)

pub first_code : (s : Setup) (rs : List Request) → length rs ≤ 7 → packed (first_plan s rs) < 8796093022208
unfolding first_plan packed
first_code s rs l = go (quiet_kept s rs)
  where
    plan : Option (List Place)
    plan = plan_in (counter_count s.device) (map (narrowed s.device) rs) (empty_room s)

    go : (b : Bool) → packed (pick b plan None) < 8796093022208
    go true = plan_code (counter_count s.device) (counters_few s.device).1 (map (narrowed s.device) rs) (empty_room s) (omega (arith, length-map rs (narrowed s.device)))
    go false = omega arith

pub rest_code : (n : ℕ) → n ≤ 8 → (rows : List ℕ) (at count : ℕ) (a : Option Room) (x : ℕ) → count - at ≤ 7 → x ≡ packed (plan_after n rows at count a) → x < 8796093022208
unfolding packed
rest_code n few rows at count (Some m) x l e = rw e (plan_code n few (rows_from rows at (count - at)) m (omega (arith, rows_length rows at (count - at))))
rest_code n few rows at count None x l e = rw e (omega arith)
