-- The places of a request tried in order give the plan of the requests that remain. Assumes nothing.
use Rattle.std.specs.Prelude.{Option, None, Some}
use mathlib.Core.Path.{◌≡◌, refl, sym, ◌∙◌}
use mathlib.Core.Bool.{Bool, true, false}
use mathlib.Core.List.{List}
use Prim.Native.Nat.{ℕ, zero, suc, ◌+◌, ◌-◌, ◌*◌, ◌/◌, ◌%◌, ◌<◌, ◌≤◌}
use native.Mathlib.Nat.{mul-le-mul, sub-zero, suc-mul, mul-one, le_refl, le-div_iff_mul-le, div-lt_iff_lt-mul}
use native.Mathlib.Numerals.{add-one}
use native.Mathlib.Omega.{arith}
use lib.Arith.{digits_lt, digits_div, digits_mod}
use Rattle.requests.specs.declared.CounterSet.{CounterSet}
use Rattle.requests.specs.declared.Setup.{Setup}
use Rattle.requests.specs.declared.Request.{Request}
use Rattle.requests.specs.declared.Request.TheVariants.{Event, Packet}
use Rattle.requests.specs.Choice.{both, pick}
use Rattle.requests.specs.Devices.{has, counter_count}
use Rattle.plans.specs.declared.Place.{Place}
use Rattle.plans.specs.declared.Place.TheVariants.{Counter}
use Rattle.plans.specs.declared.Room.{Room}
use Rattle.search.specs.declared.left.Left.{Left}
use Rattle.plans.specs.Places.{first, second}
use Rattle.plans.specs.Search.{empty_room, holds_packet, take_counter, place_of, admit, width, first_from, put_first, then_rest, try_number, plan_in}
use Rattle.search.specs.Rows.{request_at, rows_from}
use Rattle.search.specs.Counters.{available}
use Rattle.search.specs.Left.{without_counter, with_packet}
use Rattle.search.specs.Filters.{filter_of, room_of}
use Rattle.search.specs.Remaining.{plan_from, plan_after, counter_first, plan_counter}
use Rattle.plans.specs.Packed.{code_of, packed}
use Rattle.search.proofs.RequestRows.{rows_next}
use Rattle.search.proofs.Admitting.{counter_taken, counter_missing, counter_chosen, packet_held}
use Rattle.search.proofs.Unpacking.{none_packed, place_first, place_second}

-- ---- numbered tries: number p gives the place before the rest, whose packed plan is x

module _ (try : ℕ → Option (List Place)) (p total : ℕ) (place : Place) (rest : Option (List Place)) (x : ℕ) (l : p < total)
    (tried : try p ≡ put_first place rest) (e : x ≡ packed rest) where
  try_hit : (x ≡ 0 → ⊥) → x * 64 + first place * 8 + second place ≡ packed (first_from try p (total - p))
  unfolding first_from packed code_of put_first
  try_hit plan =
      let s : total - p ≡ suc (total - (p + 1)) = omega arith in
      rw s (go rest tried e)
    where
      go : (o : Option (List Place)) → try p ≡ put_first place o → x ≡ packed o → x * 64 + first place * 8 + second place ≡ packed (first_from try p (suc (total - (p + 1))))
      go None t h = absurd (plan h)
      go (Some ps) t h = rw (t, first_from, h)

  try_next : x ≡ 0 → first_from try p (total - p) ≡ first_from try (p + 1) (total - (p + 1))
  unfolding first_from put_first
  try_next z =
      let s : total - p ≡ suc (total - (p + 1)) = omega arith in
      let nothing : try p ≡ None = tried ∙ rw (none_packed rest (sym e ∙ z)) in
      rw (s, nothing, first_from) (rw (← add-one p))

try_done : (try : ℕ → Option (List Place)) (p total : ℕ) → total ≤ p → first_from try p (total - p) ≡ None
unfolding first_from
try_done try p total l = let z : total - p ≡ 0 = omega arith in rw z

-- one try, and those after it
pub first_none : (try : ℕ → Option (List Place)) (p left : ℕ) → try p ≡ None → first_from try p (suc left) ≡ first_from try (suc p) left
unfolding first_from
first_none try p left e = rw (e, first_from)

pub first_some : (try : ℕ → Option (List Place)) (p left : ℕ) (ps : List Place) → try p ≡ Some ps → first_from try p (suc left) ≡ Some ps
unfolding first_from
first_some try p left ps e = rw (e, first_from)

none_tried : (try : ℕ → Option (List Place)) → ((p : ℕ) → try p ≡ None) → (p left : ℕ) → first_from try p left ≡ None
unfolding first_from
none_tried try h p zero = refl
none_tried try h p (suc left) = rw (h p, first_from) (none_tried try h (suc p) left)

-- tries that give nothing are passed over
tries_skipped : (try : ℕ → Option (List Place)) (total p q : ℕ) → p ≤ q → ((i : ℕ) → p ≤ i → i < q → try i ≡ None) → first_from try p (total - p) ≡ first_from try q (total - q)
unfolding first_from
tries_skipped try total p q l h = go (q - p) p (omega arith) h
  where
    step : (r : ℕ) → try r ≡ None → first_from try r (total - r) ≡ first_from try (suc r) (total - suc r)
    step r e = past (total - r) refl
      where
        past : (left : ℕ) → total - r ≡ left → first_from try r left ≡ first_from try (suc r) (total - suc r)
        past zero z = let y : total - suc r ≡ 0 = omega arith in rw y
        past (suc left) z = let y : total - suc r ≡ left = omega arith in rw (y, e, first_from)

    go : (gap r : ℕ) → r + gap ≡ q → ((i : ℕ) → r ≤ i → i < q → try i ≡ None) → first_from try r (total - r) ≡ first_from try q (total - q)
    go zero r e f = let same : r ≡ q = omega arith in rw same
    go (suc gap) r e f = step r (f r (omega arith) (omega arith)) ∙ go gap (suc r) (omega arith) (λ i a b. f i (omega arith) b)

-- ---- the request in row `at`

module _ (n : ℕ) (rows : List ℕ) (at count : ℕ) where
  pub none_remain : (m : Room) → at ≡ count → 1 ≡ packed (plan_from n rows at count m)
  unfolding plan_in rows_from packed code_of
  none_remain m e = let z : count - at ≡ 0 = omega arith in rw z

  -- the rest is planned in the room that is left
  rest_planned : (p : Place) (a : Option Room) → then_rest (plan_in n (rows_from rows at (count - at))) p a ≡ put_first p (plan_after n rows at count a)
  unfolding then_rest put_first
  rest_planned p (Some room) = refl
  rest_planned p None = refl

  -- a counter is taken where the register is held, and the plan of the rest is x
  module _ (a : CounterSet) (k : ℕ) (left : Left) (held : Bool) (x : ℕ) where
    pub held_taken : (after : Left) (y : ℕ) → held ≡ true → available a left.free k ≡ true → after ≡ without_counter left k
        → y ≡ packed (plan_from n rows at count (room_of rows after)) → x ≡ y → x ≡ packed (plan_after n rows at count (pick held (take_counter a k (room_of rows left)) None))
    held_taken after y h free e planned is = rw (h, counter_taken rows a k left after free e, is) planned

    pub held_not : held ≡ false → x ≡ 0 → x ≡ packed (plan_after n rows at count (pick held (take_counter a k (room_of rows left)) None))
    unfolding packed
    held_not h z = rw h z

-- the try of place number p
abbrev tries : ℕ → List ℕ → ℕ → ℕ → Request → Room → ℕ → Option (List Place)
tries n rows at count r m = try_number (plan_in n (rows_from rows (at + 1) (count - (at + 1)))) n r m

-- the same, where `taken` says what each place leaves
unfoldable pub tries_taking : ℕ → List ℕ → ℕ → ℕ → Request → (ℕ → ℕ → Option Room) → ℕ → Option (List Place)
tries_taking n rows at count r taken p =
    let w = width n r in
    then_rest (plan_in n (rows_from rows (at + 1) (count - (at + 1)))) (place_of r (p / w) (p % w)) (taken (p / w) (p % w))

-- the first result from the place (k, j) on
abbrev pub tries_from : ℕ → ℕ → (ℕ → Option (List Place)) → ℕ → ℕ → Option (List Place)
tries_from n w try k j = first_from try (k * w + j) (n * w - (k * w + j))

module _ (n : ℕ) (rows : List ℕ) (at count : ℕ) (r : Request) (taken : ℕ → ℕ → Option Room) where
  abbrev try : ℕ → Option (List Place)
  try = tries_taking n rows at count r taken

  -- `asked` is the row's request, and `r` has the same places
  pub tries_begin : (asked : Request) (m : Room) (w : ℕ) → at < count → asked ≡ request_at rows at → w ≡ width n asked
      → w ≡ width n r → ((k j : ℕ) → place_of asked k j ≡ place_of r k j) → ((k j : ℕ) → admit asked k j m ≡ taken k j)
      → plan_from n rows at count m ≡ tries_from n w try 0 0
  unfolding plan_in try_number tries_taking
  tries_begin asked m w l e g h places same =
      let z : 0 * w + 0 ≡ 0 = omega arith in
      rw (rows_next rows at count l, ← e, ← g, z) (rw (sub-zero (n * w)) (λ i. first_from (λ p. number p i) 0 (n * w)))
    where
      number : (p : ℕ) → tries n rows at count asked m p ≡ try p
      number p = rw (← g, ← h, places (p / w) (p % w), same (p / w) (p % w))

  module _ (w k j : ℕ) (e : w ≡ width n r) (l : j < w) where
    pub place_tried : try (k * w + j) ≡ put_first (place_of r k j) (plan_after n rows (at + 1) count (taken k j))
    unfolding tries_taking
    place_tried = rw (← e, digits_div k l, digits_mod k l) (rest_planned n rows (at + 1) count (place_of r k j) (taken k j))

    module _ (below : k < n) (x : ℕ) (g : x ≡ packed (plan_after n rows (at + 1) count (taken k j))) where
      inside : k * w + j < n * w
      inside = digits_lt below l

      pub tries_hit : (x ≡ 0 → ⊥) → x * 64 + k * 8 + j ≡ packed (tries_from n w try k j)
      tries_hit plan = rw (place_first r k j, place_second n r k j (rw (← e) l)) at (try_hit try (k * w + j) (n * w) (place_of r k j) _ x inside place_tried g plan)

      pub tries_next : x ≡ 0 → tries_from n w try k j ≡ tries_from n w try k (j + 1)
      tries_next z =
          let s : k * w + (j + 1) ≡ k * w + j + 1 = omega arith in
          rw s (try_next try (k * w + j) (n * w) (place_of r k j) _ x inside place_tried g z)

      pub tries_carry : x ≡ 0 → j + 1 ≡ w → tries_from n w try k j ≡ tries_from n w try (k + 1) 0
      tries_carry z c =
          let row : (k + 1) * w ≡ k * w + w = rw (add-one k) (suc-mul k w) in
          let s : (k + 1) * w + 0 ≡ k * w + j + 1 = omega (arith, row) in
          rw s (try_next try (k * w + j) (n * w) (place_of r k j) _ x inside place_tried g z)

  -- counters that are not there are passed over
  pub places_skipped : (w k l : ℕ) → w ≡ width n r → 1 ≤ w → k ≤ l → ((i : ℕ) → k ≤ i → i < l → (j : ℕ) → taken i j ≡ None)
      → tries_from n w try k 0 ≡ tries_from n w try l 0
  unfolding tries_taking then_rest
  places_skipped w k l e wide lower missing =
      tries_skipped try (n * w) (k * w + 0) (l * w + 0) (omega (arith, mul-le-mul lower (le_refl w)))
      (λ p from below. rw (← e, missing (p / w) ((le-div_iff_mul-le wide).1 (omega arith)) ((div-lt_iff_lt-mul wide).1 (omega arith)) (p % w)))

pub tries_done : (n w k j : ℕ) (try : ℕ → Option (List Place)) → n ≤ k → tries_from n w try k j ≡ None
tries_done n w k j try h =
    let row : n * w ≤ k * w = mul-le-mul h (omega arith) in
    try_done try (k * w + j) (n * w) (omega (arith, row))

-- a request that is admitted nowhere
pub nowhere_admitted : (n : ℕ) (rows : List ℕ) (at count : ℕ) (m : Room) (r : Request) → at < count → r ≡ request_at rows at → ((k j : ℕ) → admit r k j m ≡ None)
    → 0 ≡ packed (plan_from n rows at count m)
unfolding packed plan_in try_number then_rest
nowhere_admitted n rows at count m r l e h =
    rw (rows_next rows at count l, ← e, none_tried (tries n rows at count r m) (λ p. rw (h (p / width n r) (p % width n r))) 0 (n * width n r))

-- ---- a request that takes one counter

-- its place number p is counter p
counter_plan : (n : ℕ) (rows : List ℕ) (at count : ℕ) (m room : Room) (r : Request) (a : CounterSet) → at < count → r ≡ request_at rows at
    → width n r ≡ 1 → ((k : ℕ) → place_of r k 0 ≡ Counter k) → ((k : ℕ) → admit r k 0 m ≡ take_counter a k room)
    → plan_from n rows at count m ≡ plan_counter n rows (at + 1) count a room
unfolding plan_in try_number counter_first
counter_plan n rows at count m room r a l e w place same =
    rw (rows_next rows at count l, ← e) (λ i. first_from (λ p. number p i) 0 (total i))
  where
    total : n * width n r ≡ n
    total = rw w (mul-one (n))

    number : (p : ℕ) → tries n rows at count r m p ≡ counter_first n rows (at + 1) count a room p
    number p =
        let whole : p / 1 ≡ p = omega arith in
        let low : p % 1 ≡ 0 = omega arith in
        rw (w, whole, low, place p, same p)

module _ (n : ℕ) (rows : List ℕ) (at count : ℕ) (left : Left) (l : at < count) where
  pub event_plan : (c m : ℕ) (a : CounterSet) → Event c m a ≡ request_at rows at
      → plan_from n rows at count (room_of rows left) ≡ plan_counter n rows (at + 1) count a (room_of rows left)
  unfolding width place_of admit
  event_plan c m a e = counter_plan n rows at count _ _ (Event c m a) a l e refl (λ k. refl) (λ k. refl)

  pub packet_plan : (x y : ℕ) (a : CounterSet) (used : Left) → used ≡ with_packet left (at + 1) → Packet x y a ≡ request_at rows at
      → holds_packet (filter_of rows left.packet) x y ≡ true
      → plan_from n rows at count (room_of rows left) ≡ plan_counter n rows (at + 1) count a (room_of rows used)
  unfolding width place_of
  packet_plan x y a used u e h = counter_plan n rows at count _ _ (Packet x y a) a l e refl (λ k. refl) (λ k. packet_held rows at left x y a k 0 used u e h)

module _ (n : ℕ) (rows : List ℕ) (next count : ℕ) (a : CounterSet) (room : Room) where
  abbrev pub counters : ℕ → Option (List Place)
  counters = counter_first n rows next count a room

  pub counter_tried : (k : ℕ) → counters k ≡ put_first (Counter k) (plan_after n rows next count (take_counter a k room))
  unfolding counter_first
  counter_tried k = rest_planned n rows next count (Counter k) (take_counter a k room)

  module _ (k x : ℕ) (l : k < n) (g : x ≡ packed (plan_after n rows next count (take_counter a k room))) where
    pub counter_hit : (x ≡ 0 → ⊥) → x * 64 + k * 8 ≡ packed (first_from counters k (n - k))
    unfolding first second
    counter_hit plan =
        let h : x * 64 + k * 8 + 0 ≡ packed (first_from counters k (n - k)) = try_hit counters k n (Counter k) _ x l (counter_tried k) g plan in
        omega (arith, h)

    pub counter_next : x ≡ 0 → first_from counters k (n - k) ≡ first_from counters (k + 1) (n - (k + 1))
    counter_next z = try_next counters k n (Counter k) _ x l (counter_tried k) g z

  -- counters that the set does not have are passed over
  pub counters_skipped : (p q : ℕ) → p ≤ q → ((i : ℕ) → p ≤ i → i < q → has a i ≡ false) → first_from counters p (n - p) ≡ first_from counters q (n - q)
  unfolding counter_first then_rest available both
  counters_skipped p q l h = tries_skipped counters n p q l (λ i x y. rw (counter_missing a i room (rw (h i x y))))

  -- the counters of the set that are free, in place of the set
  pub choice_plan : (choice : CounterSet) → ((k : ℕ) → has choice k ≡ available a room.free k) → plan_counter n rows next count a room ≡ plan_counter n rows next count choice room
  unfolding counter_first
  choice_plan choice chosen = λ i. first_from (λ k. number k i) 0 (n)
    where
      number : (k : ℕ) → counter_first n rows next count a room k ≡ counter_first n rows next count choice room k
      number k = rw (counter_chosen a choice k room (chosen k))

  pub counter_done : (k : ℕ) → n ≤ k → first_from counters k (n - k) ≡ None
  counter_done k l = try_done counters k n l

-- the search from the first row on
pub whole_plan : (s : Setup) (rows : List ℕ) (count : ℕ) → plan_from (counter_count s.device) rows 0 count (empty_room s) ≡ plan_in (counter_count s.device) (rows_from rows 0 count) (empty_room s)
whole_plan s rows count = rw (sub-zero count)
