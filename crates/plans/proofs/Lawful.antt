-- Requests can be placed one after another exactly where the plan fits. Assumes nothing.
use Rattle.std.specs.Prelude.{Option, None, Some}
use mathlib.Core.Path.{◌≡◌, refl, ap, sym, subst, ◌∙◌}
use mathlib.Core.Bool.{Bool, true, false}
use mathlib.Core.List.{List, [], ◌∷◌, ◌++◌, flat_map}
use Prim.Native.Nat.{ℕ, zero, suc, ◌<◌}
use native.Mathlib.Omega.{arith}
use lib.Dec.{eqb}
use borrow.Author.Tests.{eqb-true, eq-eqb}
use Rattle.requests.specs.declared.CounterSet.{CounterSet}
use Rattle.requests.specs.declared.Setup.{Setup}
use Rattle.requests.specs.declared.Request.{Request}
use Rattle.requests.specs.declared.Request.TheVariants.{Event, Packet, Offcore, Latency}
use Rattle.requests.specs.Choice.{both, pick}
use Rattle.requests.specs.Bits.{latency_word}
use Rattle.requests.specs.Devices.{has, counter_count}
use Rattle.requests.proofs.Tests.{both_parts, true_both}
use Rattle.plans.specs.declared.Place.{Place}
use Rattle.plans.specs.declared.Place.TheVariants.{Counter, WithRsp, Pair}
use Rattle.plans.specs.declared.Room.{Room}
use Rattle.plans.specs.Lists.{All, nil, cons, OneValue, Each, none, and}
use Rattle.plans.specs.Places.{counted_of, counters_of}
use Rattle.plans.specs.Legal.{Allowed, event, packet, offcore, latency, words_of, packets_of, of_all, counters}
use Rattle.plans.specs.Search.{empty_room, holds, holds_packet, take_counter, take_word, take_packet, and_then, place_of, admit, width}
use Rattle.plans.proofs.Sets.{less, all_imp, all_join, Takes, takes_all, all_takes}
use Rattle.plans.proofs.Placing.{Placed, none_left, next}
use Rattle.plans.proofs.Fits.{Fits}

-- words that a register holds one after another
module _ {A S : Type 0} (ok : S → A → Bool) (put : A → S) where
  abbrev Agree : S → List A → Type 0
  Agree s [] = Unit {0}
  Agree s (w ∷ ws) = (ok s w ≡ true) × Agree (put w) ws

module _ {A S : Type 0} (ok : S → A → Bool) (put : A → S) (start : S) (any : A) (free : (w : A) → ok start w ≡ true)
    (told : (v w : A) → ok (put v) w ≡ true → v ≡ w) (made : (v w : A) → v ≡ w → ok (put v) w ≡ true) where
  agree_put : (v : A) (ws : List A) → Agree ok put (put v) ws → All (λ (w : A). w ≡ v) ws
  agree_put v [] h = nil
  agree_put v (w ∷ ws) h = let e = told v w h.0 in cons (sym e) (all_imp (λ x g. g ∙ sym e) (agree_put w ws h.1))

  put_agree : (v : A) (ws : List A) → All (λ (w : A). w ≡ v) ws → Agree ok put (put v) ws
  put_agree v [] h = tt
  put_agree v (w ∷ ws) (cons h hs) = (made v w (sym h), put_agree w ws (all_imp (λ x g. g ∙ sym h) hs))

  agree_same : (ws : List A) → Agree ok put start ws → OneValue ws
  agree_same [] h = (any, nil)
  agree_same (w ∷ ws) h = (w, cons refl (agree_put w ws h.1))

  same_agree : (v : A) (ws : List A) → All (λ (w : A). w ≡ v) ws → Agree ok put start ws
  same_agree v [] h = tt
  same_agree v (w ∷ ws) (cons h hs) = (free w, put_agree w ws (all_imp (λ x g. g ∙ sym h) hs))

pick_told : (b : Bool) (t k : Room) → pick b (Some t) None ≡ Some k → (b ≡ true) × (k ≡ t)
pick_told true t k e = (refl, (cc))
pick_told false t k e = let z : ◌≡◌ {A = ℕ} 0 1 = cc in absurd (omega arith)

then_told : (a : Option Room) (f : Room → Option Room) (k : Room) → and_then a f ≡ Some k → (m : Room) × (a ≡ Some m) × (f m ≡ Some k)
then_told (Some m) f k e = (m, refl, e)
then_told None f k e = let z : ◌≡◌ {A = ℕ} 0 1 = cc in absurd (omega arith)

abbrev ok_packet : Option (ℕ × ℕ) → ℕ × ℕ → Bool
ok_packet f w = holds_packet f w.0 w.1

abbrev put_packet : ℕ × ℕ → Option (ℕ × ℕ)
put_packet w = Some (w.0, w.1)

-- what is asked can be had in the room
abbrev Can : Room → List ℕ → List ℕ → List ℕ → List (ℕ × ℕ) → Type 0
Can m cs v w p = Takes m.free cs × Agree holds Some m.rsp0 v × Agree holds Some m.rsp1 w × Agree ok_packet put_packet m.packet p

module _ (cs v w : List ℕ) (p : List (ℕ × ℕ)) where
  counter_can : (a : CounterSet) (j : ℕ) (m k : Room) → take_counter a j m ≡ Some k → Can k cs v w p → Can m (j ∷ cs) v w p
  unfolding take_counter
  counter_can a j m k e h =
      let t = pick_told (both (has a j) (has m.free j)) (record { free = less m.free j; rsp0 = m.rsp0; rsp1 = m.rsp1; packet = m.packet }) k e in
      let b = both_parts (has a j) (has m.free j) t.0 in
      let g = subst (λ x. Can x cs v w p) t.1 h in
      ((b.1, g.0), g.1, g.2, g.3)

  can_counter : (a : CounterSet) (j : ℕ) (m : Room) → has a j ≡ true → Can m (j ∷ cs) v w p → (k : Room) × (take_counter a j m ≡ Some k) × Can k cs v w p
  unfolding take_counter
  can_counter a j m l h =
      (record { free = less m.free j; rsp0 = m.rsp0; rsp1 = m.rsp1; packet = m.packet }, rw (true_both (has a j) (has m.free j) l h.0.0), (h.0.1, h.1, h.2, h.3))

  packet_can : (a b : ℕ) (m k : Room) → take_packet a b m ≡ Some k → Can k cs v w p → Can m cs v w ((a, b) ∷ p)
  unfolding take_packet
  packet_can a b m k e h =
      let t = pick_told (holds_packet m.packet a b) (record { free = m.free; rsp0 = m.rsp0; rsp1 = m.rsp1; packet = Some (a, b) }) k e in
      let g = subst (λ x. Can x cs v w p) t.1 h in
      (g.0, g.1, g.2, (t.0, g.3))

  can_packet : (a b : ℕ) (m : Room) → Can m cs v w ((a, b) ∷ p) → (k : Room) × (take_packet a b m ≡ Some k) × Can k cs v w p
  unfolding take_packet
  can_packet a b m h =
      (record { free = m.free; rsp0 = m.rsp0; rsp1 = m.rsp1; packet = Some (a, b) }, rw h.3.0, (h.0, h.1, h.2, h.3.1))

  word_can : (x a : ℕ) (m k : Room) → x < 2 → take_word x a m ≡ Some k → Can k cs v w p
      → Can m cs (pick (eqb x 0) (a ∷ []) [] ++ v) (pick (eqb x 1) (a ∷ []) [] ++ w) p
  unfolding take_word
  word_can zero a m k l e h =
      let t = pick_told (holds m.rsp0 a) (record { free = m.free; rsp0 = Some a; rsp1 = m.rsp1; packet = m.packet }) k e in
      let g = subst (λ x. Can x cs v w p) t.1 h in
      (g.0, (t.0, g.1), g.2, g.3)
  word_can (suc zero) a m k l e h =
      let t = pick_told (holds m.rsp1 a) (record { free = m.free; rsp0 = m.rsp0; rsp1 = Some a; packet = m.packet }) k e in
      let g = subst (λ x. Can x cs v w p) t.1 h in
      (g.0, g.1, (t.0, g.2), g.3)
  word_can (suc (suc x)) a m k l e h = absurd (omega arith)

  can_word : (x a : ℕ) (m : Room) → x < 2 → Can m cs (pick (eqb x 0) (a ∷ []) [] ++ v) (pick (eqb x 1) (a ∷ []) [] ++ w) p
      → (k : Room) × (take_word x a m ≡ Some k) × Can k cs v w p
  unfolding take_word
  can_word zero a m l h =
      (record { free = m.free; rsp0 = Some a; rsp1 = m.rsp1; packet = m.packet }, rw h.1.0, (h.0, h.1.1, h.2, h.3))
  can_word (suc zero) a m l h =
      (record { free = m.free; rsp0 = m.rsp0; rsp1 = Some a; packet = m.packet }, rw h.2.0, (h.0, h.1, h.2.1, h.3))
  can_word (suc (suc x)) a m l h = absurd (omega arith)

-- a counter that is taken is allowed
counter_allowed : (a : CounterSet) (j : ℕ) (m k : Room) → take_counter a j m ≡ Some k → has a j ≡ true
unfolding take_counter
counter_allowed a j m k e =
    (both_parts (has a j) (has m.free j) (pick_told (both (has a j) (has m.free j)) (record { free = less m.free j; rsp0 = m.rsp0; rsp1 = m.rsp1; packet = m.packet }) k e).0).0

abbrev CanAll : Room → List Request → List Place → Type 0
CanAll m rs ps = Can m (counters ps) (of_all (words_of 0) rs ps) (of_all (words_of 1) rs ps) (flat_map packets_of rs)

module _ (n : ℕ) (rs : List Request) (ps : List Place) where
  abbrev cs : List ℕ
  cs = counters ps

  abbrev v : List ℕ
  v = of_all (words_of 0) rs ps

  abbrev w : List ℕ
  w = of_all (words_of 1) rs ps

  abbrev q : List (ℕ × ℕ)
  q = flat_map packets_of rs

  -- a request that is admitted has an allowed place, and what it asks for can be had
  admit_can : (r : Request) (k j : ℕ) (m room : Room) → j < width n r → admit r k j m ≡ Some room → CanAll room rs ps
      → Allowed r (place_of r k j) × CanAll m (r ∷ rs) (place_of r k j ∷ ps)
  unfolding admit width place_of counters counters_of counted_of of_all words_of packets_of flat_map
  admit_can (Event c u a) k j m room l e h = (event (counter_allowed a k m room e), counter_can cs v w q a k m room e h)
  admit_can (Packet x y a) k j m room l e h =
      let t = then_told (take_packet x y m) (take_counter a k) room e in
      (packet (counter_allowed a k t.0 room t.2), packet_can (k ∷ cs) v w q x y m t.0 t.1 (counter_can cs v w q a k t.0 room t.2 h))
  admit_can (Offcore x a) k j m room l e h =
      let t = then_told (take_word j x m) (take_counter a k) room e in
      (offcore (counter_allowed a k t.0 room t.2) l, word_can (k ∷ cs) v w q j x m t.0 l t.1 (counter_can cs v w q a k t.0 room t.2 h))
  admit_can (Latency x a b) k j m room l e h =
      let both_words = and_then (take_word 0 (latency_word 0 x) m) (take_word 1 (latency_word 1 x)) in
      let t3 = then_told (and_then both_words (take_counter a k)) (take_counter b j) room e in
      let t2 = then_told both_words (take_counter a k) t3.0 t3.1 in
      let t1 = then_told (take_word 0 (latency_word 0 x) m) (take_word 1 (latency_word 1 x)) t2.0 t2.1 in
      let c2 = counter_can cs v w q b j t3.0 room t3.2 h in
      let c1 = counter_can (j ∷ cs) v w q a k t2.0 t3.0 t2.2 c2 in (
        latency (counter_allowed a k t2.0 t3.0 t2.2) (counter_allowed b j t3.0 room t3.2),
        word_can (k ∷ j ∷ cs) v (latency_word 1 x ∷ w) q 0 (latency_word 0 x) m t1.0 (omega arith) t1.1
            (word_can (k ∷ j ∷ cs) v w q 1 (latency_word 1 x) t1.0 t2.0 (omega arith) t1.2 c1),
      )

  -- a request with an allowed place, whose asks can be had, is placed there
  place_next : {r : Request} {p : Place} (m : Room) → Allowed r p → All (λ (k : ℕ). k < n) (counters (p ∷ ps)) → CanAll m (r ∷ rs) (p ∷ ps)
      → ((room : Room) → CanAll room rs ps → Placed n rs room ps) → Placed n (r ∷ rs) m (p ∷ ps)
  unfolding admit width place_of counters counters_of counted_of of_all words_of packets_of flat_map
  place_next m (event {c = c} {m = u} {a = a} {k = k} al) (cons l ls) h rest =
      let t = can_counter cs v w q a k m al h in
      next {r = Event c u a} {m = m} {room = t.0} {k = k} {j = 0} l (omega arith) t.1 (rest t.0 t.2)
  place_next m (packet {x = x} {y = y} {a = a} {k = k} al) (cons l ls) h rest =
      let t = can_packet (k ∷ cs) v w q x y m h in
      let c = can_counter cs v w q a k t.0 al t.2 in
      next {r = Packet x y a} {m = m} {room = c.0} {k = k} {j = 0} l (omega arith) (rw t.1 c.1) (rest c.0 c.2)
  place_next m (offcore {w = x} {a = a} {k = k} {i = i} al two) (cons l ls) h rest =
      let t = can_word (k ∷ cs) v w q i x m two h in
      let c = can_counter cs v w q a k t.0 al t.2 in
      next {r = Offcore x a} {m = m} {room = c.0} {k = k} {j = i} l two (rw t.1 c.1) (rest c.0 c.2)
  place_next m (latency {t = x} {a = a} {b = b} {j = j} {k = k} al bl) (cons l (cons l2 ls)) h rest =
      let t0 = can_word (j ∷ k ∷ cs) v (latency_word 1 x ∷ w) q 0 (latency_word 0 x) m (omega arith) h in
      let t1 = can_word (j ∷ k ∷ cs) v w q 1 (latency_word 1 x) t0.0 (omega arith) t0.2 in
      let c1 = can_counter (k ∷ cs) v w q a j t1.0 al t1.2 in
      let c2 = can_counter cs v w q b k c1.0 bl c1.2 in
      next {r = Latency x a b} {m = m} {room = c2.0} {k = j} {j = k} l l2 (rw (t0.1, t1.1, c1.1) c2.1) (rest c2.0 c2.2)

  -- its counters are the device'n
  next_below : (r : Request) (k j : ℕ) → k < n → j < width n r → All (λ (i : ℕ). i < n) (counters ps)
      → All (λ (i : ℕ). i < n) (counters (place_of r k j ∷ ps))
  unfolding width place_of counters counters_of counted_of flat_map
  next_below (Event c u a) k j l g h = cons l h
  next_below (Packet x y a) k j l g h = cons l h
  next_below (Offcore x a) k j l g h = cons l h
  next_below (Latency x a b) k j l g h = cons l (cons g h)

-- what a plan that can be placed has
pub record Has (n : ℕ) (m : Room) (rs : List Request) (ps : List Place) : Type 0 where
  pub allowed : Each Allowed rs ps
  pub below : All (λ (k : ℕ). k < n) (counters ps)
  pub can : CanAll m rs ps

placed_has : (n : ℕ) {rs : List Request} {m : Room} {ps : List Place} → Placed n rs m ps → Has n m rs ps
unfolding counters flat_map of_all
placed_has n none_left = record { allowed = none; below = nil; can = (tt, tt, tt, tt) }
placed_has n (next {r = r} {rs = rs} {m = m} {room = room} {k = k} {j = j} {ps = ps} f g e d) =
    let h = placed_has n d in
    let t = admit_can n rs ps r k j m room g e h.can in
    record { allowed = and t.0 h.allowed; below = next_below n rs ps r k j f g h.below; can = t.1 }

tail_below : (n : ℕ) (p : Place) (ps : List Place) → All (λ (k : ℕ). k < n) (counters (p ∷ ps)) → All (λ (k : ℕ). k < n) (counters ps)
unfolding counters counters_of counted_of flat_map
tail_below n (Counter k) ps (cons l h) = h
tail_below n (WithRsp k i) ps (cons l h) = h
tail_below n (Pair j k) ps (cons l (cons g h)) = h

has_placed : (n : ℕ) {rs : List Request} {ps : List Place} (m : Room) → Each Allowed rs ps → All (λ (k : ℕ). k < n) (counters ps) → CanAll m rs ps → Placed n rs m ps
has_placed n m none b h = none_left
has_placed n m (and {a = r} {b = p} {s = rs} {t = ps} al rest) b h = place_next n rs ps m al b h (λ room c. has_placed n room rest (tail_below n p ps b) c)

packet_told : (v w : ℕ × ℕ) → ok_packet (put_packet v) w ≡ true → v ≡ w
packet_told v w e =
    let b = both_parts (eqb v.0 w.0) (eqb v.1 w.1) e in
    let first : v.0 ≡ w.0 = eqb-true _ _ b.0 in
    let second : v.1 ≡ w.1 = eqb-true _ _ b.1 in
    λ i. (first i, second i)

packet_made : (v w : ℕ × ℕ) → v ≡ w → ok_packet (put_packet v) w ≡ true
packet_made v w e =
    true_both (eqb v.0 w.0) (eqb v.1 w.1) (eq-eqb v.0 w.0 (ap (λ (x : ℕ × ℕ). x.0) e)) (eq-eqb v.1 w.1 (ap (λ (x : ℕ × ℕ). x.1) e))

one_word : (rs : List Request) (ps : List Place) → Agree holds Some None (of_all (words_of 0) rs ps) → Agree holds Some None (of_all (words_of 1) rs ps)
    → (i : ℕ) → i < 2 → OneValue (of_all (words_of i) rs ps)
one_word rs ps g h zero l = agree_same holds Some None 0 (λ w. refl) eqb-true eq-eqb (of_all (words_of 0) rs ps) g
one_word rs ps g h (suc zero) l = agree_same holds Some None 0 (λ w. refl) eqb-true eq-eqb (of_all (words_of 1) rs ps) h
one_word rs ps g h (suc (suc i)) l = absurd (omega arith)

pub placed_fits : (s : Setup) (rs : List Request) (ps : List Place) → Placed (counter_count s.device) rs (empty_room s) ps → Fits s rs ps
placed_fits s rs ps d =
    let h = placed_has (counter_count s.device) d in
    let t = takes_all s.usable (counters ps) h.can.0 in
    record {
      differ = t.1;
      usable_only = all_join (λ k l g. (l, g)) h.below t.0;
      allowed = h.allowed;
      one_word = one_word rs ps h.can.1 h.can.2;
      one_packet = agree_same ok_packet put_packet None (0, 0) (λ w. refl) packet_told packet_made (flat_map packets_of rs) h.can.3;
    }

pub fits_placed : (s : Setup) (rs : List Request) (ps : List Place) → Fits s rs ps → Placed (counter_count s.device) rs (empty_room s) ps
fits_placed s rs ps l =
    let w0 = l.one_word 0 (omega arith) in
    let w1 = l.one_word 1 (omega arith) in
    has_placed (counter_count s.device) (empty_room s) l.allowed (all_imp (λ k u. u.0) l.usable_only) (
      all_takes s.usable (counters ps) (all_imp (λ k u. u.1) l.usable_only) l.differ,
      same_agree holds Some None 0 (λ w. refl) eqb-true eq-eqb w0.0 (of_all (words_of 0) rs ps) w0.1,
      same_agree holds Some None 0 (λ w. refl) eqb-true eq-eqb w1.0 (of_all (words_of 1) rs ps) w1.1,
      same_agree ok_packet put_packet None (0, 0) (λ w. refl) packet_told packet_made l.one_packet.0 (flat_map packets_of rs) l.one_packet.1,
    )
