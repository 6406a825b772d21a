-- The search: its functions call each other, and the requests that remain fall.
use Rattle.plans.specs.declared.Room.{Room}
use Rattle.std.specs.Prelude.{Option}
use Rattle.std.proofs.Common.{◌≡◌, ℕ, ◌+◌, ◌-◌, ◌*◌, ◌/◌, ◌%◌, ◌^◌, ◌<◌, ◌≤◌, List, Bool, true, false, refl, sym, ◌∙◌, arith}
use Rattle.std.proofs.Math.Nat.{sub-zero, add-zero}
use Rattle.std.proofs.Math.Dec.{lit<}
use Rattle.requests.specs.declared.CounterSet.{CounterSet}
use Rattle.requests.specs.declared.Request.{Request}
use Rattle.requests.specs.declared.Request.TheVariants.{Offcore, Latency}
use Rattle.requests.specs.Bits.{latency_word}
use Rattle.requests.specs.Devices.{has}
use Rattle.plans.specs.declared.Place.{Place}
use Rattle.plans.specs.Search.{holds, place_of, width, take_counter, first_from}
use Rattle.plans.specs.Packed.{packed}
use Rattle.search.specs.declared.left.Left.{Left}
use Rattle.search.specs.Counters.{available, NextIn, Least}
use Rattle.search.specs.Filters.{room_of}
use Rattle.search.specs.Left.{with_rsp0, with_rsp1, without_counter}
use Rattle.search.specs.Remaining.{plan_from, plan_after, plan_counter}
use Rattle.search.specs.Rows.{request_at}
use Rattle.search.proofs.CounterBits.{has_below, chosen_free, chosen_available}
use Rattle.search.proofs.CountersLeft.{From, next_none, least_in, next_least, from_next}
use Rattle.search.proofs.Unpacking.{rest_code}
use Rattle.search.proofs.Leaving.{rsp0_leaves, rsp1_leaves}
use Rattle.search.proofs.Admitting.{word_told, counter_taken, offcore_taken, offcore_asked, offcore_chosen, offcore_missing, pair_taken, latency_held, pair_chosen, pair_first, pair_missing, rsp0_differs, rsp1_differs, packet_differs}
use Rattle.search.proofs.Trying.{none_remain, held_taken, held_not, tries_taking, tries_from, tries_begin, tries_hit, tries_next, tries_carry, tries_done, places_skipped, nowhere_admitted, event_plan, packet_plan, counters, choice_plan, counter_hit, counter_next, counters_skipped, counter_done}
use Rattle.search.proofs.SecondCounters.{second_hit, second_none, second_small}
use Rattle.search.proofs.remaining.Search.+placing.Goals as goal
use Rattle.search.proofs.remaining.Search.+placing.Goals.{place_counter-In-Some, place_offcore-After-into_iter-k-iterator, place_offcore-In-Some, place_offcore-Then-rest-ne0, place_offcore-Then-rest-ne0-2, place_offcore-Joined-held0, place_offcore-then-held0+else-rest-ne0, place_offcore-else-held0, place_latency-Start, place_latency-Else-not-holds_word, place_latency-After-into_iter-j-iterator, place_latency-In-Some}

-- ---- the counter that is tried in a loop

-- counter k is the next of `choice` behind p, and is one of those that are left, `now`; `choice` has the allowed counters that are free
record Trying (n : ℕ) (free choice now : CounterSet) (p k : ℕ) : Type 0 where
  is_left : has now k ≡ true
  next : NextIn choice p k
  is_free : has free k ≡ true
  can_take : available choice free k ≡ true
  below : k < n
  small : k < 8

trying : (n : ℕ) (allowed free choice now after : CounterSet) (p k : ℕ) → free.0 < 2 ^ n → n ≤ 8 → ((i : ℕ) → has choice i ≡ available allowed free i)
    → From choice now p → Least now k after → Trying n free choice now p k
trying n allowed free choice now after p k bound few chosen from least =
    let there = least_in from k least.there least.next in
    let is_free = chosen_free allowed free choice k (chosen k) there in
    let below = has_below n free k bound is_free in
    record {
      is_left = least.there;
      next = next_least from k least.there least.next;
      is_free = is_free;
      can_take = chosen_available allowed free choice k (chosen k) there;
      below = below;
      small = omega (arith, below, few);
    }

-- ---- place_counter: the counters that are allowed and free, tried in order (`counter_hit`, `counter_next`, `counters_skipped`)

module _ (n : ℕ) (rows : List ℕ) (next count : ℕ) (choice : CounterSet) (left : Left) where
  -- the plan from the given counter on
  abbrev counter_plans : ℕ → Option (List Place)
  counter_plans k = first_from (counters n rows next count choice (room_of rows left)) k (n - k)

  counter_begun : (allowed : CounterSet) → ((k : ℕ) → has choice k ≡ available allowed left.free k)
      → plan_counter n rows next count allowed (room_of rows left) ≡ counter_plans 0
  counter_begun allowed chosen = rw (sub-zero n) (choice_plan n rows next count allowed (room_of rows left) choice chosen)

  counter_skipped : (k r : ℕ) → NextIn choice k r → counter_plans k ≡ counter_plans r
  counter_skipped k r least = counters_skipped n rows next count choice (room_of rows left) k r least.not_before least.none_between

  -- what is planned behind counter k
  counter_rest : (k : ℕ) (after : Left) (x : ℕ) → available choice left.free k ≡ true → after ≡ without_counter left k
      → x ≡ packed (plan_from n rows next count (room_of rows after)) → x ≡ packed (plan_after n rows next count (take_counter choice k (room_of rows left)))
  counter_rest k after x free e planned = rw (counter_taken rows choice k left after free e) planned

module _ (t : ℕ) (c : place_counter-In-Some t) where
  counter_trying : Trying c.args.self.now.counters c.args.left.free c.into_iter-k-iterator.result.0 c.loop-k.k-iterator.0 c.loop-k.invariant.0 c.in-Some.k
  counter_trying =
      let v = c.loop-k.invariant in
      trying c.args.self.now.counters c.args.allowed c.args.left.free c.into_iter-k-iterator.result.0 c.loop-k.k-iterator.0 c.next.new.self.0 v.0 c.in-Some.k
      c.requires.3.below c.requires.3.few (rw c.into_iter-k-iterator.ensures.into_iter_gives c.available.ensures) v.1 c.in-Some.ensures.steps

  counter_reached : let a = c.args in
      let plans = counter_plans a.self.now.counters a.self.now.rows.now a.next a.self.now.count c.into_iter-k-iterator.result.0 a.left in plans 0 ≡ plans c.in-Some.k
  counter_reached =
      let a = c.args in
      let v = c.loop-k.invariant in
      v.2 ∙ counter_skipped a.self.now.counters a.self.now.rows.now a.next a.self.now.count c.into_iter-k-iterator.result.0 a.left v.0 c.in-Some.k counter_trying.next

  module _ (after : Left) (e : after ≡ without_counter c.args.left c.in-Some.k) (x : ℕ)
      (planned : x ≡ packed (plan_from c.args.self.now.counters c.args.self.now.rows.now c.args.next c.args.self.now.count (room_of c.args.self.now.rows.now after))) where
    counter_planned : let a = c.args in
        x ≡ packed (plan_after a.self.now.counters a.self.now.rows.now a.next a.self.now.count (take_counter c.into_iter-k-iterator.result.0 c.in-Some.k (room_of a.self.now.rows.now a.left)))
    counter_planned =
        let a = c.args in
        counter_rest a.self.now.counters a.self.now.rows.now a.next a.self.now.count c.into_iter-k-iterator.result.0 a.left c.in-Some.k after x counter_trying.can_take e planned

    counter_small : x < 8796093022208
    counter_small =
        let a = c.args in
        rest_code a.self.now.counters c.requires.3.few a.self.now.rows.now a.next a.self.now.count (take_counter c.into_iter-k-iterator.result.0 c.in-Some.k (room_of a.self.now.rows.now a.left)) x
        (omega arith) counter_planned

pub place_counter-without_counter-requires : goal.place_counter-without_counter-requires
place_counter-without_counter-requires t c = (counter_trying t (goal.at.place_counter-without_counter-requires t c).In-Some).is_free

pub place_counter-overflow_mul-result : goal.place_counter-overflow_mul-result
place_counter-overflow_mul-result t c =
    let d = (goal.at.place_counter-overflow_mul-result t c).In-Some in
    omega (arith, counter_small t d c.without_counter.result c.without_counter.ensures c.place_from-rest.result c.place_from-rest.ensures)

pub place_counter-overflow_mul-result-then-rest-ne0 : goal.place_counter-overflow_mul-result-then-rest-ne0
place_counter-overflow_mul-result-then-rest-ne0 t c =
    let d = (goal.at.place_counter-overflow_mul-result-then-rest-ne0 t c).In-Some in omega (arith, (counter_trying t d).small)

pub place_counter-overflow_add-result : goal.place_counter-overflow_add-result
place_counter-overflow_add-result t c =
    let d = (goal.at.place_counter-overflow_add-result t c).In-Some in
    omega (arith, (counter_trying t d).small, counter_small t d c.without_counter.result c.without_counter.ensures c.place_from-rest.result c.place_from-rest.ensures)

pub place_counter-returns-then-rest-ne0 : goal.place_counter-returns-then-rest-ne0
place_counter-returns-then-rest-ne0 t c =
    let d = (goal.at.place_counter-returns-then-rest-ne0 t c).In-Some in
    let a = c.args in
    let choice = c.into_iter-k-iterator.result.0 in
    let x = c.place_from-rest.result in
    rw (counter_begun a.self.now.counters a.self.now.rows.now a.next a.self.now.count choice a.left a.allowed (rw c.into_iter-k-iterator.ensures.into_iter_gives c.available.ensures), counter_reached t d)
    (counter_hit a.self.now.counters a.self.now.rows.now a.next a.self.now.count choice (room_of a.self.now.rows.now a.left) c.in-Some.k x (counter_trying t d).below
    (counter_planned t d c.without_counter.result c.without_counter.ensures x c.place_from-rest.ensures) c.if-rest-ne0.true)

pub place_counter-loop-k-preserved : goal.place_counter-loop-k-preserved
place_counter-loop-k-preserved t c =
    let d = (goal.at.place_counter-loop-k-preserved t c).In-Some in
    let a = c.args in
    let k = c.in-Some.k in
    let x = c.place_from-rest.result in
    let v = c.loop-k.invariant in (
      k + 1,
      from_next v.1 k (counter_trying t d).is_left c.in-Some.ensures.steps.next _ c.in-Some.ensures.steps.others,
      counter_reached t d ∙ counter_next a.self.now.counters a.self.now.rows.now a.next a.self.now.count c.into_iter-k-iterator.result.0 (room_of a.self.now.rows.now a.left) k x (counter_trying t d).below
          (counter_planned t d c.without_counter.result c.without_counter.ensures x c.place_from-rest.ensures) c.if-rest-ne0.false,
    )

pub place_counter-returns : goal.place_counter-returns
unfolding packed
place_counter-returns t c =
    let a = c.args in
    let choice = c.into_iter-k-iterator.result.0 in
    let v = c.loop-k.invariant in
    rw (
      counter_begun a.self.now.counters a.self.now.rows.now a.next a.self.now.count choice a.left a.allowed (rw c.into_iter-k-iterator.ensures.into_iter_gives c.available.ensures),
      v.2,
      counter_skipped a.self.now.counters a.self.now.rows.now a.next a.self.now.count choice a.left v.0 (v.0 + 64) (next_none v.1 c.in-None.ensures.steps),
      counter_done a.self.now.counters a.self.now.rows.now a.next a.self.now.count choice (room_of a.self.now.rows.now a.left) (v.0 + 64) (omega (arith, c.requires.3.few)),
    )

-- ---- place_from: the request in a row, by its kind

pub place_from-returns-then-at-self : goal.place_from-returns-then-at-self
place_from-returns-then-at-self t c =
    let a = c.args in
    none_remain a.self.now.counters a.self.now.rows.now a.at a.self.now.count (room_of a.self.now.rows.now a.left) c.if-at-self.true

pub place_from-returns-in-Event : goal.place_from-returns-in-Event
place_from-returns-in-Event t c =
    let a = c.args in
    rw (event_plan a.self.now.counters a.self.now.rows.now a.at a.self.now.count a.left (omega arith) _ _ _ (sym c.in-Event.is ∙ c.request_at.ensures)) c.place_counter.ensures

pub place_from-returns-then-holds_packet : goal.place_from-returns-then-holds_packet
place_from-returns-then-holds_packet t c =
    let a = c.args in
    rw (packet_plan a.self.now.counters a.self.now.rows.now a.at a.self.now.count a.left (omega arith) _ _ _ _ refl (sym c.in-Packet.is ∙ c.request_at.ensures)
    (sym c.holds_packet.ensures ∙ c.if-holds_packet.true))
    c.place_counter-then-holds_packet.ensures

pub place_from-returns-else-holds_packet : goal.place_from-returns-else-holds_packet
place_from-returns-else-holds_packet t c =
    let a = c.args in
    nowhere_admitted a.self.now.counters a.self.now.rows.now a.at a.self.now.count (room_of a.self.now.rows.now a.left) _ (omega arith) (sym c.in-Packet.is ∙ c.request_at.ensures)
    (λ k j. packet_differs a.self.now.rows.now a.at a.left _ _ _ k j (sym c.holds_packet.ensures ∙ c.if-holds_packet.false))

-- ---- place_offcore: each counter that is allowed and free is tried with RSP0 and then with RSP1 (`tries_next`, `tries_carry`, then `places_skipped`)

module _ (n : ℕ) (rows : List ℕ) (count at word : ℕ) (choice : CounterSet) (held0 held1 : Bool) (left : Left) where
  -- what counter k takes with register j
  abbrev offcore_takes : ℕ → ℕ → Option Room
  offcore_takes = offcore_taken rows choice held0 held1 (with_rsp0 left (at + 1)) (with_rsp1 left (at + 1))

  -- the plan of the rest
  abbrev offcore_after : ℕ → ℕ → Option (List Place)
  offcore_after k j = plan_after n rows (at + 1) count (offcore_takes k j)

  -- the request, for the counters that are free
  abbrev offcore_narrowed : Request
  offcore_narrowed = Offcore word choice

  -- the places from counter k with register j on
  abbrev offcore_places : ℕ → ℕ → Option (List Place)
  offcore_places = tries_from n 2 (tries_taking n rows at count offcore_narrowed offcore_takes)

  offcore_two : 2 ≡ width n offcore_narrowed
  unfolding width
  offcore_two = refl

  offcore_begun : (allowed : CounterSet) → at < count → Offcore word allowed ≡ request_at rows at → ((k : ℕ) → has choice k ≡ available allowed left.free k)
      → held0 ≡ holds (room_of rows left).rsp0 word → held1 ≡ holds (room_of rows left).rsp1 word
      → plan_from n rows at count (room_of rows left) ≡ offcore_places 0 0
  unfolding width place_of
  offcore_begun allowed l e chosen f g =
      tries_begin n rows at count offcore_narrowed offcore_takes (Offcore word allowed) (room_of rows left) 2 l e refl offcore_two (λ k j. refl)
      (λ k j. offcore_asked rows at left word allowed held0 held1 e f g k j
      ∙ offcore_chosen rows choice allowed held0 held1 (with_rsp0 left (at + 1)) (with_rsp1 left (at + 1)) k j (chosen k) (chosen k))

  offcore_skipped : (k r : ℕ) → NextIn choice k r → offcore_places k 0 ≡ offcore_places r 0
  offcore_skipped k r least =
      places_skipped n rows at count offcore_narrowed offcore_takes 2 k r offcore_two (omega arith) least.not_before
      (λ i l m j. offcore_missing rows choice held0 held1 (with_rsp0 left (at + 1)) (with_rsp1 left (at + 1)) i j (least.none_between i l m))

  module _ (k j x : ℕ) (e : x ≡ packed (offcore_after k j)) where
    offcore_small : n ≤ 8 → count - (at + 1) ≤ 7 → x < 8796093022208
    offcore_small few short = rest_code n few rows (at + 1) count (offcore_takes k j) x short e

    module _ (l : j < 2) (below : k < n) where
      offcore_hit : (x ≡ 0 → ⊥) → x * 64 + k * 8 + j ≡ packed (offcore_places k j)
      offcore_hit = tries_hit n rows at count offcore_narrowed offcore_takes 2 k j offcore_two l below x e

      offcore_next : x ≡ 0 → offcore_places k j ≡ offcore_places k (j + 1)
      offcore_next = tries_next n rows at count offcore_narrowed offcore_takes 2 k j offcore_two l below x e

      offcore_carry : x ≡ 0 → j + 1 ≡ 2 → offcore_places k j ≡ offcore_places (k + 1) 0
      offcore_carry = tries_carry n rows at count offcore_narrowed offcore_takes 2 k j offcore_two l below x e

  -- what is planned behind counter k, with RSP0 and with RSP1
  module _ (k x : ℕ) (after : Left) (can : available choice left.free k ≡ true) (planned : x ≡ packed (plan_from n rows (at + 1) count (room_of rows after))) where
    offcore_planned0 : held0 ≡ true → after ≡ without_counter (with_rsp0 left (at + 1)) k → x ≡ packed (offcore_after k 0)
    offcore_planned0 h e = held_taken n rows (at + 1) count choice k (with_rsp0 left (at + 1)) held0 x after x h can e planned refl

    offcore_planned1 : held1 ≡ true → after ≡ without_counter (with_rsp1 left (at + 1)) k → x ≡ packed (offcore_after k 1)
    offcore_planned1 h e = held_taken n rows (at + 1) count choice k (with_rsp1 left (at + 1)) held1 x after x h can e planned refl

  offcore_not0 : (k : ℕ) → held0 ≡ false → 0 ≡ packed (offcore_after k 0)
  offcore_not0 k h = held_not n rows (at + 1) count choice k (with_rsp0 left (at + 1)) held0 0 h refl

  offcore_not1 : (k : ℕ) → held1 ≡ false → 0 ≡ packed (offcore_after k 1)
  offcore_not1 k h = held_not n rows (at + 1) count choice k (with_rsp1 left (at + 1)) held1 0 h refl

-- the places of the request in the row, from the given one on
module _ (t : ℕ) (c : place_offcore-After-into_iter-k-iterator t) where
  abbrev offcore_from : ℕ → ℕ → Option (List Place)
  offcore_from =
      let a = c.args in
      offcore_places a.self.now.counters a.self.now.rows.now a.self.now.count a.at a.word c.into_iter-k-iterator.result.0 c.holds_word-held0.result c.holds_word-held1.result a.left

  offcore_from_first : let a = c.args in plan_from a.self.now.counters a.self.now.rows.now a.at a.self.now.count (room_of a.self.now.rows.now a.left) ≡ offcore_from 0 0
  offcore_from_first =
      let a = c.args in
      offcore_begun a.self.now.counters a.self.now.rows.now a.self.now.count a.at a.word c.into_iter-k-iterator.result.0 c.holds_word-held0.result c.holds_word-held1.result a.left
      a.allowed c.requires.count_bound.0 c.requires.allowed_value (rw c.into_iter-k-iterator.ensures.into_iter_gives c.available.ensures) c.holds_word-held0.ensures c.holds_word-held1.ensures

-- there is a counter to be tried
module _ (t : ℕ) (c : place_offcore-In-Some t) where
  offcore_trying : Trying c.args.self.now.counters c.args.left.free c.into_iter-k-iterator.result.0 c.loop-k.k-iterator.0 c.loop-k.invariant.0 c.in-Some.k
  offcore_trying =
      let v = c.loop-k.invariant in
      let on = c.requires.count_bound.2 in
      trying c.args.self.now.counters c.args.allowed c.args.left.free c.into_iter-k-iterator.result.0 c.loop-k.k-iterator.0 c.next.new.self.0 v.0 c.in-Some.k
      on.below on.few (rw c.into_iter-k-iterator.ensures.into_iter_gives c.available.ensures) v.1 c.in-Some.ensures.steps

  offcore_reached : let a = c.args in
      let places = offcore_places a.self.now.counters a.self.now.rows.now a.self.now.count a.at a.word c.into_iter-k-iterator.result.0 c.holds_word-held0.result c.holds_word-held1.result a.left in
      places 0 0 ≡ places c.in-Some.k 0
  offcore_reached =
      let a = c.args in
      let v = c.loop-k.invariant in
      v.2
      ∙ offcore_skipped a.self.now.counters a.self.now.rows.now a.self.now.count a.at a.word c.into_iter-k-iterator.result.0 c.holds_word-held0.result c.holds_word-held1.result a.left v.0 c.in-Some.k offcore_trying.next

-- a plan behind it with RSP0
module _ (t : ℕ) (c : place_offcore-Then-rest-ne0 t) (d : Trying c.args.self.now.counters c.args.left.free c.into_iter-k-iterator.result.0 c.loop-k.k-iterator.0 c.loop-k.invariant.0 c.in-Some.k) where
  offcore_rest0 : let a = c.args in
      c.place_from-rest.result ≡ packed (offcore_after a.self.now.counters a.self.now.rows.now a.self.now.count a.at a.word c.into_iter-k-iterator.result.0 c.holds_word-held0.result c.holds_word-held1.result a.left c.in-Some.k 0)
  offcore_rest0 =
      let a = c.args in
      offcore_planned0 a.self.now.counters a.self.now.rows.now a.self.now.count a.at a.word c.into_iter-k-iterator.result.0 c.holds_word-held0.result c.holds_word-held1.result a.left
      c.in-Some.k _ _ d.can_take c.place_from-rest.ensures c.if-held0.true c.without_counter.ensures

  offcore_small0 : c.place_from-rest.result < 8796093022208
  offcore_small0 =
      let a = c.args in
      offcore_small a.self.now.counters a.self.now.rows.now a.self.now.count a.at a.word c.into_iter-k-iterator.result.0 c.holds_word-held0.result c.holds_word-held1.result a.left
      c.in-Some.k 0 c.place_from-rest.result offcore_rest0 c.requires.count_bound.2.few (omega arith)

-- where RSP0 leads to no plan, the places go on from RSP1
module _ (t : ℕ) (c : place_offcore-Joined-held0 t) (d : Trying c.args.self.now.counters c.args.left.free c.into_iter-k-iterator.result.0 c.loop-k.k-iterator.0 c.loop-k.invariant.0 c.in-Some.k) where
  offcore_next0 : let a = c.args in
      let places = offcore_places a.self.now.counters a.self.now.rows.now a.self.now.count a.at a.word c.into_iter-k-iterator.result.0 c.holds_word-held0.result c.holds_word-held1.result a.left in
      places c.in-Some.k 0 ≡ places c.in-Some.k 1
  offcore_next0 =
      let a = c.args in
      let none : 0 ≡ packed (offcore_after a.self.now.counters a.self.now.rows.now a.self.now.count a.at a.word c.into_iter-k-iterator.result.0 c.holds_word-held0.result c.holds_word-held1.result a.left c.in-Some.k 0) =
      elim c.if-held0.branch [
        | place_offcore-then-held0+else-rest-ne0 w ↦
            sym w.if-rest-ne0.false
            ∙ offcore_planned0 a.self.now.counters a.self.now.rows.now a.self.now.count a.at a.word c.into_iter-k-iterator.result.0 c.holds_word-held0.result c.holds_word-held1.result a.left
            c.in-Some.k _ _ d.can_take w.place_from-rest.ensures w.if-held0.true w.without_counter.ensures
        | place_offcore-else-held0 w ↦ offcore_not0 a.self.now.counters a.self.now.rows.now a.self.now.count a.at a.word c.into_iter-k-iterator.result.0 c.holds_word-held0.result c.holds_word-held1.result a.left c.in-Some.k w.if-held0.false
      ] in
      offcore_next a.self.now.counters a.self.now.rows.now a.self.now.count a.at a.word c.into_iter-k-iterator.result.0 c.holds_word-held0.result c.holds_word-held1.result a.left
      c.in-Some.k 0 0 none (lit< tt) d.below refl

-- a plan behind it with RSP1
module _ (t : ℕ) (c : place_offcore-Then-rest-ne0-2 t) (d : Trying c.args.self.now.counters c.args.left.free c.into_iter-k-iterator.result.0 c.loop-k.k-iterator.0 c.loop-k.invariant.0 c.in-Some.k) where
  offcore_rest1 : let a = c.args in
      c.place_from-rest-then-held1.result ≡ packed (offcore_after a.self.now.counters a.self.now.rows.now a.self.now.count a.at a.word c.into_iter-k-iterator.result.0 c.holds_word-held0.result c.holds_word-held1.result a.left c.in-Some.k 1)
  offcore_rest1 =
      let a = c.args in
      offcore_planned1 a.self.now.counters a.self.now.rows.now a.self.now.count a.at a.word c.into_iter-k-iterator.result.0 c.holds_word-held0.result c.holds_word-held1.result a.left
      c.in-Some.k _ _ d.can_take c.place_from-rest-then-held1.ensures c.if-held1.true c.without_counter-then-held1.ensures

  offcore_small1 : c.place_from-rest-then-held1.result < 8796093022208
  offcore_small1 =
      let a = c.args in
      offcore_small a.self.now.counters a.self.now.rows.now a.self.now.count a.at a.word c.into_iter-k-iterator.result.0 c.holds_word-held0.result c.holds_word-held1.result a.left
      c.in-Some.k 1 c.place_from-rest-then-held1.result offcore_rest1 c.requires.count_bound.2.few (omega arith)

pub place_offcore-without_counter-requires : goal.place_offcore-without_counter-requires
place_offcore-without_counter-requires t c =
    let d = offcore_trying t (goal.at.place_offcore-without_counter-requires t c).In-Some in
    d.is_free

pub place_offcore-overflow_mul-result : goal.place_offcore-overflow_mul-result
place_offcore-overflow_mul-result t c =
    let h = goal.at.place_offcore-overflow_mul-result t c in
    let d = offcore_trying t h.In-Some in
    omega (arith, d.small, offcore_small0 t h.Then-rest-ne0 d)

pub place_offcore-overflow_mul-result-then-rest-ne0 : goal.place_offcore-overflow_mul-result-then-rest-ne0
place_offcore-overflow_mul-result-then-rest-ne0 t c =
    let h = goal.at.place_offcore-overflow_mul-result-then-rest-ne0 t c in
    let d = offcore_trying t h.In-Some in
    omega (arith, d.small)

pub place_offcore-overflow_add-result : goal.place_offcore-overflow_add-result
place_offcore-overflow_add-result t c =
    let h = goal.at.place_offcore-overflow_add-result t c in
    let d = offcore_trying t h.In-Some in
    omega (arith, d.small, offcore_small0 t h.Then-rest-ne0 d)

pub place_offcore-returns-then-rest-ne0 : goal.place_offcore-returns-then-rest-ne0
place_offcore-returns-then-rest-ne0 t c =
    let h = goal.at.place_offcore-returns-then-rest-ne0 t c in
    let d = offcore_trying t h.In-Some in
    let a = c.args in
    rw (offcore_from_first t h.After-into_iter-k-iterator, offcore_reached t h.In-Some)
    (sym (add-zero _)
    ∙ offcore_hit a.self.now.counters a.self.now.rows.now a.self.now.count a.at a.word c.into_iter-k-iterator.result.0 c.holds_word-held0.result c.holds_word-held1.result a.left
    c.in-Some.k 0 c.place_from-rest.result (offcore_rest0 t h.Then-rest-ne0 d) (lit< tt) d.below c.if-rest-ne0.true)

pub place_offcore-without_counter-requires-then-held1 : goal.place_offcore-without_counter-requires-then-held1
place_offcore-without_counter-requires-then-held1 t c =
    let d = offcore_trying t (goal.at.place_offcore-without_counter-requires-then-held1 t c).In-Some in
    d.is_free

pub place_offcore-overflow_mul-result-then-rest-ne0-2 : goal.place_offcore-overflow_mul-result-then-rest-ne0-2
place_offcore-overflow_mul-result-then-rest-ne0-2 t c =
    let h = goal.at.place_offcore-overflow_mul-result-then-rest-ne0-2 t c in
    let d = offcore_trying t h.In-Some in
    omega (arith, d.small, offcore_small1 t h.Then-rest-ne0-2 d)

pub place_offcore-overflow_mul-result-then-rest-ne0-2-2 : goal.place_offcore-overflow_mul-result-then-rest-ne0-2-2
place_offcore-overflow_mul-result-then-rest-ne0-2-2 t c =
    let h = goal.at.place_offcore-overflow_mul-result-then-rest-ne0-2-2 t c in
    let d = offcore_trying t h.In-Some in
    omega (arith, d.small)

pub place_offcore-overflow_add-result-then-rest-ne0-2 : goal.place_offcore-overflow_add-result-then-rest-ne0-2
place_offcore-overflow_add-result-then-rest-ne0-2 t c =
    let h = goal.at.place_offcore-overflow_add-result-then-rest-ne0-2 t c in
    let d = offcore_trying t h.In-Some in
    omega (arith, d.small, offcore_small1 t h.Then-rest-ne0-2 d)

pub place_offcore-overflow_add-result-then-rest-ne0-2-2 : goal.place_offcore-overflow_add-result-then-rest-ne0-2-2
place_offcore-overflow_add-result-then-rest-ne0-2-2 t c =
    let h = goal.at.place_offcore-overflow_add-result-then-rest-ne0-2-2 t c in
    let d = offcore_trying t h.In-Some in
    omega (arith, d.small, offcore_small1 t h.Then-rest-ne0-2 d)

pub place_offcore-returns-then-rest-ne0-2 : goal.place_offcore-returns-then-rest-ne0-2
place_offcore-returns-then-rest-ne0-2 t c =
    let h = goal.at.place_offcore-returns-then-rest-ne0-2 t c in
    let d = offcore_trying t h.In-Some in
    let a = c.args in
    rw (offcore_from_first t h.After-into_iter-k-iterator, offcore_reached t h.In-Some, offcore_next0 t h.Joined-held0 d)
    (offcore_hit a.self.now.counters a.self.now.rows.now a.self.now.count a.at a.word c.into_iter-k-iterator.result.0 c.holds_word-held0.result c.holds_word-held1.result a.left
    c.in-Some.k 1 c.place_from-rest-then-held1.result (offcore_rest1 t h.Then-rest-ne0-2 d) (lit< tt) d.below c.if-rest-ne0-2.true)

-- neither leads to a plan
pub place_offcore-loop-k-preserved : goal.place_offcore-loop-k-preserved
place_offcore-loop-k-preserved t c =
    let h = goal.at.place_offcore-loop-k-preserved t c in
    let d = offcore_trying t h.In-Some in
    let a = c.args in
    let k = c.in-Some.k in (
      k + 1,
      from_next c.loop-k.invariant.1 k d.is_left c.in-Some.ensures.steps.next _ c.in-Some.ensures.steps.others,
      offcore_reached t h.In-Some ∙ offcore_next0 t h.Joined-held0 d
          ∙ offcore_carry a.self.now.counters a.self.now.rows.now a.self.now.count a.at a.word c.into_iter-k-iterator.result.0 c.holds_word-held0.result c.holds_word-held1.result a.left
          k 1 0 (offcore_not1 a.self.now.counters a.self.now.rows.now a.self.now.count a.at a.word c.into_iter-k-iterator.result.0 c.holds_word-held0.result c.holds_word-held1.result a.left k c.if-held1.false) (lit< tt) d.below refl refl,
    )

pub place_offcore-loop-k-preserved-else-rest-ne0-2 : goal.place_offcore-loop-k-preserved-else-rest-ne0-2
place_offcore-loop-k-preserved-else-rest-ne0-2 t c =
    let h = goal.at.place_offcore-loop-k-preserved-else-rest-ne0-2 t c in
    let d = offcore_trying t h.In-Some in
    let a = c.args in
    let k = c.in-Some.k in (
      k + 1,
      from_next c.loop-k.invariant.1 k d.is_left c.in-Some.ensures.steps.next _ c.in-Some.ensures.steps.others,
      offcore_reached t h.In-Some ∙ offcore_next0 t h.Joined-held0 d
          ∙ offcore_carry a.self.now.counters a.self.now.rows.now a.self.now.count a.at a.word c.into_iter-k-iterator.result.0 c.holds_word-held0.result c.holds_word-held1.result a.left
          k 1 0 (sym c.if-rest-ne0-2.false ∙ offcore_planned1 a.self.now.counters a.self.now.rows.now a.self.now.count a.at a.word c.into_iter-k-iterator.result.0 c.holds_word-held0.result c.holds_word-held1.result a.left
          k _ _ d.can_take c.place_from-rest-then-held1.ensures c.if-held1.true c.without_counter-then-held1.ensures) (lit< tt) d.below refl refl,
    )

pub place_offcore-returns : goal.place_offcore-returns
unfolding packed
place_offcore-returns t c =
    let a = c.args in
    let v = c.loop-k.invariant in
    rw (
      offcore_from_first t (goal.at.place_offcore-returns t c).After-into_iter-k-iterator,
      v.2,
      offcore_skipped a.self.now.counters a.self.now.rows.now a.self.now.count a.at a.word c.into_iter-k-iterator.result.0 c.holds_word-held0.result c.holds_word-held1.result a.left v.0 (v.0 + 64) (next_none v.1 c.in-None.ensures.steps),
      tries_done a.self.now.counters 2 (v.0 + 64) 0 _ (omega (arith, c.requires.count_bound.2.few)),
    )

-- ---- place_latency: each first counter that is allowed and free is tried, with the second one and the rest behind it (`second_hit`, `second_none`,
-- then `places_skipped`)

module _ (n : ℕ) (rows : List ℕ) (count at types : ℕ) (choice seconds : CounterSet) (used : Left) where
  -- the request, for the first counters that are free
  abbrev latency_narrowed : Request
  latency_narrowed = Latency types choice seconds

  -- the pairs from the given one on
  abbrev latency_pairs : ℕ → ℕ → Option (List Place)
  latency_pairs = tries_from n n (tries_taking n rows at count latency_narrowed (pair_taken rows choice seconds used))

  -- each first counter is tried with every second one
  latency_width : n ≡ width n latency_narrowed
  unfolding width
  latency_width = refl

  latency_begun : (firsts : CounterSet) (left half : Left) → at < count → Latency types firsts seconds ≡ request_at rows at
      → ((j : ℕ) → has choice j ≡ available firsts used.free j) → half ≡ with_rsp0 left (at + 1) → used ≡ with_rsp1 half (at + 1)
      → holds (room_of rows left).rsp0 (latency_word 0 types) ≡ true → holds (room_of rows left).rsp1 (latency_word 1 types) ≡ true
      → plan_from n rows at count (room_of rows left) ≡ latency_pairs 0 0
  unfolding width place_of
  latency_begun firsts left half l e chosen u v f g =
      tries_begin n rows at count latency_narrowed (pair_taken rows choice seconds used) (Latency types firsts seconds) (room_of rows left) n l e refl
      latency_width (λ j k. refl)
      (λ j k. latency_held rows at left types firsts seconds j k half used u v e f g ∙ pair_chosen rows choice seconds used j firsts k (chosen j))

  latency_skipped : 1 ≤ n → (j r : ℕ) → NextIn choice j r → latency_pairs j 0 ≡ latency_pairs r 0
  latency_skipped some j r least =
      places_skipped n rows at count latency_narrowed (pair_taken rows choice seconds used) n j r latency_width some least.not_before
      (λ i l m k. pair_missing rows choice seconds used i k (least.none_between i l m))

  module _ (few : n ≤ 8) (j x : ℕ) (below : j < n) (after : Left) (can : available choice used.free j ≡ true) (e : after ≡ without_counter used j)
      (planned : x ≡ packed (plan_counter n rows (at + 1) count seconds (room_of rows after))) where
    latency_small : count - (at + 1) ≤ 7 → x < 562949953421312
    latency_small short = second_small n few rows (at + 1) count seconds (room_of rows after) x short planned

    latency_hit : (x ≡ 0 → ⊥) → x / 64 * 64 + j * 8 + x % 64 / 8 ≡ packed (latency_pairs j 0)
    latency_hit =
        second_hit n few rows at count types choice seconds (pair_taken rows choice seconds used) (room_of rows after) j below
        (λ k. pair_first rows choice seconds used j after k can e) x planned

    latency_none : x ≡ 0 → latency_pairs j 0 ≡ latency_pairs (j + 1) 0
    latency_none =
        second_none n few rows at count types choice seconds (pair_taken rows choice seconds used) (room_of rows after) j below
        (λ k. pair_first rows choice seconds used j after k can e) x planned

-- what is left with both registers used
abbrev both_used : Left → ℕ → Left
both_used left user = with_rsp1 (with_rsp0 left user) user

-- RSP0 holds its word
latency_held0 : (t : ℕ) (c : place_latency-Else-not-holds_word t) → holds (room_of c.args.self.now.rows.now c.args.left).rsp0 (latency_word 0 c.args.types) ≡ true
latency_held0 t c = word_told (room_of c.args.self.now.rows.now c.args.left).rsp0 _ _ _ _ c.latency_word.ensures c.holds_word.ensures c.if-not-holds_word.false

-- the first counters are to be tried
module _ (t : ℕ) (c : place_latency-After-into_iter-j-iterator t) where
  abbrev latency_from : ℕ → ℕ → Option (List Place)
  latency_from = let a = c.args in latency_pairs a.self.now.counters a.self.now.rows.now a.self.now.count a.at a.types c.into_iter-j-iterator.result.0 a.seconds (both_used c.args.left (c.args.at + 1))

  latency_from_first : holds (room_of c.args.self.now.rows.now c.args.left).rsp0 (latency_word 0 c.args.types) ≡ true
      → let a = c.args in plan_from a.self.now.counters a.self.now.rows.now a.at a.self.now.count (room_of a.self.now.rows.now a.left) ≡ latency_from 0 0
  latency_from_first held0 =
      let a = c.args in
      latency_begun a.self.now.counters a.self.now.rows.now a.self.now.count a.at a.types c.into_iter-j-iterator.result.0 a.seconds (both_used c.args.left (c.args.at + 1)) a.firsts a.left (with_rsp0 a.left (a.at + 1))
      c.requires.count_bound.0 c.requires.seconds_value (rw c.into_iter-j-iterator.ensures.into_iter_gives c.available.ensures) refl refl held0
      (word_told (room_of a.self.now.rows.now a.left).rsp1 _ _ _ _ c.latency_word-2.ensures c.holds_word-2.ensures c.if-not-holds_word-2.false)

-- there is one to be tried
module _ (t : ℕ) (c : place_latency-In-Some t) where
  latency_trying : Trying c.args.self.now.counters (both_used c.args.left (c.args.at + 1)).free c.into_iter-j-iterator.result.0 c.loop-j.j-iterator.0 c.loop-j.invariant.0 c.in-Some.j
  latency_trying =
      let a = c.args in
      let v = c.loop-j.invariant in
      let asked = c.requires.count_bound in
      let half = rsp0_leaves a.self.now.counters a.left _ asked.1 asked.2 (a.at + 1) (omega arith) refl in
      let kept = rsp1_leaves a.self.now.counters _ (both_used c.args.left (c.args.at + 1)) half.0 half.1 (a.at + 1) (omega arith) refl in
      trying a.self.now.counters a.firsts (both_used c.args.left (c.args.at + 1)).free c.into_iter-j-iterator.result.0 c.loop-j.j-iterator.0 c.next.new.self.0 v.0 c.in-Some.j
      kept.1.below kept.1.few (rw c.into_iter-j-iterator.ensures.into_iter_gives c.available.ensures) v.1 c.in-Some.ensures.steps

  latency_reached : let a = c.args in
      let pairs = latency_pairs a.self.now.counters a.self.now.rows.now a.self.now.count a.at a.types c.into_iter-j-iterator.result.0 a.seconds (both_used c.args.left (c.args.at + 1)) in
      pairs 0 0 ≡ pairs c.in-Some.j 0
  latency_reached =
      let a = c.args in
      let v = c.loop-j.invariant in
      v.2
      ∙ latency_skipped a.self.now.counters a.self.now.rows.now a.self.now.count a.at a.types c.into_iter-j-iterator.result.0 a.seconds (both_used c.args.left (c.args.at + 1)) c.requires.count_bound.2.some v.0
      c.in-Some.j latency_trying.next

pub place_latency-returns-then-not-holds_word : goal.place_latency-returns-then-not-holds_word
place_latency-returns-then-not-holds_word t c =
    let a = c.args in
    let room = room_of a.self.now.rows.now a.left in
    nowhere_admitted a.self.now.counters a.self.now.rows.now a.at a.self.now.count room _ c.requires.count_bound.0 c.requires.seconds_value
    (λ j k. rsp0_differs a.self.now.rows.now a.at a.left a.types a.firsts a.seconds j k
    (word_told room.rsp0 _ _ _ _ c.latency_word.ensures c.holds_word.ensures c.if-not-holds_word.true))

pub place_latency-returns-then-not-holds_word-2 : goal.place_latency-returns-then-not-holds_word-2
place_latency-returns-then-not-holds_word-2 t c =
    let a = c.args in
    let room = room_of a.self.now.rows.now a.left in
    nowhere_admitted a.self.now.counters a.self.now.rows.now a.at a.self.now.count room _ c.requires.count_bound.0 c.requires.seconds_value
    (λ j k. rsp1_differs a.self.now.rows.now a.at a.left a.types a.firsts a.seconds j k (latency_held0 t (goal.at.place_latency-returns-then-not-holds_word-2 t c).Else-not-holds_word)
    (word_told room.rsp1 _ _ _ _ c.latency_word-2.ensures c.holds_word-2.ensures c.if-not-holds_word-2.true))

pub place_latency-without_counter-requires : goal.place_latency-without_counter-requires
place_latency-without_counter-requires t c = (latency_trying t (goal.at.place_latency-without_counter-requires t c).In-Some).is_free

pub place_latency-overflow_mul-result-then-rest-ne0 : goal.place_latency-overflow_mul-result-then-rest-ne0
place_latency-overflow_mul-result-then-rest-ne0 t c =
    let d = latency_trying t (goal.at.place_latency-overflow_mul-result-then-rest-ne0 t c).In-Some in
    omega (arith, d.small)

pub place_latency-overflow_add-result : goal.place_latency-overflow_add-result
place_latency-overflow_add-result t c =
    let d = latency_trying t (goal.at.place_latency-overflow_add-result t c).In-Some in
    let a = c.args in
    omega (
      arith,
      d.small,
      latency_small a.self.now.counters a.self.now.rows.now a.self.now.count a.at a.types c.into_iter-j-iterator.result.0 a.seconds (both_used c.args.left (c.args.at + 1)) c.requires.count_bound.2.few
          c.in-Some.j c.place_counter-rest.result d.below c.without_counter.result d.can_take c.without_counter.ensures c.place_counter-rest.ensures (omega arith),
    )

pub place_latency-overflow_add-result-then-rest-ne0 : goal.place_latency-overflow_add-result-then-rest-ne0
place_latency-overflow_add-result-then-rest-ne0 t c =
    let d = latency_trying t (goal.at.place_latency-overflow_add-result-then-rest-ne0 t c).In-Some in
    let a = c.args in
    omega (
      arith,
      d.small,
      latency_small a.self.now.counters a.self.now.rows.now a.self.now.count a.at a.types c.into_iter-j-iterator.result.0 a.seconds (both_used c.args.left (c.args.at + 1)) c.requires.count_bound.2.few
          c.in-Some.j c.place_counter-rest.result d.below c.without_counter.result d.can_take c.without_counter.ensures c.place_counter-rest.ensures (omega arith),
    )

pub place_latency-returns-then-rest-ne0 : goal.place_latency-returns-then-rest-ne0
place_latency-returns-then-rest-ne0 t c =
    let h = goal.at.place_latency-returns-then-rest-ne0 t c in
    let d = latency_trying t h.In-Some in
    let a = c.args in
    rw (latency_from_first t h.After-into_iter-j-iterator (latency_held0 t h.Else-not-holds_word), latency_reached t h.In-Some)
    (latency_hit a.self.now.counters a.self.now.rows.now a.self.now.count a.at a.types c.into_iter-j-iterator.result.0 a.seconds (both_used c.args.left (c.args.at + 1)) c.requires.count_bound.2.few
    c.in-Some.j c.place_counter-rest.result d.below c.without_counter.result d.can_take c.without_counter.ensures c.place_counter-rest.ensures c.if-rest-ne0.true)

pub place_latency-loop-j-preserved : goal.place_latency-loop-j-preserved
place_latency-loop-j-preserved t c =
    let h = goal.at.place_latency-loop-j-preserved t c in
    let d = latency_trying t h.In-Some in
    let a = c.args in
    let j = c.in-Some.j in (
      j + 1,
      from_next c.loop-j.invariant.1 j d.is_left c.in-Some.ensures.steps.next _ c.in-Some.ensures.steps.others,
      latency_reached t h.In-Some ∙ latency_none a.self.now.counters a.self.now.rows.now a.self.now.count a.at a.types c.into_iter-j-iterator.result.0 a.seconds (both_used c.args.left (c.args.at + 1)) c.requires.count_bound.2.few
          c.in-Some.j c.place_counter-rest.result d.below c.without_counter.result d.can_take c.without_counter.ensures c.place_counter-rest.ensures c.if-rest-ne0.false,
    )

pub place_latency-returns : goal.place_latency-returns
unfolding packed
place_latency-returns t c =
    let h = goal.at.place_latency-returns t c in
    let a = c.args in
    let v = c.loop-j.invariant in
    let on = c.requires.count_bound.2 in
    rw (
      latency_from_first t h.After-into_iter-j-iterator (latency_held0 t h.Else-not-holds_word),
      v.2,
      latency_skipped a.self.now.counters a.self.now.rows.now a.self.now.count a.at a.types c.into_iter-j-iterator.result.0 a.seconds (both_used c.args.left (c.args.at + 1)) on.some v.0 (v.0 + 64) (next_none v.1 c.in-None.ensures.steps),
      tries_done a.self.now.counters a.self.now.counters (v.0 + 64) 0 _ (omega (arith, on.few)),
    )
