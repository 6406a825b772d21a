-- The plans of B's two precise events, from the rules that a legal plan keeps. Assumes nothing.
use mathlib.Core.Path.{◌≡◌, refl, ap, sym, subst, ◌∙◌}
use mathlib.Core.List.{List, [], ◌∷◌, ◌++◌, flat_map, Memᴰ}
use mathlib.Core.Bool.{true}
use Prim.Native.Nat.{ℕ, suc}
use native.Mathlib.Omega.{arith}
use lib.ListN.{length}
use Rattle.requests.specs.declared.CounterSet.{CounterSet}
use Rattle.requests.specs.declared.Device.{Device}
use Rattle.requests.specs.declared.Device.TheVariants.{B}
use Rattle.requests.specs.declared.Setup.{Setup}
use Rattle.requests.specs.declared.Request.{Request}
use Rattle.requests.specs.declared.Request.TheVariants.{Event}
use Rattle.requests.specs.Bits.{bit}
use Rattle.requests.specs.Devices.{has, counter_count, all_counters}
use Rattle.requests.specs.RuledEvents.{RunsOn, instructions, stores, Lone, pdir}
use Rattle.plans.specs.declared.Place.{Place}
use Rattle.plans.specs.declared.Place.TheVariants.{Counter}
use Rattle.plans.specs.Lists.{nil, cons, empty, add, Each, none, and}
use Rattle.plans.specs.Places.{counted_of, counters_of}
use Rattle.plans.specs.Legal.{Allowed, event, Usable, Ruled, words_of, packets_of, of_all, counters, Legal, HasPlan}
use Rattle.plans.specs.PrecisePlans.{PrecisePlans}
use Rattle.plans.proofs.Narrowing.{runs_one}

-- a plan of one request that runs on counter k
one_place : (d : Device) (r : Request) (k : ℕ) (ps : List Place) → RunsOn d r k → Each (Ruled d) (r ∷ []) ps → ps ≡ Counter k ∷ []
one_place d r k ps runs (and h none) = ap (λ (p : Place). p ∷ []) (h k runs)

allowed_there : (c m : ℕ) (a : CounterSet) (k : ℕ) → Each Allowed (Event c m a ∷ []) (Counter k ∷ []) → has a k ≡ true
allowed_there c m a k (and (event h) none) = h

module _ (s : Setup) (on : s.device ≡ B) where
  counted : counter_count s.device ≡ 4
  unfolding counter_count
  counted = ap counter_count on

  all : all_counters s.device ≡ 15
  unfolding all_counters counter_count
  all = ap all_counters on

  module _ (a : CounterSet) where
    first_runs : RunsOn s.device (Event 0xC0 0x01 a) 1
    first_runs = subst (λ (d : Device). RunsOn d (Event 0xC0 0x01 a) 1) (sym on) instructions

    first_lone : Lone s.device (Event 0xC0 0x01 a)
    first_lone = subst (λ (d : Device). Lone d (Event 0xC0 0x01 a)) (sym on) pdir

    second_runs : RunsOn s.device (Event 0xCD 0x02 a) 3
    second_runs = subst (λ (d : Device). RunsOn d (Event 0xCD 0x02 a) 3) (sym on) stores

    second_not_lone : ¬ Lone s.device (Event 0xCD 0x02 a)
    second_not_lone l = go (subst (λ (d : Device). Lone d (Event 0xCD 0x02 a)) on l)
      where
        go : ¬ Lone B (Event 0xCD 0x02 a)
        go h = elim h [ ]

    with_first : (rs : List Request) (ps : List Place) → Memᴰ (Event 0xC0 0x01 a) rs → Legal s rs ps
        → (s.usable.0 ≡ 15) × (rs ≡ Event 0xC0 0x01 a ∷ []) × (ps ≡ Counter 1 ∷ [])
    with_first rs ps m l =
        let only = l.alone (Event 0xC0 0x01 a) m first_lone in (
          l.quiet (Event 0xC0 0x01 a) m first_lone ∙ all,
          only,
          one_place s.device (Event 0xC0 0x01 a) 1 ps first_runs (subst (λ (qs : List Request). Each (Ruled s.device) qs ps) only l.ruled),
        )

    with_second : (rs qs : List Request) (ps : List Place) → Each (Ruled s.device) (rs ++ Event 0xCD 0x02 a ∷ qs) ps
        → (front back : List Place) × (ps ≡ front ++ Counter 3 ∷ back) × (length front ≡ length rs)
    with_second [] qs ps (and {t = back} h hs) = ([], back, ap (λ (p : Place). p ∷ back) (h 3 second_runs), refl)
    with_second (r ∷ rs) qs ps (and {b = p} h hs) =
        let f = with_second rs qs _ hs in
        (p ∷ f.0, f.1, ap (λ (l : List Place). p ∷ l) f.2, ap suc f.3)

    -- an event on counter k alone
    one_event : (c m k : ℕ) → Usable s k → has a k ≡ true → Ruled s.device (Event c m a) (Counter k)
        → (Lone s.device (Event c m a) → s.usable.0 ≡ 15) → Legal s (Event c m a ∷ []) (Counter k ∷ [])
    unfolding counters flat_map counters_of counted_of words_of packets_of of_all
    one_event c m k usable h ruled quiet =
        record {
          differ = add nil empty;
          usable_only = cons usable nil;
          allowed = and (event h) none;
          one_word = λ i b. (0, nil);
          one_packet = ((0, 0), nil);
          ruled = and ruled none;
          alone = λ r m l. only r m;
          quiet = λ r m l. quiet (subst (λ (x : Request). Lone s.device x) (the_one r m) l) ∙ sym all;
        }
      where
        the_one : (r : Request) → Memᴰ r (Event c m a ∷ []) → r ≡ Event c m a
        the_one r (Memᴰ.head e) = e
        the_one r (mathlib.Core.List.Memᴰ.tail x4) = elim x4 [ ]

        only : (r : Request) → Memᴰ r (Event c m a ∷ []) → Event c m a ∷ [] ≡ r ∷ []
        only r m = ap (λ (x : Request). x ∷ []) (sym (the_one r m))

    first_alone : HasPlan s (Event 0xC0 0x01 a ∷ []) → (s.usable.0 ≡ 15) × (has a 1 ≡ true)
    first_alone (ps, l) =
        let w = with_first (Event 0xC0 0x01 a ∷ []) ps (Memᴰ.head refl) l in
        (w.0, allowed_there 0xC0 0x01 a 1 (subst (Each Allowed (Event 0xC0 0x01 a ∷ [])) w.2 l.allowed))

    alone_first : (s.usable.0 ≡ 15) × (has a 1 ≡ true) → HasPlan s (Event 0xC0 0x01 a ∷ [])
    unfolding has bit
    alone_first (u, h) = (
      Counter 1 ∷ [],
      one_event 0xC0 0x01 1 (omega (arith, counted), rw u refl) h (λ k runs. ap Counter (runs_one s.device (Event 0xC0 0x01 a) 1 k first_runs runs)) (λ l. u),
    )

    second_alone : HasPlan s (Event 0xCD 0x02 a ∷ []) → (has s.usable 3 ≡ true) × (has a 3 ≡ true)
    unfolding counters flat_map counters_of counted_of
    second_alone (ps, l) =
        let at = one_place s.device (Event 0xCD 0x02 a) 3 ps second_runs l.ruled in
        (there (subst (λ (qs : List Place). Legal s (Event 0xCD 0x02 a ∷ []) qs) at l), allowed_there 0xCD 0x02 a 3 (subst (Each Allowed (Event 0xCD 0x02 a ∷ [])) at l.allowed))
      where
        there : Legal s (Event 0xCD 0x02 a ∷ []) (Counter 3 ∷ []) → has s.usable 3 ≡ true
        there m = elim m.usable_only [ cons u us ↦ u.1 ]

    alone_second : (has s.usable 3 ≡ true) × (has a 3 ≡ true) → HasPlan s (Event 0xCD 0x02 a ∷ [])
    alone_second (u, h) = (
      Counter 3 ∷ [],
      one_event 0xCD 0x02 3 (omega (arith, counted), u) h (λ k runs. ap Counter (runs_one s.device (Event 0xCD 0x02 a) 3 k second_runs runs)) (λ l. absurd (second_not_lone l)),
    )

pub precise_plans : PrecisePlans
precise_plans = record {
  instructions = λ s rs ps a on. with_first s on a rs ps;
  stores = λ s rs qs ps a on l. with_second s on a rs qs ps l.ruled;
  instructions_alone = λ s a on. (first_alone s on a, alone_first s on a);
  stores_alone = λ s a on. (second_alone s on a, alone_second s on a);
}
