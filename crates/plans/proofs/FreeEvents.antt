-- Free events go beside any legal plan that leaves as many usable counters, where no event has a rule: they take members of the usable set that it does not
-- use, by `others`. Assumes nothing.
use mathlib.Core.Logic.{◌≢◌}
use mathlib.Core.List.{List, [], ◌∷◌, ◌++◌, flat_map}
use Prim.Native.Nat.{ℕ, ◌+◌, ◌≤◌}
use native.Mathlib.Omega.{arith}
use lib.ListN.{length}
use Rattle.requests.specs.declared.Setup.{Setup}
use Rattle.requests.specs.declared.Request.{Request}
use Rattle.requests.specs.Devices.{counter_count}
use Rattle.requests.specs.RuledEvents.{Unruled}
use Rattle.plans.specs.declared.Place.{Place}
use Rattle.plans.specs.declared.Place.TheVariants.{Counter}
use Rattle.plans.specs.Lists.{All, nil, cons, Pairwise, add, and}
use Rattle.plans.specs.Places.{counted_of, counters_of}
use Rattle.plans.specs.Legal.{event, Usable, words_of, packets_of, of_all, counters, Legal, HasPlan}
use Rattle.plans.specs.Parts.{usable_count, Free, event as free_event}
use Rattle.plans.proofs.Fits.{Fits, legal_fits}
use Rattle.plans.proofs.Narrowing.{fits_legal}
use Rattle.plans.proofs.Sublists.{all_part, pairwise_part}
use Rattle.plans.proofs.Others.{Away, others}
use Rattle.plans.proofs.Members.{members_length, members_below, members_differ}

module _ (s : Setup) where
  -- one more event, at a usable counter that the plan does not use
  one_more : {r : Request} {rs : List Request} {k : ℕ} {ps : List Place} → Free s r → Usable s k → Away (counters ps) k → Fits s rs ps → Fits s (r ∷ rs) (Counter k ∷ ps)
  unfolding counters counters_of counted_of of_all words_of packets_of flat_map
  one_more {k = k} (free_event f) u a l = record {
    differ = add a l.differ;
    usable_only = cons u l.usable_only;
    allowed = and (event (f k u)) l.allowed;
    one_word = l.one_word;
    one_packet = l.one_packet;
  }

  -- a plan of the requests, at counters of ks and of the plan qs alone
  abbrev Filled : List Request → List ℕ → List Place → Type 0
  Filled rs ks qs = (ps : List Place) × Fits s rs ps × ((i : ℕ) → Away ks i → Away (counters qs) i → Away (counters ps) i)

  -- free events are placed at counters of ks, before the others
  fill : {rs xs : List Request} {qs : List Place} → All (Free s) rs → (ks : List ℕ) → length rs ≤ length ks → Pairwise ◌≢◌ ks → All (Usable s) ks
      → All (Away (counters qs)) ks → Fits s xs qs → Filled (rs ++ xs) ks qs
  unfolding counters counters_of counted_of flat_map
  fill {qs = qs} nil ks b d u a l = (qs, l, λ i f q. q)
  fill (cons h hs) [] b d u a l = absurd (omega arith)
  fill {xs = xs} {qs = qs} (cons {a = r} {rest = rs} h hs) (k ∷ ks) b (add d ds) (cons u us) (cons a away-rest) l = go (fill hs ks (omega arith) ds us away-rest l)
    where
      go : Filled (rs ++ xs) ks qs → Filled (r ∷ rs ++ xs) (k ∷ ks) qs
      go f = (Counter k ∷ f.0, one_more h u (f.2 k d a) f.1, away)
        where
          away : (i : ℕ) → Away (k ∷ ks) i → Away (counters qs) i → Away (counters (Counter k ∷ f.0)) i
          away i (cons ne g) q = cons ne (f.2 i g q)

  pub room_beside : (rs xs : List Request) (qs : List Place) → Unruled s.device → All (Free s) rs → Legal s xs qs → length rs + length (counters qs) ≤ usable_count s → HasPlan s (rs ++ xs)
  room_beside rs xs qs free h l b =
      let n = counter_count s.device in
      let d = members_differ s.usable n in
      let o = others (counters qs) d in
      let enough : length rs ≤ length o.rest = omega (arith, o.most, members_length s.usable n) in
      let f = fill h o.rest enough (pairwise_part o.part_of d) (all_part o.part_of (members_below s.usable n)) o.away (legal_fits s xs qs l) in
      (f.0, fits_legal s free (rs ++ xs) f.0 f.1)
