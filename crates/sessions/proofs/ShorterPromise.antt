-- Order 14: the shorter promise. Assumes nothing.
--     counters-needed         a place has as many counters as its request needs
--     room-behind             an entry that needs one counter fits behind fewer free events than counters are usable
--     by-rounds               so p÷u ranks it: a turn takes it, or u of the events ahead of it
--     shorter-promises        so any faithful machine keeps the promise, whatever the queue's limit
--     shorter-promise-from    the session does, from any sound open state
--     shorter-promise         and from a session not yet opened
use mathlib.Core.Path.{◌≡◌, refl}
use mathlib.Core.Logic.{◌≢◌, ◌⊎◌, inl, inr}
use mathlib.Core.List.{List, [], ◌∷◌, ◌++◌, flat_map, map-append, append-nil, Memᴰ}
use mathlib.Core.Bool.{true}
use Prim.Native.Nat.{ℕ, zero, suc, ◌+◌, ◌/◌, ◌≤◌, ◌<◌}
use native.Mathlib.Omega.{arith}
use native.Mathlib.Decide.{dec_lt}
use native.Mathlib.Nat.{div-zero, div-mul-le_self, le-div_iff_mul-le, suc-mul}
use lib.ListN.{length}
use Rattle.requests.specs.declared.Device.TheVariants.{B}
use Rattle.requests.specs.declared.Setup.{Setup}
use Rattle.requests.specs.declared.Request.{Request}
use Rattle.requests.specs.declared.Entry.{Entry}
use Rattle.requests.proofs.RuledEvents.{ruled_events}
use Rattle.plans.specs.declared.Place.{Place}
use Rattle.plans.specs.Lists.{All, cons, Each, none, and}
use Rattle.plans.specs.Places.{counted_of, counters_of}
use Rattle.plans.specs.Legal.{Allowed, event, packet, offcore, latency, HasPlan, counters}
use Rattle.plans.specs.Parts.{usable_count, Free}
use Rattle.plans.proofs.PartsHold.{parts}
use Rattle.plans.proofs.PlanLengthHolds.{plan_length}
use Rattle.plans.proofs.PlanTestHolds.{plan_test}
use Rattle.layouts.proofs.ListLaws.{all_left}
use Rattle.sessions.specs.Turns.{requests_of, fits, taken, passed}
use Rattle.sessions.specs.Calls.{Plain, not_open_lem, opened}
use Rattle.sessions.specs.Plain.{removed}
use Rattle.sessions.specs.Sessions.{queue_limit}
use Rattle.sessions.specs.Sound.{Sound}
use Rattle.sessions.specs.Completed.{Machine, small_session}
use Rattle.sessions.specs.ShorterPromise.{counters_needed, CountersNeeded, rounds, FreeAhead, ShorterPromises, ShorterPromise, ShorterPromiseFrom}
use Rattle.sessions.proofs.Lists.{all_right, all_map}
use Rattle.sessions.proofs.Rearranged.{all_turned}
use Rattle.sessions.proofs.Removed.{all_removed, length_removed}
use Rattle.sessions.proofs.TableAnswers.{plain_closed}
use Rattle.sessions.proofs.TakenPlan.{requests_length}
use Rattle.sessions.proofs.SoundKept.{SoundIn}
use Rattle.sessions.proofs.Advance.{taken_behind, both_ahead}
use Rattle.sessions.proofs.Waiting.{Ranking}
use Rattle.sessions.proofs.Faithful.{Faithful}
use Rattle.sessions.proofs.SmallSession.{Stands, faithful}
use Rattle.sessions.proofs.Promised.{promised_at}

-- ---- whole division

-- a greater number has no smaller quotient
quotient_monotone : (m n u : ℕ) → m ≤ n → m / u ≤ n / u
quotient_monotone m n zero le = rw (div-zero m, div-zero n) (omega arith)
quotient_monotone m n (suc u) le = (le-div_iff_mul-le {k = suc u} {x = m / suc u} {y = n} (omega arith)).1 (omega (arith, div-mul-le_self m (suc u)))

-- one that is greater by u has a quotient that is greater by one
quotient_less : (m n u : ℕ) → 0 < u → m + u ≤ n → suc (m / u) ≤ n / u
quotient_less m n u pos le = (le-div_iff_mul-le {x = suc (m / u)} pos).1 (omega (arith, div-mul-le_self m u, suc-mul (m / u) u))

-- ---- one counter

pub counters_needed_lem : CountersNeeded
unfolding counters_needed counters_of counted_of
counters_needed_lem r p (event h) = refl
counters_needed_lem r p (packet h) = refl
counters_needed_lem r p (offcore h i) = refl
counters_needed_lem r p (latency h i) = refl

-- a plan of one request has the counters of its place
alone_counters : (r : Request) (ps : List Place) → Each Allowed (r ∷ []) ps → length (counters ps) ≡ counters_needed r
unfolding counters flat_map
alone_counters r ps (and {b = p} h none) = rw append-nil (counters_needed_lem r p h)

module _ (s : Setup) (e : Entry) where
  module _ (one : counters_needed e.request ≡ 1) (alone : HasPlan s (e.request ∷ [])) where
    some_usable : 0 < usable_count s
    some_usable =
        omega (arith, one, alone_counters e.request alone.0 alone.1.allowed, plan_length.counters_at_most s (e.request ∷ []) alone.0 alone.1)

    room_behind : s.device ≢ B → (es : List Entry) → All (λ (x : Entry). Free s x.request) es → length es < usable_count s → fits s (es ++ e ∷ []) ≡ true
    unfolding fits requests_of
    room_behind device es free few =
        plan_test.planned s (requests_of (es ++ e ∷ []))
        (rw (map-append (λ (x : Entry). x.request) es (e ∷ []))
        (parts.room s (requests_of es) (e.request ∷ []) alone.0 (ruled_events.elsewhere s.device device) (all_map (λ (x : Entry). x.request) free) alone.1
        (omega (arith, one, few, requests_length es, alone_counters e.request alone.0 alone.1.allowed))))

  -- ---- the rank

  -- what a turn does, by the number of those taken ahead of the entry
  turn_round : (limit : ℕ) (ahead behind : List Entry) → Sound limit s (ahead ++ e ∷ behind) → FreeAhead s ahead e
      → Memᴰ e (taken s (ahead ++ e ∷ behind)) ⊎ (FreeAhead s (passed s ahead) e × (suc (rounds s (passed s ahead)) ≤ rounds s ahead))
  unfolding taken passed rounds
  turn_round limit ahead behind sound known = go (dec_lt (length (taken s ahead)) (usable_count s))
    where
      alone : HasPlan s (e.request ∷ [])
      alone = first (all_right ahead sound.alone)
        where
          first : All (λ (x : Entry). HasPlan s (x.request ∷ [])) (e ∷ behind) → HasPlan s (e.request ∷ [])
          first (cons h hs) = h

      free : All (λ (x : Entry). Free s x.request) (passed s ahead ++ taken s ahead)
      free = all_turned (fits s) [] ahead known.free

      go : Dec (length (taken s ahead) < usable_count s)
          → Memᴰ e (taken s (ahead ++ e ∷ behind)) ⊎ (FreeAhead s (passed s ahead) e × (suc (rounds s (passed s ahead)) ≤ rounds s ahead))
      go (yes few) = inl (taken_behind s ahead e behind (room_behind known.one alone known.device (taken s ahead) (all_right (passed s ahead) free) few))
      go (no full) =
          inr (
            record { device = known.device; free = all_left (passed s ahead) (taken s ahead) free; one = known.one },
            quotient_less (length (passed s ahead)) (length ahead) (usable_count s) (some_usable known.one alone) (omega (arith, both_ahead s ahead)),
          )

by_rounds : (limit : ℕ) (e : Entry) → Ranking limit e
unfolding rounds
by_rounds limit e = record {
  Known = λ s ahead. FreeAhead s ahead e;
  rank = rounds;
  drops = λ s ahead id known. (
    record { device = known.device; free = all_removed id ahead known.free; one = known.one },
    quotient_monotone (length (removed id ahead)) (length ahead) (usable_count s) (length_removed id ahead),
  );
  turns = λ s. turn_round s e limit;
}

pub shorter_promises : {State : Type 0} (m : Machine State) (limit : ℕ) (Holds : State → Plain → Type 0) → Faithful m limit Holds
    → (s : State) (p : Plain) → Holds s p → SoundIn limit p → ShorterPromises m limit p s
unfolding by_rounds
shorter_promises m limit Holds keeps s p w sound before after t ahead behind e is known =
    promised_at m limit Holds keeps e (by_rounds limit e) s p w sound before after t ahead behind is known

pub shorter_promise_from : ShorterPromiseFrom
shorter_promise_from session s q same sound = shorter_promises small_session queue_limit Stands faithful session (opened s q) same sound

pub shorter_promise : ShorterPromise
shorter_promise session closed = shorter_promises small_session queue_limit Stands faithful session not_open_lem (plain_closed session closed) tt
