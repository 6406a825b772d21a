-- Of which queues of the tables the shorter promise speaks; in which turn mine comes, by computation. Assumes nothing.
--     free-event, waiting-free    an allowed set that has every usable counter makes an event free, and a queue of such events
use mathlib.Core.Path.{◌≡◌, refl, subst}
use mathlib.Core.Logic.{◌≢◌}
use mathlib.Core.List.{List, ◌∷◌}
use mathlib.Core.Bool.{Bool, true, false, not, true≢false, false≢true}
use Prim.Native.Nat.{ℕ, zero, suc, ◌<◌}
use native.Mathlib.Omega.{arith}
use lib.Dec.{eqb}
use lib.ListN.{replicate}
use Rattle.requests.specs.declared.CounterSet.{CounterSet}
use Rattle.requests.specs.declared.Device.{Device}
use Rattle.requests.specs.declared.Device.TheVariants.{B}
use Rattle.requests.specs.declared.Setup.{Setup}
use Rattle.requests.specs.declared.Request.{Request}
use Rattle.requests.specs.declared.Request.TheVariants.{Event}
use Rattle.requests.specs.declared.Entry.{Entry}
use Rattle.requests.specs.Bits.{bit}
use Rattle.requests.specs.Choice.{both, either, every}
use Rattle.requests.specs.Devices.{has, counter_count, letter_of}
use Rattle.requests.proofs.Tests.{every_at}
use Rattle.plans.specs.Lists.{All, nil, cons}
use Rattle.plans.specs.Legal.{Usable}
use Rattle.plans.specs.Parts.{Free, event}
use Rattle.sessions.specs.ShorterPromise.{counters_needed, FreeAhead}
use Rattle.runs.specs.ShorterRuns.{Waits, entries_from, ahead_of, Claimed, tight, Tight, outside, Outside}
use Rattle.runs.proofs.AcceptanceTests.{tight_turns, tight_bounds, outside_turns, outside_bounds}

abbrev covers : Setup → CounterSet → ℕ → Bool
covers s a k = either (not (has s.usable k)) (has a k)

free_event : (s : Setup) (c m : ℕ) (a : CounterSet) → every (counter_count s.device) (covers s a) ≡ true → Free s (Event c m a)
unfolding either
free_event s c m a h = event (λ k u. rw u.1 at (every_at (counter_count s.device) (covers s a) h k u.0))

waiting_free : (s : Setup) (r : Request) → Free s r → (n id : ℕ) → All (λ (x : Entry). Free s x.request) (entries_from id (replicate n r))
unfolding entries_from
waiting_free s r f zero id = nil
waiting_free s r f (suc n) id = cons f (waiting_free s r f n (suc id))

-- a device with another letter is not B
not_b : (d : Device) → eqb (letter_of d) 66 ≡ false → d ≢ B
unfolding letter_of
not_b d h is = true≢false (subst (λ (x : Device). eqb (letter_of x) 66 ≡ false) is h)

-- n such events wait, and mine needs one counter
claim : (s : Setup) (c m : ℕ) (a : CounterSet) (n id : ℕ) (e : Entry) → eqb (letter_of s.device) 66 ≡ false → counters_needed e.request ≡ 1
    → every (counter_count s.device) (covers s a) ≡ true → FreeAhead s (entries_from id (replicate n (Event c m a))) e
claim s c m a n id e other one h = record { device = not_b s.device other; free = waiting_free s (Event c m a) (free_event s c m a h) n id; one = one }

claimed : All Claimed tight
unfolding tight ahead_of entries_from letter_of counters_needed every either both has bit counter_count
claimed =
    cons (claim _ _ _ _ 3 1 _ refl refl refl)
    (cons (claim _ _ _ _ 4 1 _ refl refl refl)
    (cons (claim _ _ _ _ 8 1 _ refl refl refl)
    (cons (claim _ _ _ _ 4 1 _ refl refl refl)
    (cons (claim _ _ _ _ 15 1 _ refl refl refl)
    (cons (claim _ _ _ _ 8 1 _ refl refl refl)
    (cons (claim _ _ _ _ 4 1 _ refl refl refl)
    (cons (claim _ _ _ _ 3 2 _ refl refl refl)
    (cons (claim _ _ _ _ 4 1 _ refl refl refl)
    (cons (claim _ _ _ _ 4 1 _ refl refl refl) nil)))))))))

pub shorter_tight : Tight
shorter_tight = record { claimed = claimed; turns = tight_turns; bounds = tight_bounds }

-- nothing is claimed on B, where mine needs two counters, or where one ahead is not free
elsewhere : (s : Setup) (ahead : List Entry) (e : Entry) → s.device ≡ B → ¬ FreeAhead s ahead e
elsewhere s ahead e on c = c.device on

two_counters : (s : Setup) (ahead : List Entry) (e : Entry) → counters_needed e.request ≡ 2 → ¬ FreeAhead s ahead e
two_counters s ahead e two c = omega (arith, c.one)

one_ahead : (s : Setup) (x : Entry) (rest : List Entry) (e : Entry) → ¬ Free s x.request → ¬ FreeAhead s (x ∷ rest) e
one_ahead s x rest e held c = first c.free
  where
    first : ¬ All (λ (y : Entry). Free s y.request) (x ∷ rest)
    first (cons h hs) = held h

-- an event on counter 0 alone is not free where counter 1 is usable too
pinned : (s : Setup) (c m : ℕ) → Usable s 1 → ¬ Free s (Event c m (record { 0 = 1 }))
unfolding has bit
pinned s c m u (event f) = false≢true (f 1 u)

unclaimed : All (λ (w : Waits). ¬ Claimed w) outside
unfolding outside ahead_of entries_from counters_needed has bit counter_count
unclaimed =
    let below : 1 < 4 = omega arith in
    cons (two_counters _ _ _ refl)
    (cons (one_ahead _ _ _ _ (pinned _ _ _ (below, refl)))
    (cons (elsewhere _ _ _ refl)
    (cons (elsewhere _ _ _ refl) nil)))

pub shorter_outside : Outside
shorter_outside = record { unclaimed = unclaimed; turns = outside_turns; bounds = outside_bounds }
