-- Demand 3: the promise to every request that waits. Assumes nothing.
--     by-number       the number of requests ahead of an entry ranks it
--     promises        so any faithful machine keeps the promise, whatever the queue's limit
--     demand3-from    the session does, from any sound open state
--     demand3         and from a session not yet opened
use mathlib.Core.Path.{◌≡◌, refl, ap}
use mathlib.Core.Logic.{◌⊎◌, inl, inr}
use mathlib.Core.List.{List, [], ◌∷◌, ◌++◌, Memᴰ}
use Prim.Native.Nat.{ℕ, suc, ◌≤◌}
use native.Mathlib.Omega.{arith}
use lib.ListN.{length, length-append}
use Rattle.requests.specs.declared.Setup.{Setup}
use Rattle.requests.specs.declared.Entry.{Entry}
use Rattle.plans.specs.Lists.{All, cons}
use Rattle.plans.specs.Legal.{HasPlan}
use Rattle.sessions.specs.Turns.{taken, passed}
use Rattle.sessions.specs.Calls.{Plain, not_open_lem, opened, waiting}
use Rattle.sessions.specs.Plain.{run}
use Rattle.sessions.specs.Sessions.{queue_limit}
use Rattle.sessions.specs.Completed.{Machine, small_session}
use Rattle.sessions.specs.Demand3.{Promises, Demand3}
use Rattle.sessions.specs.Demand3From.{Demand3From}
use Rattle.sessions.proofs.TableAnswers.{plain_closed}
use Rattle.sessions.proofs.Removed.{length_removed}
use Rattle.sessions.proofs.HeadTaken.{head_first}
use Rattle.sessions.proofs.SoundKept.{SoundIn}
use Rattle.sessions.proofs.Advance.{fewer_ahead}
use Rattle.sessions.proofs.Waiting.{Ranking}
use Rattle.sessions.proofs.Faithful.{Faithful}
use Rattle.sessions.proofs.SmallSession.{Stands, faithful}
use Rattle.sessions.proofs.Promised.{promised_at}

-- a turn takes the entry, or one of those ahead of it; of these nothing has to be known
nearer : (s : Setup) (ahead : List Entry) (e : Entry) (behind : List Entry) → All (λ (x : Entry). HasPlan s (x.request ∷ [])) (ahead ++ e ∷ behind)
    → Memᴰ e (taken s (ahead ++ e ∷ behind)) ⊎ (Unit {0} × (suc (length (passed s ahead)) ≤ length ahead))
nearer s [] e behind (cons h hs) = inl (rw (head_first s e behind h).1 (Memᴰ.head refl))
nearer s (x ∷ ahead) e behind (cons h hs) = inr (tt, fewer_ahead s x ahead h)

by_number : (limit : ℕ) (e : Entry) → Ranking limit e
by_number limit e = record {
  Known = λ s ahead. Unit {0};
  rank = λ s ahead. length ahead;
  drops = λ s ahead id known. (tt, length_removed id ahead);
  turns = λ s ahead behind sound known. nearer s ahead e behind sound.alone;
}

-- a plain queue in which something waits is open
is_open : (p : Plain) (ahead behind : List Entry) (e : Entry) → waiting p ≡ ahead ++ e ∷ behind → (s : Setup) × (p ≡ opened s (ahead ++ e ∷ behind))
unfolding waiting
is_open not_open_lem ahead behind e h = absurd (omega (arith, ap length h, length-append ahead (e ∷ behind)))
is_open (opened s q) ahead behind e h = (s, ap (opened s) h)

pub promises : {State : Type 0} (m : Machine State) (limit : ℕ) (Holds : State → Plain → Type 0) → Faithful m limit Holds
    → (s : State) (p : Plain) → Holds s p → SoundIn limit p → Promises m limit p s
unfolding by_number
promises m limit Holds keeps s p w sound before after ahead behind e waits =
    let found = is_open (run limit p before) ahead behind e waits in
    promised_at m limit Holds keeps e (by_number limit e) s p w sound before after found.0 ahead behind found.1 tt

pub demand3_from : Demand3From
demand3_from session s q same sound = promises small_session queue_limit Stands faithful session (opened s q) same sound

pub demand3 : Demand3
demand3 session closed = promises small_session queue_limit Stands faithful session not_open_lem (plain_closed session closed) tt
