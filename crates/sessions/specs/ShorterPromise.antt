-- Order 14: "demand 3's claim, over its lists and histories and read off the same plain queue, with p÷u + 1 for its p+1".
use Rattle.std.specs.Prelude.{◌≡◌, ◌≢◌, List, ◌∷◌, ◌++◌, false, ℕ, ◌/◌, length}
use Rattle.requests.specs.declared.Device.TheVariants.{B}
use Rattle.requests.specs.declared.Setup.{Setup}
use Rattle.requests.specs.declared.Request.{Request}
use Rattle.requests.specs.declared.Request.TheVariants.{Event, Packet, Offcore, Latency}
use Rattle.requests.specs.declared.Entry.{Entry}
use Rattle.plans.specs.declared.Place.{Place}
use Rattle.plans.specs.Lists.{All}
use Rattle.plans.specs.Places.{counters_of}
use Rattle.plans.specs.Legal.{Allowed}
use Rattle.plans.specs.Parts.{usable_count, Free}
use Rattle.sessions.specs.Calls.{Call, Plain, not_open_lem, opened}
use Rattle.sessions.specs.Plain.{run}
use Rattle.sessions.specs.Sessions.{queue_limit, plain_of}
use Rattle.sessions.specs.Sound.{Sound}
use Rattle.sessions.specs.Completed.{Machine, small_session, state_after}
use Rattle.sessions.specs.Demand3.{Promise}
use Rattle.sessions.specs.declared.Session.{Session}

-- how many counters a request needs
unfoldable pub counters_needed : Request → ℕ
counters_needed (Event code mask allowed) = 1
counters_needed (Packet x y allowed) = 1
counters_needed (Offcore word allowed) = 1
counters_needed (Latency types first second) = 2

-- these are the counters of every place that it allows
abbrev pub CountersNeeded : Type 0
CountersNeeded = (r : Request) (p : Place) → Allowed r p → length (counters_of p) ≡ counters_needed r

-- p÷u, "whole division": p requests ahead, u usable counters
unfoldable pub rounds : Setup → List Entry → ℕ
rounds s ahead = length ahead / usable_count s

-- "every request ahead of mine is a plain event that allows all u usable counters", and may allow more, "and mine needs one counter"
pub record FreeAhead (s : Setup) (ahead : List Entry) (e : Entry) : Type 0 where
  -- "It is to hold on G, S and C .. B keeps the old promise."
  pub device : s.device ≢ B
  pub free : All (λ (x : Entry). Free s x.request) ahead
  pub one : counters_needed e.request ≡ 1

module _ {State : Type 0} (m : Machine State) (limit : ℕ) where
  -- Every list of calls from the state on, where the plain queue is `start`, any place in it, between `before` and `after`, and any request e that
  -- waits there behind free events: `Promise` of p÷u speaks of p÷u + 1 turns.
  abbrev pub ShorterPromises : Plain → State → Type 0
  ShorterPromises start state =
      (before after : List Call) (s : Setup) (ahead behind : List Entry) (e : Entry)
      → run limit start before ≡ opened s (ahead ++ e ∷ behind)
      → FreeAhead s ahead e
      → Promise m limit (run limit start before) (state_after m state before) after (rounds s ahead) e

-- from a session not yet opened, with a queue of 16
abbrev pub ShorterPromise : Type 0
ShorterPromise = (s : Session) → s.opened ≡ false → ShorterPromises small_session queue_limit not_open_lem s

-- and from a sound open state, whose queue is q
abbrev pub ShorterPromiseFrom : Type 0
ShorterPromiseFrom =
    (session : Session) (s : Setup) (q : List Entry)
    → plain_of session ≡ opened s q
    → Sound queue_limit s q
    → ShorterPromises small_session queue_limit (opened s q) session
