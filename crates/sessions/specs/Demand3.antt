-- Demand 3: "a single claim about the whole list of calls".
use Rattle.std.specs.Prelude.{◌≡◌, ◌⊎◌, false, ℕ, suc, ◌≤◌, length, take, None}
use mathlib.Core.List.{List, ◌∷◌, ◌++◌, Memᴰ}
use Rattle.requests.specs.declared.Entry.{Entry}
use Rattle.plans.specs.declared.Place.{Place}
use Rattle.plans.specs.Lists.{All}
use Rattle.plans.specs.Places.{counters_of}
use Rattle.plans.specs.Legal.{Allowed, Usable}
use Rattle.plans.specs.Order.{First}
use Rattle.sessions.specs.Turns.{requests_of, taken, assign}
use Rattle.sessions.specs.Calls.{Call, Drop, Plain, not_open_lem, waiting}
use Rattle.sessions.specs.Table.{refusal}
use Rattle.sessions.specs.Plain.{run, completed, drops}
use Rattle.sessions.specs.Sessions.{queue_limit}
use Rattle.sessions.specs.Completed.{Machine, small_session, CompletedTurn, state_after, turns_of}
use Rattle.sessions.specs.declared.Session.{Session}

-- "A request is in the plan of a turn when the plan that the turn answers gives it its counter."
pub record InPlan (t : CompletedTurn) (e : Entry) : Type 0 where
  -- the plan answered is the first legal plan of the entries taken there, and this entry is one of them
  pub places : List Place
  pub first : First t.setup (requests_of (taken t.setup t.queue)) places
  pub answered : t.plan ≡ assign (taken t.setup t.queue) places
  pub takes : Memᴰ e (taken t.setup t.queue)
  -- it gives this id its counter (latency: two), and no other; usable, and allowed by the request
  pub place : Place
  pub given : Memᴰ (record { id = e.id; place = place }) t.plan
  pub only : (other : Place) → Memᴰ (record { id = e.id; place = other }) t.plan → other ≡ place
  pub usable : All (Usable t.setup) (counters_of place)
  pub allowed : Allowed e.request place

-- the request is in the plan of at least one of these turns
pub record InOneOf (turns : List CompletedTurn) (e : Entry) : Type 0 where
  pub turn : CompletedTurn
  pub member : Memᴰ turn turns
  pub in_plan : InPlan turn e

-- "It is dropped by an accepted drop of its id", before more than p of the turns of `after` are completed. It is the first accepted
-- drop of this id in `after`, so that it drops this request and no later one of the same id. `limit` is the queue's.
pub record Dropped (limit : ℕ) (from : Plain) (after : List Call) (p : ℕ) (e : Entry) : Type 0 where
  pub since : List Call
  pub rest : List Call
  pub split : after ≡ since ++ Drop e.id ∷ rest
  pub accepted : refusal limit (run limit from since) (Drop e.id) ≡ None
  pub early : completed limit from since ≤ p
  pub first : drops limit e.id from since ≡ 0

module _ {State : Type 0} (m : Machine State) (limit : ℕ) where
  -- The promise of p to a request, at a place in a list of calls where the plain queue is `from` and the machine's state s, and `after` are the
  -- calls that follow: once p + 1 further turns are completed, it was dropped first, or it has been in the plan of at least one of the first p + 1.
  abbrev pub Promise : Plain → State → List Call → ℕ → Entry → Type 0
  Promise from s after p e = suc p ≤ completed limit from after → Dropped limit from after p e ⊎ InOneOf (take (suc p) (turns_of m limit from s after)) e

  -- Every list of calls from the state s on, where the plain queue is `start`, any place in it, between `before` and `after`, and any request e
  -- that waits there: "A request waits while it is in that list of ids, and p is the number of requests before it there."
  abbrev pub Promises : Plain → State → Type 0
  Promises start s =
      (before after : List Call) (ahead behind : List Entry) (e : Entry)
      → waiting (run limit start before) ≡ ahead ++ e ∷ behind
      → Promise (run limit start before) (state_after m s before) after (length ahead) e

-- from a session not yet opened, with a queue of 16
abbrev pub Demand3 : Type 0
Demand3 = (s : Session) → s.opened ≡ false → Promises small_session queue_limit not_open_lem s
