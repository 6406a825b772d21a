-- Lists of calls and what comes of them, computed on the definitions: document 01's bench tries A, J and K for the queue, and the bounds of
-- refusals 2, 13 and 14; and order 6's of refusals 2, 10 and 14.
use Rattle.std.specs.Prelude.{◌≡◌, List, [], ◌∷◌, ◌++◌, map, ℕ, zero, suc, ◌-◌, ◌^◌, replicate, Option, None, Some}
use Rattle.requests.specs.Askings.{unasked}
use Rattle.requests.specs.declared.CounterSet.{CounterSet}
use Rattle.requests.specs.declared.Request.{Request}
use Rattle.requests.specs.declared.Request.TheVariants.{Event, Latency}
use Rattle.requests.specs.declared.Entry.{Entry}
use Rattle.requests.specs.Refusals.{answer_number}
use Rattle.plans.specs.declared.Place.{Place}
use Rattle.plans.specs.declared.Place.TheVariants.{Counter, Pair}
use Rattle.sessions.specs.Calls.{Call, Open, Add, Drop, Turn, Turns, not_open_lem}
use Rattle.sessions.specs.Sessions.{queue_limit, new_session, queued, answer_to, next_session, session_after}
use Rattle.sessions.specs.Completed.{small_session, CompletedTurn, turns_of}
use Rattle.sessions.specs.declared.Session.{Session}
use Rattle.sessions.specs.declared.Assigned.{Assigned}

-- ---- what comes of a list of calls

-- the number of each answer: none where the call is accepted
unfoldable pub numbers_of : Session → List Call → List (Option ℕ)
numbers_of s [] = []
numbers_of s (c ∷ cs) = answer_number (answer_to s c) ∷ numbers_of (next_session s c) cs

-- the answers, the plans of the completed turns, and the ids that wait afterwards
pub record Outcome : Type 0 where
  pub numbers : List (Option ℕ)
  pub plans : List (List Assigned)
  pub ids : List ℕ

unfoldable pub outcome_of : List Call → Outcome
outcome_of calls =
    record {
      numbers = numbers_of new_session calls;
      plans = map (λ (t : CompletedTurn). t.plan) (turns_of small_session queue_limit not_open_lem new_session calls);
      ids = map (λ (e : Entry). e.id) (queued (session_after new_session calls));
    }

-- ---- the table

-- calls, and what is to come of them
pub record Run : Type 0 where
  pub calls : List Call
  pub outcome : Outcome

abbrev set_of : ℕ → CounterSet
set_of n = record { 0 = n }

abbrev gets : ℕ → Place → Assigned
gets id p = record { id = id; place = p }

-- the letter of a device, a usable set and fixed enables
abbrev opening : ℕ → ℕ → ℕ → Call
opening letter usable fixed = Open (record { device = letter; usable = set_of usable; fixed = fixed; cbox = 0; overflow = unasked })

-- a usable set, fixed enables and a C-Box
abbrev opening_box : ℕ → ℕ → ℕ → Call
opening_box usable fixed box = Open (record { device = 67; usable = set_of usable; fixed = fixed; cbox = box; overflow = unasked })

-- document 01: `open G 15`, with no fixed enables
abbrev open_all : Call
open_all = opening 71 15 0

-- an instruction count on counter 0 alone
abbrev pinned : Request
pinned = Event 0xC0 0x00 (set_of 1)

-- the ids 1 to n
unfoldable pub up_to : ℕ → List ℕ
up_to zero = []
up_to (suc n) = up_to n ++ suc n ∷ []

-- try A, with a slice of 27 and of 28: it has 14 writes
abbrev try_a : Run
try_a =
    record {
      calls =
          open_all
          ∷ Add 1 pinned
          ∷ Add 2 (Latency 0x0001 (set_of 15) (set_of 15))
          ∷ Add 3 (Event 0x3C 0x00 (set_of 1))
          ∷ Turn 27
          ∷ Turn 28
          ∷ [];
      outcome =
          record {
            numbers = None ∷ None ∷ None ∷ None ∷ Some 14 ∷ None ∷ [];
            plans = (gets 1 (Counter 0) ∷ gets 2 (Pair 1 2) ∷ []) ∷ [];
            ids = 3 ∷ 1 ∷ 2 ∷ [];
          };
    }

-- try J: 16 requests on counter 0 alone, each in every sixteenth turn
abbrev try_j : Run
try_j =
    record {
      calls = open_all ∷ map (λ (id : ℕ). Add id pinned) (up_to 16) ++ replicate 32 (Turn 36);
      outcome =
          record {
            numbers = replicate 49 None;
            plans = map (λ (id : ℕ). gets id (Counter 0) ∷ []) (up_to 16 ++ up_to 16);
            ids = up_to 16;
          };
    }

-- try K: the 17th is refused with 13, and waits after a drop
abbrev try_k : Run
try_k =
    record {
      calls = open_all ∷ map (λ (id : ℕ). Add id pinned) (up_to 16) ++ Add 17 pinned ∷ Drop 1 ∷ Add 17 pinned ∷ [];
      outcome = record { numbers = replicate 17 None ++ Some 13 ∷ None ∷ None ∷ []; plans = []; ids = map suc (up_to 16) };
    }

-- the empty queue: 8 writes turn the usable counters off
abbrev empty_queue : Run
empty_queue =
    record {
      calls = open_all ∷ Turn 15 ∷ Turn 16 ∷ [];
      outcome = record { numbers = None ∷ Some 14 ∷ None ∷ []; plans = [] ∷ []; ids = [] };
    }

-- before open, a refused open, and a second one
abbrev open_once : Run
open_once =
    record {
      calls =
          Turn 36
          ∷ Add 1 pinned
          ∷ opening 71 16 0
          ∷ opening 71 15 8
          ∷ opening 83 15 1
          ∷ open_all
          ∷ open_all
          ∷ opening 0 0 0
          ∷ [];
      outcome = record { numbers = Some 2 ∷ Some 2 ∷ Some 3 ∷ Some 3 ∷ Some 3 ∷ None ∷ Some 2 ∷ Some 2 ∷ []; plans = []; ids = [] };
    }

-- ids: 65535 is one, 65536 and 0 are none; a waiting id is refused, a dropped one may be used again and then stands at the back
abbrev ids : Run
ids =
    record {
      calls =
          open_all
          ∷ Add 65535 pinned
          ∷ Add 65536 pinned
          ∷ Add 0 pinned
          ∷ Add 65535 pinned
          ∷ Add 7 pinned
          ∷ Add 9 pinned
          ∷ Drop 65535
          ∷ Drop 65535
          ∷ Drop 65536
          ∷ Add 65535 pinned
          ∷ [];
      outcome =
          record {
            numbers = None ∷ None ∷ Some 4 ∷ Some 4 ∷ Some 5 ∷ None ∷ None ∷ None ∷ Some 6 ∷ Some 4 ∷ None ∷ [];
            plans = [];
            ids = 7 ∷ 9 ∷ 65535 ∷ [];
          };
    }

-- order 3: openings of a C-Box, its events, and a turn of six counters, 20 writes, with a slice of 39 and of 40
abbrev cbox : Run
cbox =
    record {
      calls =
          opening_box 63 0 8
          ∷ opening_box 64 0 0
          ∷ opening_box 0 0 0
          ∷ opening_box 63 1 0
          ∷ Open (record { device = 71; usable = set_of 15; fixed = 0; cbox = 1; overflow = unasked })
          ∷ opening_box 63 0 7
          ∷ Add 1 (Event 0x0B 0x05 (set_of 63))
          ∷ Add 1 (Event 0x0B 0x18 (set_of 64))
          ∷ Add 1 (Event 0x0B 0x18 (set_of 0))
          ∷ map (λ (id : ℕ). Add id (Event 0x0B 0x18 (set_of (2 ^ (id - 1))))) (up_to 6)
          ++ Turn 39
          ∷ Turn 40
          ∷ [];
      outcome =
          record {
            numbers = replicate 5 (Some 3) ++ None ∷ Some 10 ∷ Some 10 ∷ Some 12 ∷ replicate 6 None ++ Some 14 ∷ None ∷ [];
            plans = map (λ (id : ℕ). gets id (Counter (id - 1))) (up_to 6) ∷ [];
            ids = up_to 6;
          };
    }

-- a device, a usable set, a freeze and a core
abbrev opening_asked : ℕ → ℕ → ℕ → Option ℕ → Call
opening_asked letter usable freeze core =
    Open (record { device = letter; usable = set_of usable; fixed = 0; cbox = 0; overflow = record { freeze = freeze; core = core } })

-- order 7: 3 before 7 before 10; then a turn of 11 writes, with a slice of 21 and of 22
abbrev frozen : Run
frozen =
    record {
      calls =
          opening_asked 71 15 1 None
          ∷ opening_asked 71 15 2 None
          ∷ opening_asked 71 15 0 (Some 0)
          ∷ opening_asked 71 15 0 (Some 9)
          ∷ opening_asked 71 16 1 None
          ∷ opening_asked 83 15 2 None
          ∷ opening_asked 83 15 0 (Some 8)
          ∷ opening_asked 67 63 1 (Some 8)
          ∷ opening_asked 83 0 2 (Some 8)
          ∷ opening_asked 83 15 1 (Some 2)
          ∷ opening_asked 83 15 2 (Some 8)
          ∷ Add 1 (Event 0x52 0x00 (set_of 15))
          ∷ Turn 21
          ∷ Turn 22
          ∷ [];
      outcome =
          record {
            numbers = replicate 4 (Some 7) ++ Some 3 ∷ replicate 3 (Some 10) ++ Some 3 ∷ None ∷ Some 2 ∷ None ∷ Some 14 ∷ None ∷ [];
            plans = (gets 1 (Counter 0) ∷ []) ∷ [];
            ids = 1 ∷ [];
          };
    }

-- order 6: turns at once before open, 65 of them and none; slices that are just long enough, too short by one number and by one end; each counts as
-- its n turns, with their plans, among other calls
abbrev at_once : Run
at_once =
    record {
      calls =
          Turns 1 40 1
          ∷ Turns 0 0 0
          ∷ Turns 65 0 0
          ∷ open_all
          ∷ Turns 2 31 2
          ∷ Turns 2 32 2
          ∷ Add 1 pinned
          ∷ Add 2 (Event 0x3C 0x00 (set_of 1))
          ∷ Turns 2 39 2
          ∷ Turns 2 40 1
          ∷ Turns 65 0 0
          ∷ Turns 0 0 0
          ∷ Turns 3 60 3
          ∷ Turn 20
          ∷ Drop 1
          ∷ Turns 1 20 1
          ∷ [];
      outcome =
          record {
            numbers = replicate 3 (Some 2) ++ None ∷ Some 14 ∷ replicate 3 None ++ Some 14 ∷ Some 14 ∷ Some 10 ∷ replicate 5 None;
            plans = [] ∷ [] ∷ map (λ (id : ℕ). gets id (Counter 0) ∷ []) (1 ∷ 2 ∷ 1 ∷ 2 ∷ 2 ∷ []);
            ids = 2 ∷ [];
          };
    }

unfoldable pub runs : List Run
runs = try_a ∷ try_j ∷ try_k ∷ empty_queue ∷ open_once ∷ ids ∷ cbox ∷ frozen ∷ at_once ∷ []

-- each list of calls comes to what its row says
abbrev pub Runs : Type 0
Runs = map (λ (r : Run). outcome_of r.calls) runs ≡ map (λ (r : Run). r.outcome) runs
