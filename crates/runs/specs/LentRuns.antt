-- Lent records, lists of calls and what comes of them, computed on the definitions.
use Rattle.std.specs.Prelude.{◌≡◌, List, [], ◌∷◌, map, true, ℕ, zero, suc, length, replicate, Option, None, Some}
use Rattle.requests.specs.Askings.{unasked}
use Rattle.requests.specs.declared.CounterSet.{CounterSet}
use Rattle.requests.specs.declared.Device.{Device}
use Rattle.requests.specs.declared.Device.TheVariants.{G, S}
use Rattle.requests.specs.declared.Request.{Request}
use Rattle.requests.specs.declared.Request.TheVariants.{Event, Packet, Latency}
use Rattle.requests.specs.declared.Entry.{Entry}
use Rattle.requests.specs.Refusals.{answer_number}
use Rattle.plans.specs.declared.Place.TheVariants.{Counter}
use Rattle.sessions.specs.Calls.{Call, Open, Add, Drop, Turn}
use Rattle.sessions.specs.Completed.{CompletedTurn, state_after, turns_of}
use Rattle.sessions.specs.declared.Assigned.{Assigned}
use Rattle.lent_sessions.specs.RowRules.{Vacant}
use Rattle.lent_sessions.specs.Lent.{new_lent}
use Rattle.lent_sessions.specs.Histories.{State, lent_answer, next_lent, plain_in, lent_session}
use Rattle.lent_sessions.specs.declared.LentSession.{LentSession}

-- a session with the records that it is lent, calls, and what is to come of them: the numbers of the answers, the plans, and the records
pub record LentRun : Type 0 where
  pub start : State
  pub calls : List Call
  pub numbers : List (Option ℕ)
  pub plans : List (List Assigned)
  pub left : List Entry

-- the number of each answer: none where the call is accepted
unfoldable pub numbers_from : State → List Call → List (Option ℕ)
numbers_from x [] = []
numbers_from x (c ∷ cs) = answer_number (lent_answer x c) ∷ numbers_from (next_lent x c) cs

-- what comes of them
unfoldable pub comes_to : LentRun → LentRun
comes_to r =
    record {
      start = r.start;
      calls = r.calls;
      numbers = numbers_from r.start r.calls;
      plans = map (λ (t : CompletedTurn). t.plan) (turns_of lent_session (length r.start.1) (plain_in r.start) r.start r.calls);
      left = (state_after lent_session r.start r.calls).1;
    }

-- ---- words for the table

abbrev set_of : ℕ → CounterSet
set_of n = record { 0 = n }

-- a session open on a device with this usable set
abbrev on : Device → ℕ → LentSession
on d usable = record { opened = true; setup = record { device = d; usable = set_of usable; fixed = 0; overflow = unasked } }

abbrev opening : ℕ → ℕ → Call
opening letter usable = Open (record { device = letter; usable = set_of usable; fixed = 0; cbox = 0; overflow = unasked })

-- an instruction count on these counters, waiting under an id
abbrev waiting : ℕ → ℕ → Entry
waiting id allowed = record { id = id; request = Event 0xC0 0x00 (set_of allowed) }

abbrev with : ℕ → Request → Entry
with id r = record { id = id; request = r }

-- a row set that add, drop and turn refuse with 3, and a second open with 2
abbrev refused : LentSession → List Entry → LentRun
refused s rows =
    record {
      start = (s, rows);
      calls = Add 0 (Event 0xC0 0x00 (set_of 1)) ∷ Drop 9 ∷ Turn 0 ∷ Turn 64 ∷ opening 71 15 ∷ [];
      numbers = Some 3 ∷ Some 3 ∷ Some 3 ∷ Some 3 ∷ Some 2 ∷ [];
      plans = [];
      left = rows;
    }

abbrev gets : ℕ → ℕ → Assigned
gets id k = record { id = id; place = Counter k }

-- the ids from n on
unfoldable pub ids_from : ℕ → ℕ → List ℕ
ids_from n zero = []
ids_from n (suc k) = n ∷ ids_from (suc n) k

-- ---- the table

unfoldable pub lent_runs : List LentRun
lent_runs =
    -- open looks at no contents, and makes all vacant; the second is refused
    record { start = (new_lent, with 9 (Packet 0xFF 0xFF (set_of 99)) ∷ waiting 0 3 ∷ waiting 9 1 ∷ []); calls = opening 71 15 ∷ opening 71 15 ∷ []; numbers = None ∷ Some 2 ∷ []; plans = []; left = replicate 3 Vacant }
    -- no record, 256 and 257
    ∷ record { start = (new_lent, []); calls = opening 71 15 ∷ Turn 64 ∷ []; numbers = Some 3 ∷ Some 2 ∷ []; plans = []; left = [] }
    ∷ record { start = (new_lent, replicate 256 (waiting 7 1)); calls = opening 71 15 ∷ []; numbers = None ∷ []; plans = []; left = replicate 256 Vacant }
    ∷ record { start = (new_lent, replicate 257 Vacant); calls = opening 71 15 ∷ []; numbers = Some 3 ∷ []; plans = []; left = replicate 257 Vacant }
    ∷ record { start = (on G 15, []); calls = Turn 64 ∷ Drop 1 ∷ []; numbers = Some 3 ∷ Some 3 ∷ []; plans = []; left = [] }
    -- not open: 2, whatever the records
    ∷ record { start = (new_lent, waiting 0 1 ∷ waiting 65536 1 ∷ []); calls = Turn 64 ∷ Drop 1 ∷ Add 1 (Event 0xC0 0x00 (set_of 1)) ∷ []; numbers = Some 2 ∷ Some 2 ∷ Some 2 ∷ []; plans = []; left = waiting 0 1 ∷ waiting 65536 1 ∷ [] }
    -- the number of records is the limit; a freed one is used again
    ∷ record { start = (on G 15, Vacant ∷ []); calls = Add 1 (Event 0xC0 0x00 (set_of 15)) ∷ Add 2 (Event 0xC0 0x00 (set_of 15)) ∷ Drop 1 ∷ Drop 1 ∷ Add 2 (Event 0xC0 0x00 (set_of 15)) ∷ []; numbers = None ∷ Some 13 ∷ None ∷ Some 6 ∷ None ∷ []; plans = []; left = waiting 2 15 ∷ [] }
    -- a vacant record before a waiting one, equal ids next to each other and apart, an id above 65535, a vacant record not all 0 or of another kind
    ∷ refused (on G 15) (Vacant ∷ waiting 1 1 ∷ [])
    ∷ refused (on G 15) (waiting 1 1 ∷ waiting 1 2 ∷ [])
    ∷ refused (on G 15) (waiting 1 1 ∷ waiting 2 1 ∷ waiting 3 1 ∷ waiting 1 1 ∷ Vacant ∷ [])
    ∷ refused (on G 15) (waiting 65536 1 ∷ [])
    ∷ refused (on G 15) (waiting 1 1 ∷ waiting 0 1 ∷ [])
    ∷ refused (on G 15) (waiting 1 1 ∷ with 0 (Event 0 1 (set_of 0)) ∷ [])
    ∷ refused (on G 15) (waiting 1 1 ∷ with 0 (Event 0 0 (set_of 1)) ∷ [])
    ∷ refused (on G 15) (waiting 1 1 ∷ with 0 (Packet 0 0 (set_of 0)) ∷ [])
    ∷ refused (on G 15) (waiting 1 1 ∷ Vacant ∷ with 0 (Event 1 0 (set_of 0)) ∷ [])
    -- ill-formed on this device, no plan by itself, none with these usable counters
    ∷ refused (on G 15) (with 1 (Packet 0 0 (set_of 1)) ∷ [])
    ∷ refused (on G 15) (with 1 (Latency 1 (set_of 4) (set_of 4)) ∷ [])
    ∷ refused (on G 7) (waiting 1 8 ∷ [])
    -- the last id; the last record is freed
    ∷ record { start = (on G 15, waiting 65535 1 ∷ waiting 1 1 ∷ []); calls = Drop 1 ∷ []; numbers = None ∷ []; plans = []; left = waiting 65535 1 ∷ Vacant ∷ [] }
    -- what is broken on G may be sound on S
    ∷ record { start = (on S 15, with 1 (Packet 0 0 (set_of 1)) ∷ Vacant ∷ []); calls = Drop 1 ∷ []; numbers = None ∷ []; plans = []; left = Vacant ∷ Vacant ∷ [] }
    -- drop closes the gap, and the freed record is all 0
    ∷ record { start = (on G 15, waiting 1 1 ∷ waiting 2 1 ∷ waiting 3 1 ∷ Vacant ∷ []); calls = Drop 2 ∷ []; numbers = None ∷ []; plans = []; left = waiting 1 1 ∷ waiting 3 1 ∷ Vacant ∷ Vacant ∷ [] }
    -- a turn: those passed over, then those taken; a slice too short by one number changes nothing
    ∷ record { start = (on G 15, waiting 1 1 ∷ waiting 2 1 ∷ Vacant ∷ []); calls = Turn 19 ∷ Turn 20 ∷ []; numbers = Some 14 ∷ None ∷ []; plans = (gets 1 0 ∷ []) ∷ []; left = waiting 2 1 ∷ waiting 1 1 ∷ Vacant ∷ [] }
    ∷ record { start = (on G 15, waiting 1 1 ∷ waiting 2 1 ∷ waiting 3 15 ∷ waiting 4 1 ∷ waiting 5 8 ∷ []); calls = Turn 28 ∷ []; numbers = None ∷ []; plans = (gets 1 0 ∷ gets 3 1 ∷ gets 5 3 ∷ []) ∷ []; left = waiting 2 1 ∷ waiting 4 1 ∷ waiting 1 1 ∷ waiting 3 15 ∷ waiting 5 8 ∷ [] }
    -- more than 16 wait: the last of 18 on one counter is taken by the 18th turn
    ∷ record { start = (on G 15, map (λ (id : ℕ). waiting id 1) (ids_from 1 18)); calls = replicate 18 (Turn 20); numbers = replicate 18 None; plans = map (λ (id : ℕ). gets id 0 ∷ []) (ids_from 1 18); left = map (λ (id : ℕ). waiting id 1) (ids_from 1 18) }
    ∷ []

abbrev pub LentRuns : Type 0
LentRuns = map comes_to lent_runs ≡ lent_runs
