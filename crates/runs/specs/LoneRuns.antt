-- Order 12, computed on the definitions: "Demand 3 must still hold, long waits behind a lone request included". Lists of calls on B, and what comes of them.
use Rattle.std.specs.Prelude.{◌≡◌, List, [], ◌∷◌, ◌++◌, map, ℕ, ◌+◌, replicate, None, Some}
use Rattle.requests.specs.Askings.{unasked}
use Rattle.requests.specs.declared.CounterSet.{CounterSet}
use Rattle.requests.specs.declared.Request.{Request}
use Rattle.requests.specs.declared.Request.TheVariants.{Event}
use Rattle.plans.specs.declared.Place.TheVariants.{Counter}
use Rattle.sessions.specs.Calls.{Call, Open, Add, Turn}
use Rattle.runs.specs.Runs.{Run, outcome_of, up_to}
use Rattle.sessions.specs.declared.Assigned.{Assigned}

abbrev set : ℕ → CounterSet
set n = record { 0 = n }

-- `open B` with a usable set
abbrev opening : ℕ → Call
opening usable = Open (record { device = 66; usable = set usable; fixed = 0; cbox = 0; overflow = unasked })

-- INST_RETIRED.ALL in its PDIR use, MEM_TRANS_RETIRED.PRECISE_STORE, and an instruction count, with an allowed set
abbrev lone : ℕ → Request
lone allowed = Event 0xC0 0x01 (set allowed)

abbrev stores : ℕ → Request
stores allowed = Event 0xCD 0x02 (set allowed)

abbrev instructions : ℕ → Request
instructions allowed = Event 0xC0 0x00 (set allowed)

abbrev at : ℕ → ℕ → Assigned
at id k = record { id = id; place = Counter k }

-- two lone requests, one of stores and five others: a lone one is taken at the head and alone, 9 writes, and is passed over elsewhere; the others are
-- taken by fours, 15 writes; with slices just long enough and too short by one number
abbrev waits : Run
waits =
    record {
      calls =
          opening 15
          ∷ Add 1 (lone 15)
          ∷ Add 2 (lone 2)
          ∷ Add 3 (stores 15)
          ∷ map (λ (n : ℕ). Add (3 + n) (instructions 15)) (up_to 5)
          ++ Add 9 (lone 13)
          ∷ Add 9 (stores 7)
          ∷ Turn 17
          ∷ Turn 18
          ∷ Turn 18
          ∷ Turn 29
          ∷ Turn 30
          ∷ Turn 30
          ∷ Turn 18
          ∷ [];
      outcome =
          record {
            numbers = replicate 9 None ++ Some 12 ∷ Some 12 ∷ Some 14 ∷ None ∷ None ∷ Some 14 ∷ replicate 3 None;
            plans =
                (at 1 1 ∷ [])
                ∷ (at 2 1 ∷ [])
                ∷ (at 3 3 ∷ at 4 0 ∷ at 5 1 ∷ at 6 2 ∷ [])
                ∷ (at 7 0 ∷ at 8 1 ∷ at 3 3 ∷ at 4 2 ∷ [])
                ∷ (at 1 1 ∷ [])
                ∷ [];
            ids = 2 ∷ 5 ∷ 6 ∷ 7 ∷ 8 ∷ 3 ∷ 4 ∷ 1 ∷ [];
          };
    }

-- "a session with any other set refuses it with 12"; an empty queue: 6 writes: 038F, one for each of three usable counters, 03F1 and 038F
abbrev others : Run
others =
    record {
      calls = opening 16 ∷ opening 14 ∷ Add 1 (lone 15) ∷ Turn 11 ∷ Turn 12 ∷ Add 1 (stores 15) ∷ Turn 15 ∷ Turn 16 ∷ [];
      outcome = record { numbers = Some 3 ∷ None ∷ Some 12 ∷ Some 14 ∷ None ∷ None ∷ Some 14 ∷ None ∷ []; plans = [] ∷ (at 1 3 ∷ []) ∷ []; ids = 1 ∷ [] };
    }

unfoldable pub lone_runs : List Run
lone_runs = waits ∷ others ∷ []

-- each list of calls has its outcome
abbrev pub LoneRuns : Type 0
LoneRuns = map (λ (r : Run). outcome_of r.calls) lone_runs ≡ map (λ (r : Run). r.outcome) lone_runs
