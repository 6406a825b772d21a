-- The ids that wait are distinct, so that an id names one request.
use Rattle.std.specs.Prelude.{List, map, ◌≢◌, ℕ}
use Rattle.requests.specs.declared.Entry.{Entry}
use Rattle.plans.specs.Lists.{Pairwise}
use Rattle.sessions.specs.Calls.{Call, not_open_lem, waiting}
use Rattle.sessions.specs.Plain.{run}

-- no two entries have one id
abbrev pub Distinct : List Entry → Type 0
Distinct q = Pairwise ◌≢◌ (map (λ (e : Entry). e.id) q)

-- so it is after every list of calls, whatever the queue's limit
abbrev pub DistinctIds : Type 0
DistinctIds = (limit : ℕ) (calls : List Call) → Distinct (waiting (run limit not_open_lem calls))
