-- "in one of the next p + 1 completed turns, unless it is dropped first": a drop that comes when p + 1 turns are completed is too late to excuse them.
use Rattle.std.specs.Prelude.{◌≡◌, List, ◌∷◌, ◌++◌, ℕ, ◌+◌, ◌≤◌, None}
use Rattle.requests.specs.declared.Entry.{Entry}
use Rattle.sessions.specs.Calls.{Call, Drop, Plain}
use Rattle.sessions.specs.Table.{refusal}
use Rattle.sessions.specs.Plain.{run, completed, drops}
use Rattle.sessions.specs.Demand3.{Dropped}

-- `since` are the calls before the first accepted drop of the id
abbrev pub DroppedInTime : Type 0
DroppedInTime =
    (limit : ℕ) (from : Plain) (since rest : List Call) (p : ℕ) (e : Entry)
    → drops limit e.id from since ≡ 0 → refusal limit (run limit from since) (Drop e.id) ≡ None
    → p + 1 ≤ completed limit from since → ¬ Dropped limit from (since ++ Drop e.id ∷ rest) p e
