-- What a turn makes of the queue: where the entries stand that it takes and that it passes over, and the plan of those taken.
use Rattle.std.specs.Prelude.{◌≡◌, true, List, [], ◌∷◌, ◌++◌, map, ℕ, ◌+◌, ◌-◌, ◌≤◌, ◌<◌, length, take, get_or, replicate, Option, None, Some, Result, Ok, Err}
use Rattle.requests.specs.declared.Setup.{Setup}
use Rattle.requests.specs.declared.Request.{Request}
use Rattle.requests.specs.declared.Entry.{Entry}
use Rattle.requests.specs.declared.Refusal.{Refusal}
use Rattle.plans.specs.Search.{first_plan}
use Rattle.plans.specs.Parts.{usable_count}
use Rattle.search.specs.Rows.{rows_from}
use Rattle.plans.specs.Packed.{packed, places_from}
use Rattle.sessions.specs.declared.Assigned.{Assigned}
use Rattle.sessions.specs.declared.Session.{Session}
use Rattle.sessions.specs.Turns.{requests_of, taken, passed, assign}
use Rattle.sessions.specs.Sessions.{vacant, session_of, turn_answer, turn_of}
use Rattle.planner.specs.declared.Chosen.{Chosen}
use Rattle.planner.specs.declared.Extended.{Extended}
use Rattle.planner.specs.declared.Outcome.{Outcome}

-- a list in an array of n places: d stands in those past its end
abbrev pub in_array : {A : Type 0} → ℕ → A → List A → List A
in_array n d l = l ++ replicate (n - length l) d

-- the entries that stand at the first n of these places of a queue
unfoldable pub entries_at : List Entry → ℕ → List ℕ → List Entry
entries_at queue n places = map (λ (i : ℕ). get_or queue i vacant) (take n places)

-- what a turn chooses has room in a plan and in a queue, and stands in the queue
pub record WithinLimits (c : Chosen) (ts ps : List ℕ) : Type 0 where
  pub taken_size : length ts ≡ 8
  pub passed_size : length ps ≡ 16
  pub few : c.count ≤ 8
  pub all : c.rest + c.count ≤ 16
  pub taken_inside : (j : ℕ) → j < c.count → get_or ts j 0 < 16
  pub passed_inside : (j : ℕ) → j < c.rest → get_or ps j 0 < 16

-- the number of the plan that is found, 0 where there is none
abbrev pub code_in : Option Extended → ℕ
code_in None = 0
code_in (Some found) = found.code

-- the search with one request more, behind those of the first rows: its answer, and the rows that it leaves, which have the request where
-- there is a plan
pub record Searched (s : Setup) (rows : List ℕ) (count : ℕ) (request : Request) (next : List ℕ) (found : ℕ) : Type 0 where
  pub answer : found ≡ packed (first_plan s (rows_from rows 0 count ++ (request ∷ [])))
  pub kept : rows_from next 0 count ≡ rows_from rows 0 count
  pub behind : (found ≡ 0 → ⊥) → rows_from next 0 (count + 1) ≡ rows_from rows 0 count ++ (request ∷ [])
  pub size : length next ≡ 32

-- what a turn has chosen of q: the rows are the requests taken, the code is the number of their plan, and ts and ps say where in the queue
-- the entries stand that are taken and passed over
pub record Selected (s : Setup) (queue q : List Entry) (rows ts ps : List ℕ) (c : Chosen) : Type 0 where
  pub rows_taken : rows_from rows 0 c.count ≡ requests_of (taken s q)
  pub plan_found : c.code ≡ packed (first_plan s (requests_of (taken s q)))
  pub plan_some : c.code ≡ 0 → ⊥
  pub taken_entries : entries_at queue c.count ts ≡ taken s q
  pub taken_usable : c.count ≤ usable_count s
  pub passed_entries : entries_at queue c.rest ps ≡ passed s q
  pub within : WithinLimits c ts ps

-- the session after a turn that makes this choice: the entries passed over, then those taken
unfoldable pub session_chosen : Session → List ℕ → List ℕ → Chosen → Session
session_chosen s ts ps c = session_of s.setup (entries_at s.queue c.rest ps ++ entries_at s.queue c.count ts)

-- the plan of entries, with the places that a packed plan gives them
unfoldable pub planned : ℕ → List Entry → List Assigned
planned code es = assign es (places_from code 0 (requests_of es))

-- the plan of this choice
abbrev pub plan_chosen : Session → List ℕ → Chosen → List Assigned
plan_chosen s ts c = planned c.code (entries_at s.queue c.count ts)

-- an accepted turn with a slice of this length has the session and the plan of its choice
pub record Takes (s : Session) (room : ℕ) (ts ps : List ℕ) (o : Outcome) : Type 0 where
  pub within : WithinLimits o.chosen ts ps
  pub opened : s.opened ≡ true
  pub accepted : turn_answer (Ok tt) (session_chosen s ts ps o.chosen) (plan_chosen s ts o.chosen) o.writes ≡ turn_of s room

-- what a turn with a slice of this length does: it is accepted with the session and the plan of its choice, or refused
abbrev pub Settled : Session → ℕ → List ℕ → List ℕ → Result Outcome Refusal → Type 0
Settled s room ts ps (Ok o) = Takes s room ts ps o
Settled s room ts ps (Err x) = turn_answer (Err x) s [] 0 ≡ turn_of s room
