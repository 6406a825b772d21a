-- What a turn has taken of the records that it has gone through, with the places where they stand.
use Rattle.std.specs.Prelude.{◌≡◌, List, [], ◌∷◌, ◌++◌, true, false, ℕ, ◌+◌, ◌≤◌, ◌<◌, length}
use Rattle.requests.specs.declared.Setup.{Setup}
use Rattle.requests.specs.declared.Entry.{Entry}
use Rattle.requests.specs.Devices.{capacity, counter_count}
use Rattle.plans.specs.Search.{first_plan}
use Rattle.plans.specs.Parts.{usable_count}
use Rattle.search.specs.Rows.{rows_from}
use Rattle.plans.specs.Packed.{packed}
use Rattle.plans.specs.Reach.{left_by, left_of}
use Rattle.sessions.specs.Turns.{requests_of, fits, taken}
use Rattle.sessions.specs.Sessions.{vacant}
use Rattle.planner.specs.Selections.{in_array}
use Rattle.lent_planner.specs.Changes.{nowhere}
use Rattle.lent_planner.specs.declared.Choice.{Choice}

-- the places of those taken from the rest of the queue, where the first is place i and those of `done` are taken already
unfoldable pub marks_after : Setup → ℕ → List Entry → List Entry → List ℕ
marks_after s i done [] = []
marks_after s i done (e ∷ rest) =
    elim (fits s (done ++ e ∷ [])) [ true ↦ i ∷ marks_after s (i + 1) (done ++ e ∷ []) rest | false ↦ marks_after s (i + 1) done rest ]

-- the places of those that a turn takes
unfoldable pub marks : Setup → List Entry → List ℕ
marks s q = marks_after s 0 [] q

-- the choice has gone through q
pub record HasChosen (s : Setup) (q : List Entry) (t : Choice) : Type 0 where
  pub setup : t.setup ≡ s
  pub usable : t.usable ≡ usable_count s
  pub counters : t.counters ≡ counter_count s.device
  pub rows_length : length t.rows ≡ 32
  pub rows_taken : rows_from t.rows 0 t.count ≡ requests_of (taken s q)
  pub plan_found : t.plan ≡ packed (first_plan s (requests_of (taken s q)))
  pub plan_some : t.plan ≡ 0 → ⊥
  -- the sets of counters that are left, of at most six usable ones
  pub left_sets : s.usable.0 < 64 → t.left ≡ left_of s (requests_of (taken s q))
  pub taken_array : t.taken ≡ in_array capacity vacant (taken s q)
  pub taken_count : t.count ≡ length (taken s q)
  pub taken_usable : t.count ≤ usable_count s
  pub at_array : t.at ≡ in_array capacity nowhere (marks s q)

-- a choice that may go on
pub record Ready (t : Choice) : Type 0 where
  pub usable : t.usable ≡ usable_count t.setup
  pub counters : t.counters ≡ counter_count t.setup.device
  pub count : t.count ≤ usable_count t.setup
  pub plan_found : t.plan ≡ packed (first_plan t.setup (rows_from t.rows 0 t.count))
  pub plan_some : t.plan ≡ 0 → ⊥
  pub left_sets : t.setup.usable.0 < 64 → t.left ≡ left_of t.setup (rows_from t.rows 0 t.count)

-- the record waits, and leaves no set of counters beside those taken, of at most six usable ones
pub record LeavesNone (t : Choice) (e : Entry) : Type 0 where
  pub waits : e.id ≡ 0 → ⊥
  pub usable : t.setup.usable.0 < 64
  pub none : left_by t.counters e.request t.left ≡ 0

-- the choice r after record i, which is e, where it was t
abbrev pub Chose : Choice → ℕ → Entry → Choice → Type 0
Chose t i e r = (s : Setup) (q : List Entry) → HasChosen s q t → length q ≡ i → HasChosen s (q ++ e ∷ []) r
