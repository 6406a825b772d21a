-- What a turn has taken and passed over of the entries that it has gone through.
use Rattle.std.specs.Prelude.{◌≡◌, List, map, ℕ, ◌+◌, ◌≤◌, length, take}
use Rattle.requests.specs.declared.Setup.{Setup}
use Rattle.requests.specs.declared.Entry.{Entry}
use Rattle.plans.specs.Parts.{usable_count}
use Rattle.plans.specs.Search.{first_plan}
use Rattle.plans.specs.Packed.{packed}
use Rattle.search.specs.Rows.{rows_from}
use Rattle.sessions.specs.Turns.{requests_of, taken, passed}
use Rattle.planner.specs.declared.Chosen.{Chosen}

-- of q those passed over stand in front of l; the ids and the rows are those of the entries taken, and the code is the number of their plan
pub record Parted (s : Setup) (q l : List Entry) (ids rows : List ℕ) (c : Chosen) : Type 0 where
  pub passed_front : take c.rest l ≡ passed s q
  pub ids_taken : take c.count ids ≡ map (λ (e : Entry). e.id) (taken s q)
  pub rows_taken : rows_from rows 0 c.count ≡ requests_of (taken s q)
  pub plan_found : c.code ≡ packed (first_plan s (requests_of (taken s q)))
  pub plan_some : c.code ≡ 0 → ⊥
  pub taken_usable : c.count ≤ usable_count s
  pub all : c.rest + c.count ≡ length q
  pub ids_size : length ids ≡ 8
  pub rows_size : length rows ≡ 32
