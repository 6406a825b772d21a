-- The rules of a row set in the order's own words, and that the test of them is exact.
use Rattle.std.specs.Prelude.{◌≡◌, true, List, [], ◌∷◌, ◌++◌, ℕ, ◌≤◌, length, replicate}
use Rattle.requests.specs.declared.Setup.{Setup}
use Rattle.requests.specs.declared.Request.TheVariants.{Event}
use Rattle.requests.specs.declared.Entry.{Entry}
use Rattle.requests.specs.Checks.{Formed}
use Rattle.plans.specs.Lists.{All}
use Rattle.plans.specs.Legal.{HasPlan}
use Rattle.sessions.specs.RefusalTable.{IsId}
use Rattle.sessions.specs.DistinctIds.{Distinct}
use Rattle.lent_sessions.specs.Records.{is_count, standing, sound_rows}

-- "1 to 256 of them"
abbrev pub IsCount : ℕ → Type 0
IsCount n = (1 ≤ n) × (n ≤ 256)

-- "id 0, kind event, all numbers 0", as the order spells it
abbrev pub Vacant : Entry
Vacant = record { id = 0; request = Event 0 0 (record { 0 = 0 }) }

-- A row set that keeps the rules: no "equal ids or one above 65535, an ill-formed request, one with no plan by itself, a vacant record before
-- a waiting one or not all 0", and 1 to 256 records.
pub record SoundRows (s : Setup) (rows : List Entry) : Type 0 where
  pub number : IsCount (length rows)
  -- the waiting records, and nothing but vacant ones after them
  pub queue : List Entry
  pub free : ℕ
  pub placed : rows ≡ queue ++ replicate free Vacant
  -- distinct ids 1..65535
  pub distinct : Distinct queue
  pub ids : All (λ (e : Entry). IsId e.id) queue
  -- well-formed requests, each with a plan by itself
  pub formed : All (λ (e : Entry). Formed s e.request) queue
  pub alone : All (λ (e : Entry). HasPlan s (e.request ∷ [])) queue

-- the test holds exactly of the row sets that keep the rules, and these stand for the queue that `standing` reads
pub record RowRules : Type 0 where
  pub count : (n : ℕ) → is_count n ≡ true → IsCount n
  pub counts : (n : ℕ) → IsCount n → is_count n ≡ true
  pub sound : (s : Setup) (rows : List Entry) → sound_rows s rows ≡ true → SoundRows s rows
  pub holds : (s : Setup) (rows : List Entry) → SoundRows s rows → sound_rows s rows ≡ true
  pub stands : (s : Setup) (rows : List Entry) (kept : SoundRows s rows) → kept.queue ≡ standing rows
