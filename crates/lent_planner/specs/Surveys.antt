-- The rules of the lent records, tested in one pass: the ids below 65536 that are left are bits of 1024 words.
use Rattle.std.specs.Prelude.{List, [], ◌∷◌, Bool, true, false, not, ℕ, ◌+◌, ◌-◌, ◌/◌, ◌%◌, ◌^◌, Some, None, eqb, get_or, set, replicate}
use Rattle.requests.specs.declared.Setup.{Setup}
use Rattle.requests.specs.declared.Entry.{Entry}
use Rattle.requests.specs.Bits.{bit}
use Rattle.requests.specs.Choice.{both, pick}
use Rattle.lent_sessions.specs.Records.{all_zero, may_wait}
use Rattle.lent_planner.specs.declared.Survey.{Survey}

-- all ids are left
unfoldable pub all_left_lem : List ℕ
all_left_lem = replicate 1024 0xFFFFFFFFFFFFFFFF

-- whether the id is left
unfoldable pub is_left : List ℕ → ℕ → Bool
is_left left id = bit (id % 64) (get_or left (id / 64) 0)

-- the ids without this one
unfoldable pub taken_id : List ℕ → ℕ → List ℕ
taken_id left id = set left (id / 64) (get_or left (id / 64) 0 - 2 ^ (id % 64))

-- a pass that has not begun
unfoldable pub fresh : Setup → ℕ → Survey
fresh s id = record { setup = s; id = id; len = 0; at = None; ended = false; broken = false }

-- whether a record is the next that waits
unfoldable pub may_count : List ℕ → Survey → Entry → Bool
may_count left t e = both (not t.ended) (both (may_wait t.setup e) (is_left left e.id))

-- a pass after one more record that waits
unfoldable pub counted : Survey → ℕ → Survey
counted t id =
    record {
      setup = t.setup;
      id = t.id;
      len = t.len + 1;
      at = pick (eqb t.id id) (Some t.len) t.at;
      ended = t.ended;
      broken = t.broken;
    }

-- a pass after a record whose id is 0
unfoldable pub ended : Survey → Bool → Survey
ended t zero = record { setup = t.setup; id = t.id; len = t.len; at = t.at; ended = true; broken = not zero }

-- a pass after a record that breaks the rules
unfoldable pub spoiled : Survey → Survey
spoiled t = record { setup = t.setup; id = t.id; len = t.len; at = t.at; ended = t.ended; broken = true }

-- a pass after one more record, with the ids that are then left: whether the rules are broken, the record's id is 0, and it may count
unfoldable pub step_by : Bool → Bool → Bool → List ℕ → Survey → Entry → Survey × List ℕ
step_by true vacant counts left t e = (t, left)
step_by false true counts left t e = (ended t (all_zero e.request), left)
step_by false false true left t e = (counted t e.id, taken_id left e.id)
step_by false false false left t e = (spoiled t, left)

unfoldable pub survey_step : List ℕ → Survey → Entry → Survey × List ℕ
survey_step left t e = step_by t.broken (eqb e.id 0) (may_count left t e) left t e

-- a pass over records
unfoldable pub survey_from : List ℕ → Survey → List Entry → Survey
survey_from left t [] = t
survey_from left t (e ∷ es) = survey_from (survey_step left t e).1 (survey_step left t e).0 es

unfoldable pub surveyed : Survey → List Entry → Survey
surveyed t rows = survey_from all_left_lem t rows
