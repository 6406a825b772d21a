-- The lent records: "Waiting records stand first, in queue order, and vacant ones after them: id 0, kind event, all numbers 0."
use Rattle.std.specs.Prelude.{List, [], ◌∷◌, ◌++◌, Bool, true, false, not, ℕ, ◌-◌, eqb, leb, length, replicate}
use Rattle.requests.specs.declared.Setup.{Setup}
use Rattle.requests.specs.declared.Request.{Request}
use Rattle.requests.specs.declared.Request.TheVariants.{Event, Packet, Offcore, Latency}
use Rattle.requests.specs.declared.Entry.{Entry}
use Rattle.requests.specs.Choice.{both}
use Rattle.requests.specs.Checks.{formed}
use Rattle.plans.specs.Search.{has_plan_lem}
use Rattle.sessions.specs.Calls.{waits}
use Rattle.sessions.specs.Table.{outside_ids}
use Rattle.sessions.specs.Sessions.{vacant}

-- "1 to 256 of them"
unfoldable pub most_records : ℕ
most_records = 256

-- whether so many records may be lent
unfoldable pub is_count : ℕ → Bool
is_count n = both (leb 1 n) (leb n most_records)

-- a queue in n records
unfoldable pub records_of : ℕ → List Entry → List Entry
records_of n q = q ++ replicate (n - length q) vacant

-- the queue that records stand for: those before the first whose id is 0
unfoldable pub standing : List Entry → List Entry
standing [] = []
standing (e ∷ es) = elim (eqb e.id 0) [ true ↦ [] | false ↦ e ∷ standing es ]

-- ---- the rules

-- kind event, all numbers 0
unfoldable pub all_zero : Request → Bool
all_zero (Event c m a) = both (eqb c 0) (both (eqb m 0) (eqb a.0 0))
all_zero (Packet x y a) = false
all_zero (Offcore w a) = false
all_zero (Latency t a b) = false

-- a vacant record
unfoldable pub is_vacant : Entry → Bool
is_vacant e = both (eqb e.id 0) (all_zero e.request)

-- every record is vacant
unfoldable pub all_vacant : List Entry → Bool
all_vacant [] = true
all_vacant (e ∷ es) = both (is_vacant e) (all_vacant es)

-- a waiting record, taken by itself
unfoldable pub may_wait : Setup → Entry → Bool
may_wait s e = both (not (outside_ids e.id)) (both (formed s e.request) (has_plan_lem s (e.request ∷ [])))

-- the records keep the rules, but for their number
unfoldable pub kept_rules : Setup → List Entry → Bool
kept_rules s [] = true
kept_rules s (e ∷ es) =
    elim (eqb e.id 0) [
      | true ↦ all_vacant (e ∷ es)
      | false ↦ both (may_wait s e) (both (not (waits e.id es)) (kept_rules s es))
    ]

-- the row set keeps the rules
unfoldable pub sound_rows : Setup → List Entry → Bool
sound_rows s rows = both (is_count (length rows)) (kept_rules s rows)
