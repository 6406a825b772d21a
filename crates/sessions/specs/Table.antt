-- Document 01, 'Refusal numbers': the table, by call. `limit` is the number of requests that the queue holds.
use Rattle.std.specs.Prelude.{List, [], ◌∷◌, ◌++◌, Bool, true, not, ℕ, ◌*◌, ltb, leb, eqb, length, Option}
use Rattle.requests.specs.declared.Setup.{Setup}
use Rattle.requests.specs.declared.Request.{Request}
use Rattle.requests.specs.declared.Entry.{Entry}
use Rattle.requests.specs.declared.Refusal.{Refusal}
use Rattle.requests.specs.declared.Refusal.TheVariants.{CallOrder, BadId, IdWaiting, IdNotWaiting, OutOfRange, NoPlanAlone, QueueFull, SliceTooShort}
use Rattle.requests.specs.Choice.{either, Row, first_holding}
use Rattle.requests.specs.Devices.{opening_table}
use Rattle.requests.specs.Checks.{request_rows}
use Rattle.plans.specs.Search.{has_plan_lem}
use Rattle.sessions.specs.Turns.{taken, writes_of, lists_of, joined}
use Rattle.sessions.specs.Calls.{Call, Open, Add, Drop, Turn, Turns, Plain, not_open_lem, opened, waits}

-- ---- the rows of each call past 2, in the order in which they are checked

-- id 0 or above 65535
unfoldable pub outside_ids : ℕ → Bool
outside_ids id = either (eqb id 0) (ltb 65535 id)

-- 4: the id; 5: it is waiting; 7, 8, 10, 9, 11: the checks of the request; 12: it has no plan alone; 13: queue full
unfoldable pub add_rows : ℕ → Setup → List Entry → ℕ → Request → List (Row Refusal)
add_rows limit s q id r =
    (outside_ids id, BadId) ∷ (waits id q, IdWaiting)
    ∷ request_rows s r ++ (not (has_plan_lem s (r ∷ [])), NoPlanAlone) ∷ (leb limit (length q), QueueFull) ∷ []

-- 4: the id; 6: it isn't waiting
unfoldable pub drop_rows : List Entry → ℕ → List (Row Refusal)
drop_rows q id = (outside_ids id, BadId) ∷ (not (waits id q), IdNotWaiting) ∷ []

-- 14: slice shorter than twice the writes
unfoldable pub turn_rows : Setup → List Entry → ℕ → List (Row Refusal)
turn_rows s q room = (ltb room (2 * length (writes_of s (taken s q))), SliceTooShort) ∷ []

-- order 6: "n is 0 to 64"
unfoldable pub turns_limit : ℕ
turns_limit = 64

-- 10: more turns at once than that; 14: "either slice is too short for all n"
unfoldable pub turns_rows : Setup → List Entry → ℕ → ℕ → ℕ → List (Row Refusal)
turns_rows s q n room places =
    (ltb turns_limit n, OutOfRange) ∷ (either (ltb room (2 * length (joined (lists_of s n q)))) (ltb places n), SliceTooShort) ∷ []

-- ---- 2: a call before open, or a second open

-- these rows before open, and 2 afterwards
unfoldable pub before_open : Plain → List (Row Refusal) → List (Row Refusal)
before_open not_open_lem rows = rows
before_open (opened s q) rows = (true, CallOrder) ∷ []

-- 2 before open, and afterwards the rows of the setup and the queue
unfoldable pub once_open : Plain → (Setup → List Entry → List (Row Refusal)) → List (Row Refusal)
once_open not_open_lem rows = (true, CallOrder) ∷ []
once_open (opened s q) rows = rows s q

-- ---- the table (1 is the text layer's)

-- open: 2, 3, 7, 10; add: 2, 4, 5, 7, 8, 10, 9, 11, 12, 13; drop: 2, 4, 6; turn: 2, 14; turns: 2, 10, 14
unfoldable pub table : ℕ → Plain → Call → List (Row Refusal)
table limit p (Open o) = before_open p (opening_table o)
table limit p (Add id r) = once_open p (λ s q. add_rows limit s q id r)
table limit p (Drop id) = once_open p (λ s q. drop_rows q id)
table limit p (Turn room) = once_open p (λ s q. turn_rows s q room)
table limit p (Turns n room places) = once_open p (λ s q. turns_rows s q n room places)

-- by which row a call is refused in a state; none is an accepted call
unfoldable pub refusal : ℕ → Plain → Call → Option Refusal
refusal limit p c = first_holding (table limit p c)
