-- Demand 2 of every accepted turn of a lent session.
use Rattle.std.specs.Prelude.{◌≡◌, List, ℕ, length, Ok}
use Rattle.requests.specs.declared.Entry.{Entry}
use Rattle.sessions.specs.Calls.{Turn}
use Rattle.sessions.specs.TurnPlan.{TurnResult, TurnDone}
use Rattle.lent_sessions.specs.RowRules.{SoundRows}
use Rattle.lent_sessions.specs.Lent.{lent_turned, lent_slice, lent_plan, plain_with, rows_after}
use Rattle.lent_sessions.specs.Histories.{IsOpened}
use Rattle.lent_sessions.specs.declared.LentSession.{LentSession}

-- what comes of a turn of a lent session, given the slice
abbrev pub lent_result : LentSession → List Entry → List ℕ → TurnResult
lent_result s rows slice =
    let a = lent_turned s rows (length slice) in
    record { plan = lent_plan a; writes = a.writes; slice = lent_slice s rows slice; queue = plain_with a.session (rows_after s rows (Turn (length slice))) }

-- of every session that open has opened, with any sound rows, whatever slice the turn is given; `SameAsSmall.lends` says that calls keep rows sound
abbrev pub LentTurnPlan : Type 0
LentTurnPlan =
    (s : LentSession) (rows : List Entry)
    → IsOpened s
    → (kept : SoundRows s.setup rows) (slice : List ℕ)
    → (lent_turned s rows (length slice)).answer ≡ Ok tt
    → TurnDone s.setup kept.queue slice (lent_result s rows slice)
