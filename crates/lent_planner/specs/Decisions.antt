-- What a call comes to, given what a pass over the records has found.
use Rattle.std.specs.Prelude.{◌≡◌, true, false, List, ℕ, ◌<◌, None, Some, is_some, Result, Ok, Err, length, replicate}
use Rattle.requests.specs.declared.Entry.{Entry}
use Rattle.requests.specs.declared.Refusal.{Refusal}
use Rattle.requests.specs.Answers.{Answer}
use Rattle.requests.specs.Refusals.{answer_for}
use Rattle.requests.specs.declared.Opening.{Opening}
use Rattle.requests.specs.declared.Setup.{Setup}
use Rattle.requests.specs.declared.Request.{Request}
use Rattle.sessions.specs.Calls.{Call, Open, Add, opened, waits}
use Rattle.sessions.specs.Sessions.{vacant}
use Rattle.sessions.specs.Table.{refusal}
use Rattle.lent_planner.specs.Surveys.{fresh, surveyed}
use Rattle.lent_sessions.specs.Records.{is_count}
use Rattle.lent_sessions.specs.Lent.{lent_refusal, lent_after, rows_after}
use Rattle.lent_sessions.specs.BrokenRows.{UsesQueue}
use Rattle.lent_sessions.specs.declared.LentSession.{LentSession}
use Rattle.lent_planner.specs.declared.Survey.{Survey}

-- the answer is that of the call with these records, which it leaves so
abbrev pub Answers : LentSession → List Entry → Call → Answer → List Entry → Type 0
Answers s rows c a after = (a ≡ answer_for (lent_refusal s rows c)) × (after ≡ rows_after s rows c)

-- what comes before the refusal table in an add, a drop or a turn, with any n records in which the pass for any id has found this
abbrev pub ChecksRows : LentSession → ℕ → Survey → Answer → Type 0
ChecksRows s n t (Ok y) = (s.opened ≡ true) × (is_count n ≡ true) × (t.broken ≡ false)
ChecksRows s n t (Err x) = (id : ℕ) (rows : List Entry) → length rows ≡ n → t ≡ surveyed (fresh s.setup id) rows → (c : Call) → UsesQueue c → lent_refusal s rows c ≡ Some x

-- what the refusal table says of an add in a state with any queue in which the pass has found this, and an accepted one finds room
abbrev pub ChecksAdd : Setup → ℕ → Survey → ℕ → Request → Answer → Type 0
ChecksAdd s n t id r (Ok y) = ((q : List Entry) → waits id q ≡ is_some t.at → length q ≡ t.len → refusal n (opened s q) (Add id r) ≡ None) × (t.len < n)
ChecksAdd s n t id r (Err x) = (q : List Entry) → waits id q ≡ is_some t.at → length q ≡ t.len → refusal n (opened s q) (Add id r) ≡ Some x

-- what an open with any n records makes, or is refused with
abbrev pub DecidesOpen : LentSession → ℕ → Opening → Result Setup Refusal → Type 0
DecidesOpen s n o (Ok t) = (rows : List Entry) → length rows ≡ n → (lent_refusal s rows (Open o) ≡ None)
    × (lent_after s rows (Open o) ≡ record { opened = true; setup = t }) × (rows_after s rows (Open o) ≡ replicate n vacant)
DecidesOpen s n o (Err x) = (rows : List Entry) → length rows ≡ n → lent_refusal s rows (Open o) ≡ Some x
