-- What a turn comes to, given what a pass over the records has found and what is chosen of them.
use Rattle.std.specs.Prelude.{◌≡◌, List, [], ℕ, length, take, Some, Result, Ok, Err}
use Rattle.requests.specs.declared.Entry.{Entry}
use Rattle.requests.specs.declared.Refusal.{Refusal}
use Rattle.requests.specs.Devices.{capacity}
use Rattle.sessions.specs.Calls.{Turn}
use Rattle.sessions.specs.Sessions.{unassigned}
use Rattle.planner.specs.Selections.{in_array, planned}
use Rattle.lent_sessions.specs.Records.{standing}
use Rattle.lent_sessions.specs.Lent.{rows_after, lent_refusal, lent_turn, lent_turned, lent_slice}
use Rattle.lent_planner.specs.Surveys.{fresh, surveyed}
use Rattle.lent_planner.specs.Changes.{Fitting, rearranged}
use Rattle.lent_planner.specs.Choices.{HasChosen}
use Rattle.lent_sessions.specs.declared.LentSession.{LentSession}
use Rattle.lent_sessions.specs.declared.LentTurned.{LentTurned}
use Rattle.lent_planner.specs.declared.Survey.{Survey}
use Rattle.lent_planner.specs.declared.Choice.{Choice}
use Rattle.lent_planner.specs.declared.Change.{Change}

-- a turn that is refused
unfoldable pub turn_refused : LentSession → Refusal → LentTurned
turn_refused s x = lent_turn (Err x) s [] 0

-- a turn that is accepted
unfoldable pub turn_accepted : LentSession → Choice → ℕ → LentTurned
turn_accepted s t writes =
    record {
      answer = Ok tt;
      session = s;
      plan = in_array capacity unassigned (planned t.plan (take t.count t.taken));
      taken = t.count;
      writes = writes;
    }

-- the change of a turn, where so many wait: those passed over, then those taken
unfoldable pub turning : ℕ → Choice → Change
turning len t = record { from = 0; end = len; skip = 0; at = t.at; fresh = t.taken }

-- the turn is accepted, where the pass has found x and t is chosen, and its slice was `before` and is `after`
pub record MakesTurn (s : LentSession) (rows : List Entry) (x : Survey) (t : Choice) (before after : List ℕ) (writes : ℕ) : Type 0 where
  pub turned : turn_accepted s t writes ≡ lent_turned s rows (length before)
  pub slice : after ≡ lent_slice s rows before
  pub rows_after_lem : rearranged (turning x.len t) rows ≡ rows_after s rows (Turn (length before))
  pub fits : Fitting (turning x.len t) (length rows)

-- the refusal, or the number of writes, is that of the turn with these records
abbrev pub DecidesTurn : LentSession → List Entry → Survey → Choice → List ℕ → List ℕ → Result ℕ Refusal → Type 0
DecidesTurn s rows x t before after (Ok writes) = MakesTurn s rows x t before after writes
DecidesTurn s rows x t before after (Err y) = (lent_refusal s rows (Turn (length before)) ≡ Some y) × (after ≡ before)

-- so it is with any n records in which the pass has found x and of which t is chosen
abbrev pub TurnDecidesFor : LentSession → ℕ → Survey → Choice → List ℕ → List ℕ → Result ℕ Refusal → Type 0
TurnDecidesFor s n x t before after r =
    (rows : List Entry) → length rows ≡ n → x ≡ surveyed (fresh s.setup 0) rows → HasChosen s.setup (standing rows) t → DecidesTurn s rows x t before after r
