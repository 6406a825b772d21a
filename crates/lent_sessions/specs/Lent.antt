-- What the calls of a lent session answer, and what they leave in the records, for every session, row set and argument.
use Rattle.std.specs.Prelude.{List, [], ◌∷◌, ◌++◌, Bool, true, false, not, ℕ, ◌-◌, length, take, replicate, Option, None, Some}
use Rattle.requests.specs.declared.Device.TheVariants.{G}
use Rattle.requests.specs.declared.Setup.{Setup}
use Rattle.requests.specs.declared.Entry.{Entry}
use Rattle.requests.specs.declared.Refusal.{Refusal}
use Rattle.requests.specs.declared.Refusal.TheVariants.{CallOrder, BadOpening}
use Rattle.requests.specs.Answers.{Answer}
use Rattle.requests.specs.Refusals.{answer_for}
use Rattle.requests.specs.Choice.{Row, first_holding}
use Rattle.requests.specs.Askings.{unasked}
use Rattle.requests.specs.Devices.{capacity, setup_of}
use Rattle.layouts.specs.Writes.{filled}
use Rattle.sessions.specs.Turns.{taken, places_of, assign, writes_of}
use Rattle.sessions.specs.Calls.{Call, Open, Add, Drop, Turn, Turns, Plain, not_open_lem, opened, waiting}
use Rattle.sessions.specs.Table.{table}
use Rattle.sessions.specs.Plain.{unless_refused, change}
use Rattle.sessions.specs.Sessions.{unassigned}
use Rattle.sessions.specs.declared.Assigned.{Assigned}
use Rattle.lent_sessions.specs.Records.{is_count, records_of, standing, sound_rows}
use Rattle.lent_sessions.specs.declared.LentSession.{LentSession}
use Rattle.lent_sessions.specs.declared.LentAnswered.{LentAnswered}
use Rattle.lent_sessions.specs.declared.LentTurned.{LentTurned}

-- the session before open
unfoldable pub new_lent : LentSession
new_lent = record { opened = false; setup = record { device = G; usable = record { 0 = 0 }; fixed = 0; overflow = unasked } }

-- the plain queue that a session stands for with these records
unfoldable pub plain_with : LentSession → List Entry → Plain
plain_with s rows = elim s.opened [ true ↦ opened s.setup (standing rows) | false ↦ not_open_lem ]

-- ---- refusals

-- 2: a call before open, or a second open
unfoldable pub out_of_order_lem : LentSession → Call → Bool
out_of_order_lem s (Open o) = s.opened
out_of_order_lem s (Add id r) = not s.opened
out_of_order_lem s (Drop id) = not s.opened
out_of_order_lem s (Turn room) = not s.opened
out_of_order_lem s (Turns n room places) = not s.opened

-- 3, of the records: "a length outside that range"; "A row set that breaks the rules (..) is refused with 3 by each call but open"
unfoldable pub bad_rows : Setup → List Entry → Call → Bool
bad_rows s rows (Open o) = not (is_count (length rows))
bad_rows s rows (Add id r) = not (sound_rows s rows)
bad_rows s rows (Drop id) = not (sound_rows s rows)
bad_rows s rows (Turn room) = not (sound_rows s rows)
bad_rows s rows (Turns n room places) = not (sound_rows s rows)

-- the table: 2, 3 for the records "right after 2", and document 01's with as many places as there are records, whose own 2 comes too late to decide
unfoldable pub lent_table : LentSession → List Entry → Call → List (Row Refusal)
lent_table s rows c = (out_of_order_lem s c, CallOrder) ∷ (bad_rows s.setup rows c, BadOpening) ∷ table (length rows) (plain_with s rows) c

-- by which row a call is refused; none is an accepted call
unfoldable pub lent_refusal : LentSession → List Entry → Call → Option Refusal
lent_refusal s rows c = first_holding (lent_table s rows c)

-- ---- what a call leaves

-- the records: as they were where the call is refused, and the changed queue with vacant records after it where it is accepted
unfoldable pub rows_after : LentSession → List Entry → Call → List Entry
rows_after s rows c = unless_refused (lent_refusal s rows c) rows (records_of (length rows) (waiting (change (plain_with s rows) c)))

-- the session that an accepted call leaves: open alone changes it
unfoldable pub lent_changed : LentSession → Call → LentSession
lent_changed s (Open o) = elim (setup_of o) [ None ↦ s | Some t ↦ record { opened = true; setup = t } ]
lent_changed s (Add id r) = s
lent_changed s (Drop id) = s
lent_changed s (Turn room) = s
lent_changed s (Turns n room places) = s

-- the session afterwards
unfoldable pub lent_after : LentSession → List Entry → Call → LentSession
lent_after s rows c = unless_refused (lent_refusal s rows c) s (lent_changed s c)

-- ---- what a call answers

-- open, add and drop: the answer, and the session afterwards
unfoldable pub lent_answered : LentSession → List Entry → Call → LentAnswered
lent_answered s rows c = record { answer = answer_for (lent_refusal s rows c); session = lent_after s rows c }

-- a turn's answer with this plan and number of writes
unfoldable pub lent_turn : Answer → LentSession → List Assigned → ℕ → LentTurned
lent_turn a s plan n = record { answer = a; session = s; plan = plan ++ replicate (capacity - length plan) unassigned; taken = length plan; writes = n }

-- turn, given the length of its slice
unfoldable pub lent_turned : LentSession → List Entry → ℕ → LentTurned
lent_turned s rows room =
    elim (lent_refusal s rows (Turn room)) [
      | None ↦ let es = taken s.setup (standing rows) in
          lent_turn (answer_for None) s (assign es (places_of s.setup es)) (length (writes_of s.setup es))
      | Some x ↦ lent_turn (answer_for (Some x)) s [] 0
    ]

-- what the slice of a turn holds afterwards
unfoldable pub lent_slice : LentSession → List Entry → List ℕ → List ℕ
lent_slice s rows slice = unless_refused (lent_refusal s rows (Turn (length slice))) slice (filled (writes_of s.setup (taken s.setup (standing rows))) slice)

-- the plan of a turn's answer
unfoldable pub lent_plan : LentTurned → List Assigned
lent_plan a = take a.taken a.plan
