-- A record is one of the four calls, by the cases of the record, and its reply says what the call answers, by the laws on reading.
use Rattle.std.specs.Prelude.{Some}
use mathlib.Core.Path.{◌≡◌, refl, ap, ◌∙◌}
use mathlib.Core.Logic.{◌≢◌}
use mathlib.Core.List.{List, [], ◌∷◌, ◌++◌, flat_map}
use Prim.Native.Nat.{ℕ, ◌*◌}
use lib.ListN.{take, replicate}
use Rattle.requests.specs.Devices.{opening_of}
use Rattle.requests.specs.declared.Request.{Request}
use Rattle.sessions.specs.declared.Session.{Session}
use Rattle.sessions.specs.Calls as calls
use Rattle.sessions.specs.FaultTable.{fields_of}
use Rattle.sessions.specs.Sessions.{turn_of, turn_slice, plan_of, answer_to, next_session}
use Rattle.grammar.specs.declared.Record.{Record}
use Rattle.grammar.specs.declared.Record.TheVariants.{Open, Add, Drop, Turn}
use Rattle.answers.specs.Replies.{answer_text, take_lines, set_lines, turn_room, reply_at, reply_of, turn_reply, record_reply, named_reply}
use Rattle.answers.specs.Reader.{Answers, reply_says}
use Rattle.answers.specs.LinesAreCalls.{call_of, fault_text, fault_said, by_name_lem, fault_of, LinesAreCalls}
use Rattle.answers.proofs.FaultTexts.{call_field, table_text, named_table_text, fault_small, turn_field}
use Rattle.answers.proofs.ReadLines.{fault_reads}
use Rattle.answers.proofs.TurnsSaid.{turn_said}

left : (s : Session) (r : Record) → (record_reply s r).session ≡ next_session s (call_of r)
unfolding record_reply reply_of reply_at turn_reply next_session call_of
left s (Open given) = refl
left s (Add id r) = refl
left s (Drop id) = refl
left s Turn = refl

-- what a turn prints before its answer
told : Session → List ℕ
told s = flat_map take_lines (plan_of (turn_of s turn_room)) ++ set_lines (take (2 * (turn_of s turn_room).writes) (turn_slice s (replicate turn_room 0)))

-- the reply ends with the call's answer and its field
answered_last : (s : Session) (r : Record) → (before : List ℕ) × ((record_reply s r).text ≡ before ++ answer_text (answer_to s (call_of r)) (call_field s (call_of r)))
unfolding record_reply reply_of reply_at turn_reply answer_to call_of told fields_of
answered_last s (Open given) = ([], refl)
answered_last s (Add id r) = ([], refl)
answered_last s (Drop id) = ([], refl)
answered_last s Turn = (told s, rw (turn_field s))

answers_last : (s : Session) (r : Record) → (before : List ℕ) × ((record_reply s r).text ≡ before ++ fault_text (fault_of s (call_of r)))
answers_last s r = let (before, is) = answered_last s r in (before, is ∙ ap (λ (t : List ℕ). before ++ t) (table_text s (call_of r)))

-- that of an open, add or drop is nothing else
text_alone : (s : Session) (r : Record) → r ≢ Turn → (record_reply s r).text ≡ fault_text (fault_of s (call_of r))
unfolding record_reply reply_of reply_at answer_to call_of fields_of
text_alone s (Open given) h = table_text s (calls.Open (opening_of given))
text_alone s (Add id r) h = table_text s (calls.Add id r)
text_alone s (Drop id) h = table_text s (calls.Drop id)
text_alone s Turn h = absurd (h refl)

answered_alone : (s : Session) (r : Record) → r ≢ Turn → reply_says (record_reply s r).text ≡ Some (Answers (fault_said (fault_of s (call_of r))) ∷ [])
answered_alone s r h = rw (text_alone s r h) (fault_reads (fault_of s (call_of r)) (fault_small s (call_of r))).says

-- ---- by name

named_left : (s : Session) (id : ℕ) (r : Request) → (named_reply s id r).session ≡ next_session s (calls.Add id r)
unfolding named_reply reply_at next_session
named_left s id r = refl

named_last : (s : Session) (id : ℕ) (r : Request) → (named_reply s id r).text ≡ fault_text (by_name_lem (fault_of s (calls.Add id r)))
unfolding named_reply reply_at answer_to fields_of
named_last s id r = named_table_text s (calls.Add id r)

pub lines_are_calls : LinesAreCalls
lines_are_calls =
    record { session = left; answer = answers_last; alone = answered_alone; turn = turn_said; named_session = named_left; named_answer = named_last }
