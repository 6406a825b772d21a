-- The answer of a call with the field of what the call was given is what the table with fields says. Assumes nothing.
--     table-text, table-said, named-table-text    the last line of a reply
--     fault-small                                 its field has one digit
--     turn-field                                  that of a turn is 0
use Rattle.std.specs.Prelude.{Option, None, Some, Ok, Err}
use mathlib.Core.Path.{◌≡◌, refl, ap, sym, subst, ◌∙◌}
use mathlib.Core.Bool.{Bool, true, false}
use Prim.Native.Nat.{ℕ}
use Rattle.requests.specs.declared.Refusal.{Refusal}
use Rattle.requests.specs.Answers.{Answer}
use Rattle.requests.specs.declared.Fault.{Fault}
use Rattle.requests.specs.declared.Fields.{Fields}
use Rattle.requests.specs.Refusals.{number_of, answer_for}
use Rattle.requests.specs.Faults.{no_fields, field_of, answer_field, with_field}
use Rattle.sessions.specs.declared.Session.{Session}
use Rattle.sessions.specs.Calls.{Call, Plain, not_open_lem, opened, Turn}
use Rattle.sessions.specs.FaultTable.{fields_of, On}
use Rattle.sessions.specs.Sessions.{queue_limit, queued, plain_of, refused_by, answer_to}
use Rattle.sessions.proofs.Agreed.{answer_is}
use Rattle.sessions.proofs.FaultRows.{fault_rows}
use Rattle.sessions.proofs.TableAnswers.{turn_closed}
use Rattle.names.specs.Named.{named_field}
use Rattle.answers.specs.Replies.{answer_text, turn_room}
use Rattle.answers.specs.Reader.{Refusing}
use Rattle.answers.specs.LinesAreCalls.{fault_text, fault_said, by_name_lem, fault_of}
use Rattle.answers.proofs.FieldWidths.{call_small, OneDigit, told_small}
use Rattle.answers.proofs.SliceFits.{turn_goes}

-- what an answer at a field says
abbrev pub answer_said : Answer → ℕ → Option Refusing
answer_said (Ok tt) k = None
answer_said (Err x) k = Some (number_of x, k)

-- the field of a call's answer
abbrev pub call_field : Session → Call → ℕ
call_field s c = answer_field (answer_to s c) (fields_of s.setup.device c)

-- ---- an answer and its field

option_text : (f : Fields) (x : Option Refusal) → answer_text (answer_for x) (answer_field (answer_for x) f) ≡ fault_text (with_field f x)
unfolding answer_for answer_field with_field fault_text answer_text
option_text f None = refl
option_text f (Some x) = refl

option_named : (f : Fields) (x : Option Refusal) → answer_text (answer_for x) (named_field (answer_field (answer_for x) f)) ≡ fault_text (by_name_lem (with_field f x))
unfolding answer_for answer_field with_field fault_text by_name_lem answer_text
option_named f None = refl
option_named f (Some x) = refl

option_said : (f : Fields) (x : Option Refusal) → answer_said (answer_for x) (answer_field (answer_for x) f) ≡ fault_said (with_field f x)
unfolding answer_for answer_field with_field fault_said
option_said f None = refl
option_said f (Some x) = refl

-- ---- in a session

session_on : (s : Session) → On (plain_of s) s.setup.device
unfolding On plain_of
session_on s = go s.opened
  where
    go : (b : Bool) → On (elim b [ true ↦ opened s.setup (queued s) | false ↦ not_open_lem ]) s.setup.device
    go true = refl
    go false = tt

module _ (s : Session) (c : Call) where
  fault_is : fault_of s c ≡ with_field (fields_of s.setup.device c) (refused_by s c)
  unfolding refused_by
  fault_is = fault_rows.fields queue_limit (plain_of s) c s.setup.device (session_on s)

  pub table_text : answer_text (answer_to s c) (call_field s c) ≡ fault_text (fault_of s c)
  table_text =
      ap (λ (a : Answer). answer_text a (answer_field a (fields_of s.setup.device c))) (answer_is s c)
      ∙ option_text (fields_of s.setup.device c) (refused_by s c) ∙ ap fault_text (sym fault_is)

  pub named_table_text : answer_text (answer_to s c) (named_field (call_field s c)) ≡ fault_text (by_name_lem (fault_of s c))
  named_table_text =
      ap (λ (a : Answer). answer_text a (named_field (answer_field a (fields_of s.setup.device c)))) (answer_is s c)
      ∙ option_named (fields_of s.setup.device c) (refused_by s c) ∙ ap (λ (f : Option Fault). fault_text (by_name_lem f)) (sym fault_is)

  pub table_said : answer_said (answer_to s c) (call_field s c) ≡ fault_said (fault_of s c)
  table_said =
      ap (λ (a : Answer). answer_said a (answer_field a (fields_of s.setup.device c))) (answer_is s c)
      ∙ option_said (fields_of s.setup.device c) (refused_by s c) ∙ ap fault_said (sym fault_is)

  pub fault_small : OneDigit (fault_of s c)
  fault_small = subst OneDigit (sym fault_is) (told_small (fields_of s.setup.device c) (call_small s.setup.device c) (refused_by s c))

-- ---- a turn

-- it is refused before open alone
pub turn_field : (s : Session) → call_field s (Turn turn_room) ≡ 0
unfolding fields_of answer_field field_of refused_by answer_for
turn_field s = go (plain_of s) refl
  where
    go : (p : Plain) → plain_of s ≡ p → answer_field (answer_to s (Turn turn_room)) no_fields ≡ 0
    go not_open_lem e = rw (answer_is s (Turn turn_room), e, turn_closed queue_limit turn_room)
    go (opened t q) e = rw (answer_is s (Turn turn_room), e, turn_goes t q)
