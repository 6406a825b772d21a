-- No call that a line makes is refused by row 14: it applies to no turn with room for 22 writes, by the limit of the writes, and to no other call.
use Rattle.std.specs.Prelude.{None, Err}
use mathlib.Core.Path.{◌≡◌, sym, ◌∙◌}
use mathlib.Core.List.{List}
use Prim.Native.Nat.{ℕ, ◌*◌, ◌≤◌}
use native.Mathlib.Omega.{arith}
use lib.ListN.{length}
use borrow.Author.Tests.{le-ltb}
use Rattle.requests.specs.declared.Opening.{Opening}
use Rattle.requests.specs.declared.Setup.{Setup}
use Rattle.requests.specs.declared.Request.{Request}
use Rattle.requests.specs.declared.Entry.{Entry}
use Rattle.requests.specs.declared.Refusal.TheVariants.{SliceTooShort}
use Rattle.requests.specs.Askings.{asked}
use Rattle.requests.specs.Refusals.{number_of}
use Rattle.layouts.proofs.WriteCount.{write_count}
use Rattle.sessions.specs.Calls.{Call, Open, Add, Drop, Turn, Plain, not_open_lem, opened}
use Rattle.sessions.specs.Turns.{taken, writes_of}
use Rattle.sessions.specs.Table.{refusal}
use Rattle.sessions.specs.RefusalTable.{Applies, short}
use Rattle.sessions.specs.Sessions.{queue_limit, plain_of, refused_by, open_of, add_of, drop_of, turn_of, answer_to}
use Rattle.sessions.specs.declared.Session.{Session}
use Rattle.sessions.proofs.Agreed.{answer_is}
use Rattle.sessions.proofs.Rows.{refusal_table}
use Rattle.requests.proofs.AnswerTests.{answer_some}
use Rattle.sessions.proofs.TableAnswers.{turn_accepted_lem}
use Rattle.sessions.proofs.TakenPlan.{taken_first}
use Rattle.answers.specs.Replies.{turn_room}
use Rattle.answers.proofs.DeviceWidths.{write_room}

-- in no state does the row apply to a turn with that room, or to another call
turn_not : (p : Plain) → ¬ Applies queue_limit p (Turn turn_room) 14
unfolding turn_room
turn_not not_open_lem a = elim a [ ]
turn_not (opened s q) (short first l) = omega (arith, write_count.at_most s _ _ first.legal, write_room s.device (asked s))

open_not : (p : Plain) (o : Opening) → ¬ Applies queue_limit p (Open o) 14
open_not p o a = elim a [ ]

add_not : (p : Plain) (id : ℕ) (r : Request) → ¬ Applies queue_limit p (Add id r) 14
add_not p id r a = elim a [ ]

drop_not : (p : Plain) (id : ℕ) → ¬ Applies queue_limit p (Drop id) 14
drop_not p id a = elim a [ ]

-- where the row does not apply, it is not the answer
not_answered : (s : Session) (c : Call) → ¬ Applies queue_limit (plain_of s) c 14 → ¬ (answer_to s c ≡ Err SliceTooShort)
unfolding refused_by number_of
not_answered s c h e =
    let row = answer_some (refused_by s c) SliceTooShort (sym (answer_is s c) ∙ e) in
    h (refusal_table.refused queue_limit (plain_of s) c SliceTooShort row).0

-- the slice has room for the list of a turn
pub turn_room_lem : (t : Setup) (q : List Entry) → 2 * length (writes_of t (taken t q)) ≤ turn_room
unfolding turn_room writes_of
turn_room_lem t q = omega (arith, write_count.at_most t _ _ (taken_first t q).legal, write_room t.device (asked t))

-- so a turn of an open session is accepted
pub turn_goes : (t : Setup) (q : List Entry) → refusal queue_limit (opened t q) (Turn turn_room) ≡ None
turn_goes t q = turn_accepted_lem queue_limit t q turn_room (le-ltb turn_room (2 * length (writes_of t (taken t q))) (turn_room_lem t q))

module _ (s : Session) where
  pub open_fits : (o : Opening) → ¬ ((open_of s o).answer ≡ Err SliceTooShort)
  unfolding answer_to
  open_fits o = not_answered s (Open o) (open_not (plain_of s) o)

  pub add_fits : (id : ℕ) (r : Request) → ¬ ((add_of s id r).answer ≡ Err SliceTooShort)
  unfolding answer_to
  add_fits id r = not_answered s (Add id r) (add_not (plain_of s) id r)

  pub drop_fits : (id : ℕ) → ¬ ((drop_of s id).answer ≡ Err SliceTooShort)
  unfolding answer_to
  drop_fits id = not_answered s (Drop id) (drop_not (plain_of s) id)

  pub turn_fits : ¬ ((turn_of s turn_room).answer ≡ Err SliceTooShort)
  unfolding answer_to
  turn_fits = not_answered s (Turn turn_room) (turn_not (plain_of s))
