-- What the refusal table answers, by the tests that the code makes one after another. Assumes nothing.
--     holding-first, holding-rest   the first row that holds, of two tables one after the other
--     open-.., add-.., drop-.., turn-.., turns-..   by which row a call is refused
--     answered-refused, answered-accepted   the answer of a call, and the session afterwards
use Rattle.std.specs.Prelude.{Option, None, Some, Ok, Err}
use mathlib.Core.Path.{◌≡◌, refl, sym, ◌∙◌}
use Prim.Native.Nat.{ℕ, ◌*◌, ◌≤◌, ◌<◌}
use mathlib.Core.Bool.{Bool, true, false, not}
use mathlib.Core.List.{List, [], ◌∷◌, ◌++◌}
use native.Mathlib.Omega.{arith}
use native.Mathlib.Decide.{dec_le}
use lib.Dec.{ltb, leb}
use lib.ListN.{length}
use Rattle.requests.specs.declared.Opening.{Opening}
use Rattle.requests.specs.declared.Setup.{Setup}
use Rattle.requests.specs.declared.Request.{Request}
use Rattle.requests.specs.declared.Entry.{Entry}
use Rattle.requests.specs.declared.Refusal.{Refusal}
use Rattle.requests.specs.declared.Refusal.TheVariants.{CallOrder, BadId, IdWaiting, IdNotWaiting, OutOfRange, NoPlanAlone, QueueFull, SliceTooShort}
use Rattle.requests.specs.Answers.{Answer}
use Rattle.requests.specs.Choice.{either, Row, first_holding}
use Rattle.requests.specs.Refusals.{answer_for}
use Rattle.requests.specs.Devices.{opened_by, setup_of}
use Rattle.requests.specs.Checks.{request_rows, request_refusal}
use Rattle.requests.proofs.AnswerTests.{answer_none, answer_some}
use Rattle.requests.proofs.Openings.{opened_some, opened_none, taken_table}
use Rattle.plans.specs.Search.{has_plan_lem}
use Rattle.sessions.specs.Turns.{taken, writes_of, lists_of, joined}
use Rattle.sessions.specs.Calls.{Call, Open, Add, Drop, Turn, Turns, not_open_lem, opened, waits}
use Rattle.sessions.specs.Table.{outside_ids, add_rows, drop_rows, turn_rows, turns_limit, turns_rows, before_open, once_open, table, refusal}
use Rattle.sessions.specs.Sessions.{queue_limit, queued, plain_of, refused_by, answered, session_of, open_of}
use Rattle.sessions.specs.RefusalTable.{add_before, full}
use Rattle.sessions.specs.declared.Session.{Session}
use Rattle.sessions.proofs.Rows.{refusal_table}

-- ---- the plain queue of a session

pub plain_closed : (s : Session) → s.opened ≡ false → plain_of s ≡ not_open_lem
unfolding plain_of
plain_closed s h = rw (h, plain_of)

pub plain_opened : (s : Session) → s.opened ≡ true → plain_of s ≡ opened s.setup (queued s)
unfolding plain_of queued
plain_opened s h = rw (h, plain_of)

-- ---- tables one after the other

module _ {A : Type 0} where
  pub holding_first : (xs ys : List (Row A)) (x : A) → first_holding xs ≡ Some x → first_holding (xs ++ ys) ≡ Some x
  unfolding first_holding
  holding_first [] ys x h = let z : ◌≡◌ {A = ℕ} 0 1 = cc in absurd (omega arith)
  holding_first ((true, a) ∷ xs) ys x h = h
  holding_first ((false, a) ∷ xs) ys x h = holding_first xs ys x h

  pub holding_rest : (xs ys : List (Row A)) → first_holding xs ≡ None → first_holding (xs ++ ys) ≡ first_holding ys
  unfolding first_holding
  holding_rest [] ys h = refl
  holding_rest ((true, a) ∷ xs) ys h = let z : ◌≡◌ {A = ℕ} 0 1 = cc in absurd (omega arith)
  holding_rest ((false, a) ∷ xs) ys h = holding_rest xs ys h

-- ---- open

pub open_again : (limit : ℕ) (t : Setup) (q : List Entry) (o : Opening) → refusal limit (opened t q) (Open o) ≡ Some CallOrder
unfolding refusal table first_holding before_open
open_again limit t q o = refl

pub open_bad : (limit : ℕ) (o : Opening) (x : Refusal) → opened_by o ≡ Err x → refusal limit not_open_lem (Open o) ≡ Some x
unfolding refusal table before_open
open_bad limit o x h = (opened_none o x h).1

pub open_accepted : (limit : ℕ) (o : Opening) (t : Setup) → setup_of o ≡ Some t → refusal limit not_open_lem (Open o) ≡ None
unfolding refusal table before_open
open_accepted limit o t h = taken_table o t h

-- ---- calls before open

pub add_closed : (limit id : ℕ) (r : Request) → refusal limit not_open_lem (Add id r) ≡ Some CallOrder
unfolding refusal table first_holding once_open
add_closed limit id r = refl

pub drop_closed : (limit id : ℕ) → refusal limit not_open_lem (Drop id) ≡ Some CallOrder
unfolding refusal table first_holding once_open
drop_closed limit id = refl

pub turn_closed : (limit room : ℕ) → refusal limit not_open_lem (Turn room) ≡ Some CallOrder
unfolding refusal table first_holding once_open
turn_closed limit room = refl

pub turns_closed : (limit n room places : ℕ) → refusal limit not_open_lem (Turns n room places) ≡ Some CallOrder
unfolding refusal table first_holding once_open
turns_closed limit n room places = refl

module _ (limit : ℕ) (t : Setup) (q : List Entry) where
  -- ---- drop

  module _ (id : ℕ) where
    pub drop_bad_id : outside_ids id ≡ true → refusal limit (opened t q) (Drop id) ≡ Some BadId
    unfolding refusal table first_holding once_open drop_rows
    drop_bad_id h = rw h

    pub drop_not_waiting : outside_ids id ≡ false → waits id q ≡ false → refusal limit (opened t q) (Drop id) ≡ Some IdNotWaiting
    unfolding refusal table first_holding once_open drop_rows
    drop_not_waiting h w = rw (h, w)

    pub drop_accepted : outside_ids id ≡ false → waits id q ≡ true → refusal limit (opened t q) (Drop id) ≡ None
    unfolding refusal table first_holding once_open drop_rows
    drop_accepted h w = rw (h, w)

  -- ---- add

  module _ (id : ℕ) (r : Request) where
    pub add_bad_id : outside_ids id ≡ true → refusal limit (opened t q) (Add id r) ≡ Some BadId
    unfolding refusal table first_holding once_open add_rows
    add_bad_id h = rw h

    pub add_waiting : outside_ids id ≡ false → waits id q ≡ true → refusal limit (opened t q) (Add id r) ≡ Some IdWaiting
    unfolding refusal table first_holding once_open add_rows
    add_waiting h w = rw (h, w)

    -- the rows past 7, 8, 10, 9, 11
    last_rows : List (Row Refusal)
    last_rows = (not (has_plan_lem t (r ∷ [])), NoPlanAlone) ∷ (leb limit (length q), QueueFull) ∷ []

    add_rows_lem : outside_ids id ≡ false → waits id q ≡ false → refusal limit (opened t q) (Add id r) ≡ first_holding (request_rows t r ++ last_rows)
    unfolding last_rows refusal table first_holding once_open add_rows
    add_rows_lem h w = rw (h, w)

    module _ (h : outside_ids id ≡ false) (w : waits id q ≡ false) where
      pub add_ill_formed : (x : Refusal) → request_refusal t r ≡ Some x → refusal limit (opened t q) (Add id r) ≡ Some x
      unfolding request_refusal
      add_ill_formed x e = add_rows_lem h w ∙ holding_first (request_rows t r) last_rows x e

      pub add_no_plan : request_refusal t r ≡ None → has_plan_lem t (r ∷ []) ≡ false → refusal limit (opened t q) (Add id r) ≡ Some NoPlanAlone
      unfolding request_refusal last_rows first_holding
      add_no_plan e p = add_rows_lem h w ∙ holding_rest (request_rows t r) last_rows e ∙ rw p

      pub add_full : request_refusal t r ≡ None → has_plan_lem t (r ∷ []) ≡ true → leb limit (length q) ≡ true → refusal limit (opened t q) (Add id r) ≡ Some QueueFull
      unfolding request_refusal last_rows first_holding
      add_full e p f = add_rows_lem h w ∙ holding_rest (request_rows t r) last_rows e ∙ rw (p, f)

      pub add_accepted : request_refusal t r ≡ None → has_plan_lem t (r ∷ []) ≡ true → leb limit (length q) ≡ false → refusal limit (opened t q) (Add id r) ≡ None
      unfolding request_refusal last_rows first_holding
      add_accepted e p f = add_rows_lem h w ∙ holding_rest (request_rows t r) last_rows e ∙ rw (p, f)

  -- ---- turn

  module _ (room : ℕ) where
    pub turn_short : ltb room (2 * length (writes_of t (taken t q))) ≡ true → refusal limit (opened t q) (Turn room) ≡ Some SliceTooShort
    unfolding refusal table first_holding once_open turn_rows
    turn_short h = rw h

    pub turn_accepted_lem : ltb room (2 * length (writes_of t (taken t q))) ≡ false → refusal limit (opened t q) (Turn room) ≡ None
    unfolding refusal table first_holding once_open turn_rows
    turn_accepted_lem h = rw h

  -- ---- turns at once

  module _ (n room places : ℕ) where
    pub turns_many : ltb turns_limit n ≡ true → refusal limit (opened t q) (Turns n room places) ≡ Some OutOfRange
    unfolding refusal table first_holding once_open turns_rows
    turns_many h = rw h

    turns_row : ltb turns_limit n ≡ false → (b : Bool) → either (ltb room (2 * length (joined (lists_of t n q)))) (ltb places n) ≡ b
        → refusal limit (opened t q) (Turns n room places) ≡ first_holding ((b, SliceTooShort) ∷ [])
    unfolding refusal table first_holding once_open turns_rows
    turns_row h b e = rw (h, e)

    pub turns_short : ltb turns_limit n ≡ false → either (ltb room (2 * length (joined (lists_of t n q)))) (ltb places n) ≡ true
        → refusal limit (opened t q) (Turns n room places) ≡ Some SliceTooShort
    unfolding first_holding
    turns_short h e = turns_row h true e

    pub turns_accepted : ltb turns_limit n ≡ false → either (ltb room (2 * length (joined (lists_of t n q)))) (ltb places n) ≡ false → refusal limit (opened t q) (Turns n room places) ≡ None
    unfolding first_holding
    turns_accepted h e = turns_row h false e

-- ---- the answer

-- of a session that is not opened
pub answer_closed : (s : Session) (c : Call) (x : Option Refusal) → s.opened ≡ false → refusal queue_limit not_open_lem c ≡ x → answer_for x ≡ answer_for (refused_by s c)
unfolding refused_by
answer_closed s c x h e = rw (plain_closed s h, e)

-- of a session that is opened
pub answer_opened : (s : Session) (c : Call) (x : Option Refusal) → s.opened ≡ true → refusal queue_limit (opened s.setup (queued s)) c ≡ x
    → answer_for x ≡ answer_for (refused_by s c)
unfolding refused_by
answer_opened s c x h e = rw (plain_opened s h, e)

module _ (a : Answer) (x : Option Refusal) (h : a ≡ answer_for x) (old new : Session) where
  pub answered_refused : (y : Refusal) → a ≡ Err y → record { answer = a; session = old } ≡ answered x old new
  unfolding answered
  answered_refused y e = rw (h, answer_some x y (sym h ∙ e))

  pub answered_accepted : a ≡ (Ok tt) → record { answer = a; session = new } ≡ answered x old new
  unfolding answered
  answered_accepted e = rw (h, answer_none x (sym h ∙ e))

-- an accepted add finds room in the queue
pub add_room : (s : Session) (id : ℕ) (r : Request) → answer_for (refused_by s (Add id r)) ≡ (Ok tt) → length (queued s) < 16
unfolding refused_by queue_limit
add_room s id r h = go s.opened refl
  where
    below : {n : ℕ} → Dec (16 ≤ n) → (16 ≤ n → ⊥) → n < 16
    below (yes f) g = absurd (g f)
    below (no f) g = omega arith

    go : (b : Bool) → s.opened ≡ b → length (queued s) < 16
    go false e = absurd (refusal_table.accepted 16 not_open_lem (Add id r) (rw (plain_closed s e) at (answer_none (refused_by s (Add id r)) h)) 2 add_before)
    go true e =
        let n : 16 ≤ length (queued s) → ⊥ = λ f. refusal_table.accepted 16 (opened s.setup (queued s)) (Add id r) (rw (plain_opened s e) at (answer_none (refused_by s (Add id r)) h)) 13 (full f) in
        below (dec_le 16 (length (queued s))) n

-- ---- open

module _ (s : Session) (o : Opening) where
  pub open_order : s.opened ≡ true → record { answer = Err CallOrder; session = s } ≡ open_of s o
  unfolding open_of answered answer_for refused_by
  open_order h = rw (plain_opened s h, open_again queue_limit s.setup (queued s) o)

  pub open_refused : (x : Refusal) → s.opened ≡ false → opened_by o ≡ Err x → record { answer = Err x; session = s } ≡ open_of s o
  unfolding open_of answered answer_for refused_by
  open_refused x h e = rw (plain_closed s h, open_bad queue_limit o x e)

  pub open_with_lem : (t : Setup) → s.opened ≡ false → opened_by o ≡ Ok t → record { answer = Ok tt; session = session_of t [] } ≡ open_of s o
  unfolding open_of answered answer_for refused_by
  open_with_lem t h e = let n = opened_some o t e in rw (plain_closed s h, open_accepted queue_limit o t n, n)
