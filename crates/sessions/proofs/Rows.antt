-- A call is refused by the first row that applies, and accepted where none does. Assumes nothing.
--     in-order         the rows of a call stand in the order in which they are checked
--     exact            their conditions are document 01's
--     numbered         and a row that applies is one of them
--     refusal-table    so the table says what document 01 says
use mathlib.Core.Path.{◌≡◌, refl}
use mathlib.Core.Logic.{inl, inr, ◌↔◌}
use mathlib.Core.List.{List, ◌∷◌}
use mathlib.Core.Bool.{Bool, true}
use Prim.Native.Nat.{ℕ}
use lib.ListN.{length}
use Rattle.requests.specs.declared.Entry.{Entry}
use Rattle.requests.specs.declared.Opening.{Opening}
use Rattle.requests.specs.declared.Setup.{Setup}
use Rattle.requests.specs.declared.Request.{Request}
use Rattle.requests.specs.declared.Refusal.{Refusal}
use Rattle.requests.specs.declared.Refusal.TheVariants.{BadOpening, BadId, IdWaiting, IdNotWaiting, KindNotOnDevice, NotListed, OutOfRange, Incomplete, Conflicting, NoPlanAlone, QueueFull, SliceTooShort}
use Rattle.requests.specs.Bits.{in_list}
use Rattle.requests.specs.Refusals.{number_of, check_order}
use Rattle.requests.specs.Choice.{both, either, Row}
use Rattle.requests.specs.Checks.{request_rows}
use Rattle.requests.proofs.ExactRows.{refused_requests}
use Rattle.plans.specs.Lists.{nil, cons}
use Rattle.requests.specs.Devices.{rows_where, opening_table}
use Rattle.requests.proofs.OpeningsTaken.{device_row, kind_row, range_row}
use Rattle.sessions.specs.Calls.{Call, Open, Add, Drop, Turn, Turns, Plain, not_open_lem, opened}
use Rattle.sessions.specs.Table.{add_rows, drop_rows, turn_rows, turns_rows, before_open, once_open, table, refusal}
use Rattle.sessions.specs.Sessions.{queue_limit}
use Rattle.sessions.specs.RefusalTable.{Applies, add_before, drop_before, turn_before, turns_before, second_open, no_device, asked_elsewhere, asked_outside, add_id, drop_id, id_waits, id_not_waits, kind, not_listed, lacks, range, many, conflict, alone, full, short, lists_short, ends_short, RefusalTable}
use Rattle.sessions.proofs.Fair.{numbers, Exact, in_order_lem, Fair, fair_some, fair_none}
use Rattle.sessions.proofs.Conditions.{not_test, id_test, waits_test, alone_test, full_test, short_test, many_test, turns_short_test}

-- "Checked in the order 1, 2, 3, .."
in_order : (limit : ℕ) (p : Plain) (c : Call) → in_order_lem (numbers (table limit p c)) (numbers (table limit p c)) check_order ≡ true
unfolding table before_open once_open rows_where opening_table add_rows request_rows drop_rows turn_rows turns_rows number_of check_order in_order_lem in_list both either
in_order limit not_open_lem (Open o) = refl
in_order limit not_open_lem (Add id r) = refl
in_order limit not_open_lem (Drop id) = refl
in_order limit not_open_lem (Turn room) = refl
in_order limit not_open_lem (Turns n room places) = refl
in_order limit (opened s q) (Open o) = refl
in_order limit (opened s q) (Add id r) = refl
in_order limit (opened s q) (Drop id) = refl
in_order limit (opened s q) (Turn room) = refl
in_order limit (opened s q) (Turns n room places) = refl

-- a row that applies in any case
always : {A : Type 0} → A → (true ≡ true) ↔ A
always a = (λ h. a, λ x. refl)

-- a row that applies exactly where P does, as its condition says
row : (A : ℕ → Type 0) (x : Refusal) {condition : Bool} {P : Type 0} {rows : List (Row Refusal)}
    → (condition ≡ true) ↔ P → (P → A (number_of x)) → (A (number_of x) → P) → Exact A rows → Exact A ((condition, x) ∷ rows)
row A x test applies fact rest = cons (λ h. applies (test.0 h), λ a. test.1 (fact a)) rest

-- the rows of an open
open_exact : (limit : ℕ) (o : Opening) → Exact (Applies limit not_open_lem (Open o)) (table limit not_open_lem (Open o))
unfolding table before_open rows_where opening_table number_of
open_exact limit o =
    let A : ℕ → Type 0 = Applies limit not_open_lem (Open o) in
    row A BadOpening (device_row o) (λ h. no_device h) (λ a. elim a [ no_device h ↦ h ])
    (row A KindNotOnDevice (kind_row o) (λ h. asked_elsewhere h.0 h.1) (λ a. elim a [ asked_elsewhere h n ↦ (h, n) ])
    (row A OutOfRange (range_row o) (λ h. asked_outside h) (λ a. elim a [ asked_outside h ↦ h ])
    nil))

-- of an add
add_exact : (limit : ℕ) (s : Setup) (q : List Entry) (id : ℕ) (r : Request) → Exact (Applies limit (opened s q) (Add id r)) (table limit (opened s q) (Add id r))
unfolding table once_open add_rows request_rows number_of
add_exact limit s q id r =
    let A : ℕ → Type 0 = Applies limit (opened s q) (Add id r) in
    row A BadId (id_test id) (λ h. add_id h) (λ a. elim a [ add_id h ↦ h ])
    (row A IdWaiting (waits_test id q) (λ h. id_waits h) (λ a. elim a [ id_waits h ↦ h ])
    (row A KindNotOnDevice (refused_requests.seven s.device r) (λ h. kind h) (λ a. elim a [ kind h ↦ h ])
    (row A NotListed (refused_requests.eight s.device r) (λ h. not_listed h) (λ a. elim a [ not_listed h ↦ h ])
    (row A OutOfRange (refused_requests.ten s.device r) (λ h. range h) (λ a. elim a [ range h ↦ h ])
    (row A Incomplete (refused_requests.nine s.device r) (λ h. lacks h) (λ a. elim a [ lacks h ↦ h ])
    (row A Conflicting (refused_requests.eleven s.device r) (λ h. conflict h) (λ a. elim a [ conflict h ↦ h ])
    (row A NoPlanAlone (alone_test s r) (λ h. alone h) (λ a. elim a [ alone h ↦ h ])
    (row A QueueFull (full_test limit (length q)) (λ h. full h) (λ a. elim a [ full h ↦ h ])
    nil))))))))

-- of a drop
drop_exact : (limit : ℕ) (s : Setup) (q : List Entry) (id : ℕ) → Exact (Applies limit (opened s q) (Drop id)) (table limit (opened s q) (Drop id))
unfolding table once_open drop_rows number_of
drop_exact limit s q id =
    let A : ℕ → Type 0 = Applies limit (opened s q) (Drop id) in
    row A BadId (id_test id) (λ h. drop_id h) (λ a. elim a [ drop_id h ↦ h ])
    (row A IdNotWaiting (not_test (waits_test id q)) (λ h. id_not_waits h) (λ a. elim a [ id_not_waits h ↦ h ])
    nil)

-- of a turn
turn_exact : (limit : ℕ) (s : Setup) (q : List Entry) (room : ℕ) → Exact (Applies limit (opened s q) (Turn room)) (table limit (opened s q) (Turn room))
unfolding table once_open turn_rows number_of
turn_exact limit s q room =
    row (Applies limit (opened s q) (Turn room)) SliceTooShort (short_test s q room) (λ h. short h.1 h.2) (λ a. elim a [ short {ps = ps} f l ↦ (ps, f, l) ])
    nil

-- of turns at once
turns_exact : (limit : ℕ) (s : Setup) (q : List Entry) (n room places : ℕ) → Exact (Applies limit (opened s q) (Turns n room places)) (table limit (opened s q) (Turns n room places))
unfolding table once_open turns_rows number_of
turns_exact limit s q n room places =
    let A : ℕ → Type 0 = Applies limit (opened s q) (Turns n room places) in
    row A OutOfRange (many_test n) (λ h. many h) (λ a. elim a [ many h ↦ h ])
    (row A SliceTooShort (turns_short_test s q n room places) (λ h. elim h [ inl t ↦ lists_short t.1 t.2 | inr l ↦ ends_short l ]) (λ a. elim a [ lists_short {lists = ls} f l ↦ inl (ls, f, l) | ends_short l ↦ inr l ])
    nil)

exact : (limit : ℕ) (p : Plain) (c : Call) → Exact (Applies limit p c) (table limit p c)
unfolding table before_open once_open number_of
exact limit not_open_lem (Open o) = open_exact limit o
exact limit not_open_lem (Add id r) = cons (always add_before) nil
exact limit not_open_lem (Drop id) = cons (always drop_before) nil
exact limit not_open_lem (Turn room) = cons (always turn_before) nil
exact limit not_open_lem (Turns n room places) = cons (always turns_before) nil
exact limit (opened s q) (Open o) = cons (always second_open) nil
exact limit (opened s q) (Add id r) = add_exact limit s q id r
exact limit (opened s q) (Drop id) = drop_exact limit s q id
exact limit (opened s q) (Turn room) = turn_exact limit s q room
exact limit (opened s q) (Turns n room places) = turns_exact limit s q n room places

numbered : {limit n : ℕ} {p : Plain} {c : Call} → Applies limit p c n → in_list (numbers (table limit p c)) n ≡ true
unfolding table before_open once_open rows_where opening_table add_rows request_rows drop_rows turn_rows turns_rows number_of in_list either
numbered add_before = refl
numbered drop_before = refl
numbered turn_before = refl
numbered turns_before = refl
numbered second_open = refl
numbered (no_device e) = refl
numbered (asked_elsewhere e n) = refl
numbered (asked_outside e) = refl
numbered (add_id e) = refl
numbered (drop_id e) = refl
numbered (id_waits e) = refl
numbered (id_not_waits e) = refl
numbered (kind e) = refl
numbered (not_listed e) = refl
numbered (range e) = refl
numbered (many e) = refl
numbered (lacks e) = refl
numbered (conflict e) = refl
numbered (alone e) = refl
numbered (full e) = refl
numbered (short f l) = refl
numbered (lists_short f l) = refl
numbered (ends_short l) = refl

fair : (limit : ℕ) (p : Plain) (c : Call) → Fair (Applies limit p c) (table limit p c)
fair limit p c = record { exact = exact limit p c; only = λ n a. numbered a; ordered = in_order limit p c }

pub refusal_table : RefusalTable
unfolding refusal queue_limit
refusal_table =
    record {
      refused = λ limit p c x e. fair_some (Applies limit p c) (fair limit p c) x e;
      accepted = λ limit p c e n a. fair_none (Applies limit p c) (fair limit p c) e n a;
      sixteen = refl;
    }
