-- The session and the plain queue agree. Assumes nothing.
--     answer-is     the session answers a call as the table says of the state that it stands for
--     next-is       one call keeps the session standing for the plain queue
use Rattle.std.specs.Prelude.{Option, None, Some}
use mathlib.Core.Path.{◌≡◌, refl, ap, sym, ◌∙◌}
use mathlib.Core.List.{List, [], ◌∷◌, ◌++◌}
use mathlib.Core.Bool.{Bool, true, false}
use mathlib.Mathlib.Data.Bool.Basic.{eq-true_of_not-eq-false}
use Prim.Native.Nat.{ℕ, zero, suc, ◌-◌}
use native.Mathlib.Omega.{arith}
use lib.ListN.{length, take, replicate}
use lib.Seq.{take_at}
use Rattle.requests.specs.declared.Setup.{Setup}
use Rattle.requests.specs.declared.Entry.{Entry}
use Rattle.requests.specs.declared.Refusal.{Refusal}
use Rattle.requests.specs.Refusals.{answer_for}
use Rattle.requests.specs.Devices.{setup_of}
use Rattle.sessions.specs.Turns.{turned, turned_times}
use Rattle.sessions.specs.Calls.{Call, Open, Add, Drop, Turn, Turns, Plain, not_open_lem, opened}
use Rattle.sessions.specs.Plain.{removed, on_queue, change, unless_refused, step}
use Rattle.sessions.specs.Sessions.{queue_limit, vacant, queued, padded, session_of, plain_of, refused_by, answered, open_of, add_of, drop_of, turn_answer, turn_of, turned_session, turns_answer, answer_to, next_session}
use Rattle.sessions.specs.RefusalTable.{Applies, add_before, drop_before, turn_before, turns_before}
use Rattle.sessions.specs.declared.Session.{Session}
use Rattle.sessions.proofs.Rows.{refusal_table}
use Rattle.sessions.proofs.TableAnswers.{plain_closed, plain_opened}

-- a queue is read back from its array
pub stored : (q : List Entry) → take (length q) (padded q) ≡ q
unfolding padded
stored q = take_at q (replicate (queue_limit - length q) vacant) (length q) refl

pub stands : (t : Setup) (q : List Entry) → plain_of (session_of t q) ≡ opened t q
unfolding plain_of session_of queued
stands t q = ap (opened t) (stored q)

-- the setup and the queue that a session stands for are its own
pub stands_for : (session : Session) (s : Setup) (q : List Entry) → plain_of session ≡ opened s q → (session.setup ≡ s) × (queued session ≡ q)
unfolding plain_of
stands_for session s q e = go session.opened refl
  where
    go : (b : Bool) → session.opened ≡ b → (session.setup ≡ s) × (queued session ≡ q)
    go true h = let k : opened session.setup (queued session) ≡ opened s q = rw (h, plain_of) at e in (cc, cc)
    go false h = let k : not_open_lem ≡ opened s q = rw (h, plain_of) at e in let z : ◌≡◌ {A = ℕ} 0 1 = cc in absurd (omega arith)

-- what a turn answers, by the row that refuses it
pub turn_by : (s : Session) (room : ℕ) (x : Option Refusal) → refused_by s (Turn room) ≡ x
    → ((turn_of s room).answer ≡ answer_for x) × ((turn_of s room).session ≡ unless_refused x s (session_of s.setup (turned s.setup (queued s))))
unfolding turn_of turn_answer
turn_by s room None e = (rw (e, turn_of), rw (e, turn_of))
turn_by s room (Some x) e = (rw (e, turn_of), rw (e, turn_of))

pub answer_is : (s : Session) (c : Call) → answer_to s c ≡ answer_for (refused_by s c)
unfolding answer_to open_of add_of drop_of turns_answer answered
answer_is s (Open o) = refl
answer_is s (Add id r) = refl
answer_is s (Drop id) = refl
answer_is s (Turn room) = (turn_by s room (refused_by s (Turn room)) refl).0
answer_is s (Turns n room places) = refl

-- ---- the session afterwards

-- the session that an accepted call leaves; no other call of a session is accepted
abbrev changed : Session → Call → Session
changed s (Open o) = elim (setup_of o) [ None ↦ s | Some t ↦ session_of t [] ]
changed s (Add id r) = session_of s.setup (queued s ++ record { id = id; request = r } ∷ [])
changed s (Drop id) = session_of s.setup (removed id (queued s))
changed s (Turn room) = session_of s.setup (turned s.setup (queued s))
changed s (Turns n room places) = turned_session n s

pub next_by : (s : Session) (c : Call) → next_session s c ≡ unless_refused (refused_by s c) s (changed s c)
unfolding next_session open_of add_of drop_of turns_answer answered
next_by s (Open o) = refl
next_by s (Add id r) = refl
next_by s (Drop id) = refl
next_by s (Turn room) = (turn_by s room (refused_by s (Turn room)) refl).1
next_by s (Turns n room places) = refl

-- ---- the plain queue afterwards

-- a session that accepts a call which is refused before open is open
is_open : (s : Session) (c : Call) → Applies queue_limit not_open_lem c 2 → refused_by s c ≡ None → s.opened ≡ true
unfolding refused_by
is_open s c before h = eq-true_of_not-eq-false (λ closed. refusal_table.accepted queue_limit not_open_lem c (rw (plain_closed s closed) at h) 2 before)

-- and the session with its queue changed stands for the plain queue changed
queue_is : (s : Session) (f : Setup → List Entry → List Entry) → s.opened ≡ true → plain_of (session_of s.setup (f s.setup (queued s))) ≡ on_queue (plain_of s) f
unfolding on_queue
queue_is s f h = stands s.setup (f s.setup (queued s)) ∙ sym (ap (λ (p : Plain). on_queue p f) (plain_opened s h))

opens : (s : Session) (x : Option Setup) → plain_of (elim x [ None ↦ s | Some t ↦ session_of t [] ]) ≡ elim x [ None ↦ plain_of s | Some t ↦ opened t [] ]
opens s None = refl
opens s (Some t) = stands t []

-- n turns of a session that stands for a queue
times_stand : (n : ℕ) (s : Session) (t : Setup) (q : List Entry) → plain_of s ≡ opened t q → plain_of (turned_session n s) ≡ opened t (turned_times t n q)
unfolding turned_session turned_times
times_stand zero s t q same = same
times_stand (suc n) s t q same =
    let e = stands_for s t q same in
    times_stand n (session_of s.setup (turned s.setup (queued s))) t (turned t q) (
    stands s.setup (turned s.setup (queued s))
    ∙ ap (λ (x : Setup). opened x (turned x (queued s))) e.0
    ∙ ap (λ (l : List Entry). opened t (turned t l)) e.1
    )

times_are : (n : ℕ) (s : Session) → s.opened ≡ true → plain_of (turned_session n s) ≡ on_queue (plain_of s) (λ t q. turned_times t n q)
unfolding on_queue
times_are n s h = times_stand n s s.setup (queued s) (plain_opened s h) ∙ sym (ap (λ (p : Plain). on_queue p (λ t q. turned_times t n q)) (plain_opened s h))

changed_is : (s : Session) (c : Call) → refused_by s c ≡ None → plain_of (changed s c) ≡ change (plain_of s) c
unfolding change
changed_is s (Open o) h = opens s (setup_of o)
changed_is s (Add id r) h = queue_is s (λ t q. q ++ record { id = id; request = r } ∷ []) (is_open s (Add id r) add_before h)
changed_is s (Drop id) h = queue_is s (λ t q. removed id q) (is_open s (Drop id) drop_before h)
changed_is s (Turn room) h = queue_is s (λ t q. turned t q) (is_open s (Turn room) turn_before h)
changed_is s (Turns n room places) h = times_are n s (is_open s (Turns n room places) turns_before h)

pub next_is : (s : Session) (c : Call) → plain_of (next_session s c) ≡ step queue_limit (plain_of s) c
unfolding step refused_by
next_is s c = ap plain_of (next_by s c) ∙ go (refused_by s c) refl
  where
    go : (x : Option Refusal) → refused_by s c ≡ x → plain_of (unless_refused x s (changed s c)) ≡ unless_refused x (plain_of s) (change (plain_of s) c)
    go None h = changed_is s c h
    go (Some x) h = refl
