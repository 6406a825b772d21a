-- What an add and a drop answer, and leave in the arrays, by what the code has found and changed. Assumes nothing.
use Rattle.std.specs.Prelude.{Ok, Err}
use mathlib.Core.Path.{◌≡◌, refl, ap, sym, ◌∙◌}
use mathlib.Core.Bool.{Bool, true, false}
use mathlib.Core.List.{List, [], ◌∷◌, ◌++◌}
use Prim.Native.Nat.{ℕ, ◌+◌, ◌<◌, min}
use native.Mathlib.Numerals.{add-one}
use native.Mathlib.Omega.{arith}
use lib.Dec.{eqb}
use Rattle.std.specs.List.{position}
use Rattle.std.specs.Option.{is_some}
use lib.ListN.{length, take, set, length-append, length-take}
use lib.Seq.{take-suc-set}
use Rattle.requests.specs.Answers.{Answer}
use Rattle.requests.specs.declared.Entry.{Entry}
use Rattle.requests.specs.declared.Refusal.{Refusal}
use Rattle.requests.specs.declared.Request.{Request}
use Rattle.requests.specs.Refusals.{answer_for}
use Rattle.requests.proofs.Windows.{take_min}
use Rattle.sessions.specs.Calls.{Call, Add, Drop, waits}
use Rattle.sessions.specs.Plain.{removed}
use Rattle.sessions.specs.Table.{outside_ids}
use Rattle.sessions.specs.Sessions.{queued, refused_by, add_of, drop_of}
use Rattle.sessions.specs.declared.Session.{Session}
use Rattle.sessions.proofs.TableAnswers.{add_room, add_closed, drop_closed}
use Rattle.planner.specs.Answering.{AnswersFor, RefusesBadId}
use Rattle.planner.proofs.Queues.{placed_waits, refused_answer, accepted_opened}
use Rattle.queue_rows.specs.Rows.{Sized, Holding, ClosesUp, queue_in}
use Rattle.queue_rows.specs.Heads.{session_in, AnswersIn}
use Rattle.queue_rows.specs.declared.Head.{Head}
use Rattle.queue_rows.proofs.Places.{queue_length}
use Rattle.queue_rows.proofs.HeadSessions.{in_size, in_queued, placed_alike, call_refused, call_accepted}

module _ (h : Head) (ids rows : List ℕ) (n : ℕ) (bound : n ≡ min h.len 16) where
  abbrev s : Session
  s = session_in h ids rows

  abbrev q : List Entry
  q = queue_in ids rows

  -- the queue stands in the first n places
  pub queue_front : take n q ≡ queued s
  queue_front = take_min q h.len n (rw (queue_length ids rows) bound) ∙ sym (in_queued h ids rows)

  pub queue_count : length (queued s) ≡ n
  queue_count = ap length (sym queue_front) ∙ length-take n q ∙ omega (arith, queue_length ids rows)

  -- the answer that goes by whether the id is waiting is the table's
  pub call_answer : (id : ℕ) (waiting : Bool) → outside_ids id ≡ false → Sized ids rows → waiting ≡ is_some (position (λ (x : ℕ). eqb id x) (take n ids))
      → (c : Call) (a : Answer) → AnswersFor h.opened h.setup h.len waiting id c a → a ≡ answer_for (refused_by s c)
  unfolding session_in
  call_answer id waiting inside size placed c a decided =
      decided s.queue (in_size h ids rows) inside (placed ∙ ap is_some (placed_alike ids rows size n id) ∙ placed_waits id (take n q) ∙ ap (waits id) queue_front)

  module _ (id : ℕ) (r : Request) (a : Answer) (is : a ≡ answer_for (refused_by s (Add id r))) where
    pub add_refuses : Sized ids rows → (y : Refusal) → a ≡ Err y → AnswersIn (add_of s id r) ids rows (record { answer = a; head = h })
    unfolding add_of
    add_refuses size y e = call_refused a (refused_by s (Add id r)) is size h _ y e

    -- an accepted add finds room
    pub add_fits : a ≡ (Ok tt) → n < 16
    add_fits e = let few = add_room s id r (sym is ∙ e) in omega (arith, few, queue_count)

    pub add_accepts : a ≡ (Ok tt) → {after more : List ℕ} → Holding after more (set q n (record { id = id; request = r }))
        → AnswersIn (add_of s id r) after more (record { answer = a; head = record { opened = h.opened; setup = h.setup; len = n + 1; trimmed = true } })
    unfolding add_of session_in
    add_accepts e {after} {more} held =
        let entry : Entry = record { id = id; request = r } in
        call_accepted a (refused_by s (Add id r)) is held.size s h.opened h.setup (n + 1) (queued s ++ (entry ∷ []))
        (accepted_opened s (Add id r) (add_closed _ id r) (sym is ∙ e))
        (sym (length-append (queued s) (entry ∷ []) ∙ rw queue_count))
        (rw (held.queue, add-one n, take-suc-set q n entry (omega (arith, add_fits e, queue_length ids rows)), queue_front))
        e

  module _ (id : ℕ) (a : Answer) (is : a ≡ answer_for (refused_by s (Drop id))) where
    pub drop_refuses : Sized ids rows → (y : Refusal) → a ≡ Err y → AnswersIn (drop_of s id) ids rows (record { answer = a; head = h })
    unfolding drop_of
    drop_refuses size y e = call_refused a (refused_by s (Drop id)) is size h _ y e

    pub drop_accepts : a ≡ (Ok tt) → {after more : List ℕ} {k : ℕ} → ClosesUp (removed id (take n q)) after more k
        → AnswersIn (drop_of s id) after more (record { answer = a; head = record { opened = h.opened; setup = h.setup; len = k; trimmed = true } })
    unfolding drop_of session_in
    drop_accepts e {after} {more} {k} closed =
        call_accepted a (refused_by s (Drop id)) is closed.size s h.opened h.setup k (removed id (queued s))
        (accepted_opened s (Drop id) (drop_closed _ id) (sym is ∙ e))
        (closed.count ∙ rw queue_front) (closed.front ∙ rw queue_front) e

-- a number that is no id is refused, whatever the arrays hold
module _ (h : Head) (ids rows : List ℕ) (size : Sized ids rows) (y : Refusal) (refuses : RefusesBadId h.opened y) (id : ℕ) (outside : outside_ids id ≡ true) where
  pub add_bad : (r : Request) → AnswersIn (add_of (session_in h ids rows) id r) ids rows (record { answer = Err y; head = h })
  unfolding session_in
  add_bad r = add_refuses h ids rows (min h.len 16) refl id r (Err y) (refused_answer ((refuses (session_in h ids rows) refl id outside).0 r)) size y refl

  pub drop_bad : AnswersIn (drop_of (session_in h ids rows) id) ids rows (record { answer = Err y; head = h })
  unfolding session_in
  drop_bad = drop_refuses h ids rows (min h.len 16) refl id (Err y) (refused_answer (refuses (session_in h ids rows) refl id outside).1) size y refl
