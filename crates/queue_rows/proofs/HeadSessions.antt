-- The session of a head and the arrays: its queue, and what an accepted or a refused call makes of it. Assumes nothing.
--     in-size, in-queued   the length of its array, and its queue
--     in-after             an opened session whose queue the arrays hold
--     placed-..            the first place of an id
use mathlib.Core.Path.{◌≡◌, refl, ap, sym, ◌∙◌}
use mathlib.Core.Bool.{Bool, true, false, cond, not}
use mathlib.Core.List.{List, [], ◌∷◌, map, append-nil}
use Prim.Native.Nat.{ℕ, ◌+◌, ◌≤◌, ◌<◌, min}
use native.Mathlib.Decide.{dec_le}
use native.Mathlib.Omega.{arith}
use lib.Dec.{eqb}
use lib.ListN.{length, take, length-map, length-take, length-append, length-replicate}
use lib.Seq.{take_all, take-take, length-take-le}
use Rattle.std.specs.List.{position, position_or_len, take-map}
use Rattle.std.specs.Prelude.{Option, Some, Ok, Err}
use Rattle.requests.specs.Answers.{Answer}
use Rattle.requests.specs.declared.Entry.{Entry}
use Rattle.requests.specs.declared.Refusal.{Refusal}
use Rattle.requests.specs.declared.Setup.{Setup}
use Rattle.requests.specs.Choice.{pick}
use Rattle.requests.specs.Refusals.{answer_for}
use Rattle.requests.proofs.Windows.{take_min}
use Rattle.sessions.specs.Plain.{removed}
use Rattle.sessions.specs.Sessions.{queue_limit, queued, padded, session_of, answered}
use Rattle.sessions.specs.declared.Session.{Session}
use Rattle.sessions.proofs.TableAnswers.{answered_refused, answered_accepted}
use Rattle.planner.proofs.Queues.{bears, placed_kept, padded_front}
use Rattle.queue_rows.specs.Rows.{Sized, queue_in}
use Rattle.queue_rows.specs.Heads.{places, session_in, answered_in, AnswersIn}
use Rattle.queue_rows.specs.declared.Head.{Head}
use Rattle.queue_rows.proofs.Places.{queue_length, ids_are}

-- ---- the queue of the session

pub padded_whole : (q : List Entry) → length q ≡ 16 → padded q ≡ q
unfolding padded queue_limit
padded_whole q h = rw h (append-nil q)

padded_length : (q : List Entry) (n : ℕ) → length q ≡ 16 → length (padded (take n q)) ≡ 16
unfolding padded queue_limit
padded_length q n h = rw (length-append, length-replicate, length-take) (omega arith)

-- as many of the first places as the queue has
front_padded : (q : List Entry) (n : ℕ) → length q ≡ 16 → take n (padded (take n q)) ≡ take n q
front_padded q n h = go (dec_le n 16)
  where
    go : Dec (n ≤ 16) → take n (padded (take n q)) ≡ take n q
    go (yes few) = padded_front (take n q) n (length-take-le n q (omega arith))
    go (no more) =
        let all = take_all n q (let g = more in omega arith) in
        rw (all, padded_whole q h) all

module _ (h : Head) (ids rows : List ℕ) where
  pub in_size : length (session_in h ids rows).queue ≡ 16
  unfolding session_in
  in_size = padded_length (queue_in ids rows) (places h) (queue_length ids rows)

  pub in_queued : queued (session_in h ids rows) ≡ take h.len (queue_in ids rows)
  unfolding session_in queued places
  in_queued = go h.trimmed
    where
      q : List Entry
      q = queue_in ids rows

      size : length q ≡ 16
      size = queue_length ids rows

      go : (b : Bool) → take h.len (padded (take (pick b h.len 16) q)) ≡ take h.len q
      go true = front_padded q h.len size
      go false = rw (take_all 16 q (omega (arith, size)), padded_whole q size)

-- an opened session whose queue stands in the first places
pub in_after : (o : Bool) (t : Setup) (n : ℕ) (ids rows : List ℕ) (es : List Entry) → o ≡ true → n ≡ length es → take n (queue_in ids rows) ≡ es
    → session_in (record { opened = o; setup = t; len = n; trimmed = true }) ids rows ≡ session_of t es
unfolding session_in places session_of
in_after o t n ids rows es opened count front = rw (opened, front, count)

-- a session whose array the arrays hold, with nothing cut off
pub in_whole : (s : Session) (ids rows : List ℕ) → length s.queue ≡ 16 → take 16 (queue_in ids rows) ≡ take 16 s.queue
    → session_in (record { opened = s.opened; setup = s.setup; len = s.len; trimmed = false }) ids rows ≡ s
unfolding session_in places
in_whole s ids rows size same = rw (same, take_all 16 s.queue (omega arith), padded_whole s.queue size)

-- the session is made of as many of the first places as count
pub in_places : (h : Head) (ids rows : List ℕ) (n : ℕ) → n ≡ min (places h) 16
    → record { opened = h.opened; setup = h.setup; queue = padded (take n (queue_in ids rows)); len = h.len } ≡ session_in h ids rows
unfolding session_in
in_places h ids rows n e = rw (take_min (queue_in ids rows) (places h) n (rw (queue_length ids rows) e))

-- ---- an id in the queue

-- its place among the ids is its place among the entries
module _ {A : Type 0} (f : A → ℕ) (p : ℕ → Bool) where
  place_mapped : (l : List A) → position_or_len p (map f l) ≡ position_or_len (λ (x : A). p (f x)) l
  place_mapped [] = refl
  place_mapped (x ∷ l) = ap (λ (n : ℕ). cond (not (p (f x))) (1 + n) 0) (place_mapped l)

  pub position_mapped : (l : List A) → position p (map f l) ≡ position (λ (x : A). p (f x)) l
  position_mapped l = rw (place_mapped l, length-map)

module _ (ids rows : List ℕ) (size : Sized ids rows) (n id : ℕ) where
  pub placed_alike : position (λ (x : ℕ). eqb id x) (take n ids) ≡ position (bears id) (take n (queue_in ids rows))
  placed_alike =
      ap (λ (l : List ℕ). position (λ (x : ℕ). eqb id x) (take n l)) (sym (ids_are ids rows size))
      ∙ ap (position (λ (x : ℕ). eqb id x)) (take-map (λ (e : Entry). e.id) n (queue_in ids rows))
      ∙ position_mapped (λ (e : Entry). e.id) (λ (x : ℕ). eqb id x) (take n (queue_in ids rows))

  -- no entry before its place is taken out
  pub placed_kept_in : (at : ℕ) → position (λ (x : ℕ). eqb id x) (take n ids) ≡ Some at
      → (at < n) × (removed id (take at (queue_in ids rows)) ≡ take at (queue_in ids rows))
  placed_kept_in at e =
      let t = placed_kept id (take n (queue_in ids rows)) at (sym placed_alike ∙ e) in
      let less : at < n = omega (arith, t.0, length-take n (queue_in ids rows)) in
      let same = take-take at n (queue_in ids rows) (omega arith) in
      (less, rw same at t.1)

-- ---- a call

module _ (a : Answer) (x : Option Refusal) (is : a ≡ answer_for x) {ids rows : List ℕ} (size : Sized ids rows) where
  -- refused, it leaves all as it is
  pub call_refused : (h : Head) (new : Session) (y : Refusal) → a ≡ Err y
      → AnswersIn (answered x (session_in h ids rows) new) ids rows (record { answer = a; head = h })
  unfolding answered_in
  call_refused h new y e = record { size = size; answered = answered_refused a x is (session_in h ids rows) new y e }

  -- accepted, it leaves an opened session with the queue in the first places
  pub call_accepted : (old : Session) (o : Bool) (t : Setup) (n : ℕ) (es : List Entry) → o ≡ true → n ≡ length es → take n (queue_in ids rows) ≡ es → a ≡ Ok tt
      → AnswersIn (answered x old (session_of t es)) ids rows (record { answer = a; head = record { opened = o; setup = t; len = n; trimmed = true } })
  unfolding answered_in
  call_accepted old o t n es opened count front e =
      record {
        size = size;
        answered =
            ap (λ (s : Session). record { answer = a; session = s }) (in_after o t n ids rows es opened count front)
            ∙ answered_accepted a x is old (session_of t es) e;
      }
