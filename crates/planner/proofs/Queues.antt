-- Laws of the queue in its array, by the steps that the code takes: the first place of an id, an entry pushed at the back, an id removed
-- in place.
-- Assumes nothing.
use mathlib.Core.Path.{◌≡◌, refl, sym, ap, ◌∙◌}
use Prim.Native.Nat.{ℕ, zero, suc, ◌+◌, ◌-◌, ◌≤◌, ◌<◌, min}
use mathlib.Core.Bool.{Bool, true, false, cond, not}
use mathlib.Core.List.{List, [], ◌∷◌, ◌++◌, append-nil}
use native.Mathlib.Numerals.{add-one}
use native.Mathlib.Omega.{arith}
use native.Mathlib.Decide.{dec_lt}
use borrow.Author.Tests.{eq-eqb, ne_eqb, lt-ltb, le-ltb}
use lib.Dec.{eqb, ltb}
use lib.ListN.{length, take, drop, get_or, set, replicate, length-take, length-append, length-set}
use lib.Seq.{take_all, get_or-drop, drop-drop, drop-set-lt, take-suc, take-suc-set, take_at}
use borrow.Rule.Slice.PartMut.{put_mid}
use Rattle.std.specs.List.{position, position_or_len}
use Rattle.std.specs.Option.{is_some}
use Rattle.std.specs.Prelude.{Option, Some, None, Ok, Err}
use Rattle.std.proofs.lemmas.List.Quantifiers.{position-Some}
use Rattle.requests.proofs.Tests.{both_ways}
use Rattle.requests.specs.Answers.{Answer}
use Rattle.requests.specs.declared.Entry.{Entry}
use Rattle.requests.specs.declared.Refusal.{Refusal}
use Rattle.requests.specs.declared.Refusal.TheVariants.{CallOrder}
use Rattle.requests.specs.Choice.{either, pick}
use Rattle.requests.specs.Refusals.{answer_for}
use Rattle.sessions.specs.Calls.{Call, not_open_lem, waits}
use Rattle.sessions.specs.Table.{outside_ids, refusal}
use Rattle.sessions.specs.Plain.{removed}
use Rattle.sessions.specs.Sessions.{queue_limit, vacant, padded, queued, answered, session_of, refused_by}
use Rattle.sessions.specs.declared.Session.{Session}
use Rattle.sessions.proofs.TableAnswers.{answer_closed, answered_refused}
use Rattle.planner.specs.Answering.{AnswersFor}
use Rattle.planner.proofs.Arrays.{array_push, filled_behind}
use Rattle.requests.proofs.Windows.{take_min, take_next}

-- ---- an id removed

removed_append : (id : ℕ) (q rest : List Entry) → removed id (q ++ rest) ≡ removed id q ++ removed id rest
unfolding removed
removed_append id [] rest = refl
removed_append id (e ∷ q) rest = go (eqb id e.id) (removed_append id q rest)
  where
    go : (b : Bool) → removed id (q ++ rest) ≡ removed id q ++ removed id rest
        → pick b (removed id (q ++ rest)) (e ∷ removed id (q ++ rest)) ≡ pick b (removed id q) (e ∷ removed id q) ++ removed id rest
    go true h = h
    go false h = ap (λ (l : List Entry). e ∷ l) h

pub removed_same : (id : ℕ) (q : List Entry) (e : Entry) → id ≡ e.id → removed id (q ++ (e ∷ [])) ≡ removed id q
unfolding removed
removed_same id q e h = removed_append id q (e ∷ []) ∙ rw (eq-eqb id e.id h, append-nil)

pub removed_other : (id : ℕ) (q : List Entry) (e : Entry) → (id ≡ e.id → ⊥) → removed id (q ++ (e ∷ [])) ≡ removed id q ++ (e ∷ [])
unfolding removed
removed_other id q e h = removed_append id q (e ∷ []) ∙ rw (ne_eqb id e.id h)

-- ---- the first place of an id

-- whether an entry bears the id
abbrev pub bears : ℕ → Entry → Bool
bears id e = eqb id e.id

less_next : (m n : ℕ) → ltb (1 + m) (suc n) ≡ ltb m n
less_next m n = go (dec_lt m n)
  where
    go : Dec (m < n) → ltb (1 + m) (suc n) ≡ ltb m n
    go (yes h) = lt-ltb (1 + m) (suc n) (omega arith) ∙ sym (lt-ltb m n h)
    go (no h) = le-ltb (1 + m) (suc n) (omega arith) ∙ sym (le-ltb m n (omega arith))

place_inside : (id : ℕ) (q : List Entry) → ltb (position_or_len (bears id) q) (length q) ≡ waits id q
unfolding waits either
place_inside id [] = refl
place_inside id (e ∷ q) = go (eqb id e.id) (place_inside id q)
  where
    go : (b : Bool) → ltb (position_or_len (bears id) q) (length q) ≡ waits id q → ltb (cond (not b) (1 + position_or_len (bears id) q) 0) (suc (length q)) ≡ either b (waits id q)
    go true h = lt-ltb 0 (suc (length q)) (omega arith)
    go false h = less_next _ _ ∙ h

-- the id waits exactly where it has a place
pub placed_waits : (id : ℕ) (q : List Entry) → is_some (position (bears id) q) ≡ waits id q
placed_waits id q = found (ltb (position_or_len (bears id) q) (length q)) ∙ place_inside id q
  where
    found : (b : Bool) → is_some (cond b (Some (position_or_len (bears id) q)) None) ≡ b
    found true = refl
    found false = refl

-- no entry before the place is taken out
pub placed_kept : (id : ℕ) (q : List Entry) (at : ℕ) → position (bears id) q ≡ Some at → (at < length q) × (removed id (take at q) ≡ take at q)
unfolding removed
placed_kept id q at e =
    let t = position-Some (bears id) q at vacant e in
    (t.0, kept_below at (omega arith) t.2)
  where
    kept_below : (i : ℕ) → i ≤ length q → ((k : ℕ) → k < i → eqb id (get_or q k vacant).id ≡ false) → removed id (take i q) ≡ take i q
    kept_below zero room none = refl
    kept_below (suc i) room none =
        let inside : i < length q = omega arith in
        let other = none i (omega arith) in
        rw (take-suc q i vacant inside)
        (removed_other id (take i q) (get_or q i vacant) (λ f. both_ways (eq-eqb id _ f) other)
        ∙ ap (λ (l : List Entry). l ++ (get_or q i vacant ∷ [])) (kept_below i (omega arith) (λ k h. none k (omega arith))))

-- ---- a queue in its array

pub padded_none : padded [] ≡ replicate 16 vacant
unfolding padded queue_limit
padded_none = refl

-- an entry is stored in the first place past the queue
pub padded_push : (q : List Entry) (k : ℕ) (e : Entry) → k ≡ length q → k < 16 → set (padded q) k e ≡ padded (q ++ (e ∷ []))
unfolding padded queue_limit
padded_push q k e p h = array_push 16 vacant q k e p h

-- the list stands in front
pub padded_front : (q : List Entry) (n : ℕ) → length q ≡ n → take n (padded q) ≡ q
unfolding padded
padded_front q n h = take_at q _ n h

-- a session whose array holds the queue in front, and is vacated behind it
pub session_vacated : (s : Session) (q l rest : List Entry) → s.opened ≡ true → s.len ≡ length q → take s.len l ≡ q → s.len ≤ 16 → length l ≡ 16
    → rest ≡ replicate (length (take (16 - s.len) (drop s.len l))) vacant → s.queue ≡ put_mid s.len (16 - s.len) l rest → s ≡ session_of s.setup q
unfolding session_of padded queue_limit
session_vacated s q l rest open-already count front inside size vacated e = rw (← open-already, ← count, ← front, ← filled_behind vacant 16 s.len l rest inside size vacated, ← e)

-- ---- an id removed in place

-- of the first i entries those without the id stand in the first k places of l, and from place i on l is as q
pub record ClosedUp (q l : List Entry) (id i k : ℕ) : Type 0 where
  pub size : length l ≡ length q
  pub behind : k ≤ i
  pub count : k ≡ length (removed id (take i q))
  pub front : take k l ≡ removed id (take i q)
  pub rest : drop i l ≡ drop i q

pub closed_first : {q : List Entry} {id i : ℕ} → removed id (take i q) ≡ take i q → i ≤ length q → ClosedUp q q id i i
closed_first kept h = record {
  size = refl;
  behind = omega arith;
  count = rw (kept, length-take) (omega arith);
  front = sym kept;
  rest = refl;
}

-- at the end those without the id stand in front
pub closed_last : {q l : List Entry} {id i k : ℕ} → ClosedUp q l id i k → length q ≤ i → (k ≡ length (removed id q)) × (take k l ≡ removed id q)
closed_last {q} {l} {id} {i} {k} c h =
    let all : take i q ≡ q = take_all i q h in
    (rw all at c.count, rw all at c.front)

module _ {q l : List Entry} {id i k : ℕ} (c : ClosedUp q l id i k) (d : Entry) (h : i < length q) where
  same_entry : get_or l i d ≡ get_or q i d
  same_entry =
      let z : i + 0 ≡ i = omega arith in
      rw z at (sym (get_or-drop i l 0 d) ∙ ap (λ (x : List Entry). get_or x 0 d) c.rest ∙ get_or-drop i q 0 d)

  same_rest : drop (i + 1) l ≡ drop (i + 1) q
  same_rest = sym (drop-drop 1 i l) ∙ ap (drop 1) c.rest ∙ drop-drop 1 i q

  pub closed_without : id ≡ (get_or l i d).id → ClosedUp q l id (i + 1) k
  closed_without e =
      let w : removed id (take (i + 1) q) ≡ removed id (take i q) = ap (removed id) (take_next q i d h) ∙ removed_same id (take i q) (get_or q i d) (e ∙ ap (λ (x : Entry). x.id) same_entry) in
      record { size = c.size; behind = omega (arith, c.behind); count = rw w c.count; front = rw w c.front; rest = same_rest }

  pub closed_with : (id ≡ (get_or l i d).id → ⊥) → ClosedUp q (set l k (get_or l i d)) id (i + 1) (k + 1)
  closed_with e =
      let w : removed id (take (i + 1) q) ≡ removed id (take i q) ++ (get_or q i d ∷ []) = ap (removed id) (take_next q i d h) ∙ removed_other id (take i q) (get_or q i d) (λ f. e (f ∙ ap (λ (x : Entry). x.id) (sym same_entry))) in
      record {
        size = length-set l k (get_or l i d) ∙ c.size;
        behind = omega (arith, c.behind);
        count = rw (w, length-append, ← c.count);
        front = rw (add-one k, take-suc-set l k (get_or l i d) (omega (arith, c.behind, c.size)), c.front, w, same_entry);
        rest = drop-set-lt (i + 1) l k (get_or l i d) (omega (arith, c.behind)) ∙ same_rest;
      }

-- ---- a refused call

-- what is refused is answered so
pub refused_answer : {x : Option Refusal} {y : Refusal} → x ≡ Some y → Err y ≡ answer_for x
unfolding answer_for
refused_answer e = sym (ap answer_for e)

-- and leaves the session as it is
pub refused_answered : {x : Option Refusal} {y : Refusal} → x ≡ Some y → (old new : Session) → record { answer = Err y; session = old } ≡ answered x old new
refused_answered {x} {y} e old new = answered_refused (Err y) x (refused_answer e) old new y refl

-- ---- a call about an id

-- its answer, by the place of the id among the entries of the queue
pub placed_answer : (s : Session) (n id : ℕ) (c : Call) (waiting : Bool) (a : Answer) → AnswersFor s.opened s.setup s.len waiting id c a
    → waiting ≡ is_some (position (bears id) (take n s.queue)) → n ≡ min s.len 16 → length s.queue ≡ 16 → outside_ids id ≡ false → a ≡ answer_for (refused_by s c)
unfolding queued
placed_answer s n id c waiting a answers placed cut size inside =
    answers s.queue size inside (placed ∙ placed_waits id (take n s.queue) ∙ ap (waits id) (take_min s.queue s.len n (omega arith)))

-- ---- an accepted call

-- a call that is refused before open is accepted by an opened session only
pub accepted_opened : (s : Session) (c : Call) → refusal queue_limit not_open_lem c ≡ Some CallOrder → answer_for (refused_by s c) ≡ Ok tt → s.opened ≡ true
unfolding answer_for
accepted_opened s c before h = go s.opened refl
  where
    go : (b : Bool) → s.opened ≡ b → s.opened ≡ true
    go true e = e
    go false e = let f : answer_for (Some CallOrder) ≡ Ok tt = answer_closed s c (Some CallOrder) e before ∙ h in let z : ◌≡◌ {A = ℕ} 0 1 = cc in absurd (omega arith)
