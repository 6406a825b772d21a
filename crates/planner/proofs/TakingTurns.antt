-- The loops over n turns: what has been counted or written so far, and what the next turn and the end make of it. Assumes nothing.
--     Counted    the numbers of the lists counted so far
--     Written    the lists and ends written so far
--     turns-..   the outcome of the call, by its answer
use Rattle.std.specs.Prelude.{None, Some, Ok, Err}
use mathlib.Core.Path.{◌≡◌, refl, ap, sym, ◌∙◌}
use mathlib.Core.List.{List, [], ◌∷◌, ◌++◌, append_assoc, append-nil}
use mathlib.Core.Bool.{true}
use Prim.Native.Nat.{ℕ, zero, suc, ◌+◌, ◌*◌, ◌-◌, ◌≤◌, ◌<◌}
use native.Mathlib.Numerals.{add-one}
use native.Mathlib.Omega.{arith}
use lib.ListN.{length, take, drop, set, length-append, length-drop, length-set, take-append-drop, drop_of_length-le}
use lib.Seq.{take_all, length-take-le, take-append-add, drop-append-add, take-suc-set, drop-set-lt}
use Rattle.requests.specs.declared.Entry.{Entry}
use Rattle.requests.specs.declared.Refusal.{Refusal}
use Rattle.requests.specs.Answers.{Answer}
use Rattle.requests.specs.Refusals.{answer_for}
use Rattle.layouts.specs.Settings.{settings_of}
use Rattle.layouts.specs.Writes.{Write, writes, filled}
use Rattle.layouts.proofs.FilledSlices.{filled_none, length_filled, filled_more}
use Rattle.registers.proofs.WriteLengths.{writes_small}
use Rattle.sessions.specs.Turns.{requests_of, taken, places_of, writes_of, lists_of, joined, ends_from}
use Rattle.sessions.specs.Calls.{Turns}
use Rattle.sessions.specs.Sessions.{queued, refused_by, turn_of, turn_slice, turned_session, turns_answer, turns_slice, turns_ends}
use Rattle.sessions.specs.declared.Session.{Session}
use Rattle.sessions.specs.declared.TurnAnswered.{TurnAnswered}
use Rattle.requests.proofs.AnswerTests.{answer_none, answer_some}
use Rattle.sessions.proofs.TableAnswers.{answered_refused, answered_accepted}
use Rattle.sessions.proofs.TurnByTurn.{lists_for, next_list, next_turned, single_session, single_writes, single_slice, turned_open, turned_lists, joined_lists}

-- every list is short, so that their numbers can be added
list_small : (s : Session) → length (next_list s) ≤ 100
unfolding writes_of writes
list_small s =
    let es : List Entry = taken s.setup (queued s) in
    omega (arith, writes_small s.setup (settings_of s.setup (requests_of es) (places_of s.setup es)))

-- the numbers of n lists, by those of the next and of the others
total_next : (n : ℕ) (s : Session) → 2 * length (joined (lists_for (suc n) s)) ≡ 2 * length (next_list s) + 2 * length (joined (lists_for n (next_turned s)))
total_next n s = omega (arith, ap length (joined_lists n s), length-append (next_list s) (joined (lists_for n (next_turned s))))

-- ---- counting

-- of n turns of the session s, i are counted, and the session next is that after them
pub record Counted (s : Session) (n : ℕ) (next : Session) (count i : ℕ) : Type 0 where
  pub left : ℕ
  pub sum : i + left ≡ n
  pub small : count ≤ 200 * i
  pub total : count + 2 * length (joined (lists_for left next)) ≡ 2 * length (joined (lists_for n s))

pub counted_none : (s : Session) (n : ℕ) → Counted s n s 0 0
counted_none s n = record { left = n; sum = omega arith; small = omega arith; total = omega arith }

module _ {s : Session} {n : ℕ} {next : Session} {count i : ℕ} (so : Counted s n next count i) where
  counted_left : (l : ℕ) → so.left ≡ l → i < n → Counted s n (next_turned next) (count + 2 * length (next_list next)) (i + 1)
  counted_left zero h less = absurd (omega (arith, so.sum, h, less))
  counted_left (suc l) h less =
      record {
        left = l;
        sum = omega (arith, so.sum, h);
        small = omega (arith, so.small, list_small next);
        total = omega (arith, rw h at so.total, total_next l next);
      }

  pub counted_next : {after : Session} {k : ℕ} → i < n → after ≡ next_turned next → k ≡ length (next_list next) → Counted s n after (count + 2 * k) (i + 1)
  counted_next less e f = rw (e, f) (counted_left so.left refl less)

  counted_last : (l : ℕ) → so.left ≡ l → n ≤ i → count ≡ 2 * length (joined (lists_for n s))
  unfolding lists_of joined
  counted_last zero h done = omega (arith, rw h at so.total)
  counted_last (suc l) h done = absurd (omega (arith, so.sum, h, done))

  pub counted_all : n ≤ i → count ≡ 2 * length (joined (lists_for n s))
  counted_all done = counted_last so.left refl done

-- ---- writing

-- of n turns of the session s, i are taken, and next is the session after them; their lists stand before the place `at` of the slice, and their ends
-- before place i of the other
pub record Written (s : Session) (n : ℕ) (out₀ ends₀ : List ℕ) (next : Session) (at i : ℕ) (out ends : List ℕ) : Type 0 where
  pub left : ℕ
  pub sum : i + left ≡ n
  pub is_open : next.opened ≡ true
  pub session : turned_session left next ≡ turned_session n s
  pub room : at + 2 * length (joined (lists_for left next)) ≤ length out
  pub lists : take at out ++ filled (joined (lists_for left next)) (drop at out) ≡ filled (joined (lists_for n s)) out₀
  pub places : take i ends ++ (ends_from at (lists_for left next) ++ drop n ends) ≡ ends_from 0 (lists_for n s) ++ drop n ends₀
  pub same_out : length out ≡ length out₀
  pub same_ends : length ends ≡ length ends₀
  pub enough : n ≤ length ends₀

pub written_none : (s : Session) (n : ℕ) (out ends : List ℕ) → s.opened ≡ true → 2 * length (joined (lists_for n s)) ≤ length out → n ≤ length ends
    → Written s n out ends s 0 0 out ends
written_none s n out ends h room enough =
    record {
      left = n;
      sum = omega arith;
      is_open = h;
      session = refl;
      room = omega arith;
      lists = refl;
      places = refl;
      same_out = refl;
      same_ends = refl;
      enough = enough;
    }

-- a list in the part of a slice that begins at a place, and another behind it
placed_more : (at : ℕ) (out : List ℕ) (xs ys : List Write) → at ≤ length out
    → take (at + 2 * length xs) (take at out ++ filled xs (drop at out)) ++ filled ys (drop (at + 2 * length xs) (take at out ++ filled xs (drop at out)))
    ≡ take at out ++ filled (xs ++ ys) (drop at out)
placed_more at out xs ys inside =
    let front : List ℕ = take at out in
    let part : List ℕ = filled xs (drop at out) in
    ap (λ (j : ℕ). take (j + 2 * length xs) (front ++ part) ++ filled ys (drop (j + 2 * length xs) (front ++ part))) (sym (length-take-le at out inside))
    ∙ ap (λ (l : List ℕ). l ++ filled ys (drop (length front + 2 * length xs) (front ++ part))) (take-append-add front part (2 * length xs))
    ∙ ap (λ (l : List ℕ). (front ++ take (2 * length xs) part) ++ filled ys l) (drop-append-add front part (2 * length xs))
    ∙ append_assoc front (take (2 * length xs) part) (filled ys (drop (2 * length xs) part))
    ∙ ap (λ (l : List ℕ). front ++ l) (filled_more xs ys (drop at out))

module _ {s : Session} {n : ℕ} {out₀ ends₀ : List ℕ} {next : Session} {at i : ℕ} {out ends : List ℕ} (so : Written s n out₀ ends₀ next at i out ends) where
  -- the place lies in the slice
  pub written_inside : at ≤ length out
  written_inside = omega (arith, so.room)

  pub written_ends : i < n → i < length ends
  written_ends less = omega (arith, so.same_ends, so.enough, less)

  -- what is left of the slice
  rest_length : length (drop at out) ≡ length out - at
  rest_length = length-drop at out

  -- it has room for the next list
  room_next : (l : ℕ) → so.left ≡ l → i < n → at + 2 * length (next_list next) ≤ length out
  room_next zero h less = absurd (omega (arith, so.sum, h, less))
  room_next (suc l) h less = omega (arith, rw h at so.room, total_next l next)

  written_left : (l : ℕ) → so.left ≡ l → i < n
      → Written s n out₀ ends₀ (next_turned next) (at + 2 * length (next_list next)) (i + 1)
      (take at out ++ filled (next_list next) (drop at out)) (set ends i (at + 2 * length (next_list next)))
  unfolding turned_session ends_from
  written_left zero h less = absurd (omega (arith, so.sum, h, less))
  written_left (suc l) h less =
      let v : ℕ = at + 2 * length (next_list next) in
      let roomy : v ≤ length out = room_next (suc l) h less in
      let inside : at ≤ length out = written_inside in
      let long : length (take at out ++ filled (next_list next) (drop at out)) ≡ length out =
      omega (arith, length-append (take at out) (filled (next_list next) (drop at out)), length-take-le at out inside, length_filled (next_list next) (drop at out) (omega (arith, roomy, rest_length)), rest_length) in
      record {
        left = l;
        sum = omega (arith, so.sum, h);
        is_open = turned_open next;
        session = rw h at so.session;
        room = omega (arith, long, rw h at so.room, total_next l next);
        lists =
            placed_more at out (next_list next) (joined (lists_for l (next_turned next))) inside
            ∙ ap (λ (ws : List Write). take at out ++ filled ws (drop at out)) (sym (joined_lists l next))
            ∙ rw h at so.lists;
        places =
            ap (λ (k : ℕ). take k (set ends i v) ++ (ends_from v (lists_for l (next_turned next)) ++ drop n (set ends i v))) (add-one i)
            ∙ ap (λ (f : List ℕ). f ++ (ends_from v (lists_for l (next_turned next)) ++ drop n (set ends i v))) (take-suc-set ends i v (written_ends less))
            ∙ ap (λ (f : List ℕ). (take i ends ++ v ∷ []) ++ (ends_from v (lists_for l (next_turned next)) ++ f)) (drop-set-lt n ends i v less)
            ∙ append_assoc (take i ends) (v ∷ []) (ends_from v (lists_for l (next_turned next)) ++ drop n ends)
            ∙ ap (λ (ls : List (List Write)). take i ends ++ (ends_from at ls ++ drop n ends)) (sym (turned_lists l next))
            ∙ rw h at so.places;
        same_out = long ∙ so.same_out;
        same_ends = length-set ends i v ∙ so.same_ends;
        enough = so.enough;
      }

  -- what the next turn answers, and what it leaves in the part that it is lent
  module _ {a : TurnAnswered} {part : List ℕ} (less : i < n)
      (answer : a ≡ turn_of next (length (take (length out - at) (drop at out))))
      (slice : part ≡ turn_slice next (take (length out - at) (drop at out)))
    where
      whole : take (length out - at) (drop at out) ≡ drop at out
      whole = take_all (length out - at) (drop at out) (omega (arith, rest_length))

      roomy : 2 * length (next_list next) ≤ length (drop at out)
      roomy = omega (arith, room_next so.left refl less, rest_length)

      answer_is : a ≡ turn_of next (length (drop at out))
      answer_is = answer ∙ ap (λ (l : List ℕ). turn_of next (length l)) whole

      part_is : part ++ drop (length out - at) (drop at out) ≡ filled (next_list next) (drop at out)
      part_is =
          rw (drop_of_length-le (drop at out) {i = length out - at} (omega (arith, rest_length)), append-nil)
          (slice ∙ ap (turn_slice next) whole ∙ single_slice next so.is_open (drop at out) roomy)

      pub written_writes : a.writes ≡ length (next_list next)
      written_writes = ap (λ (x : TurnAnswered). x.writes) answer_is ∙ single_writes next so.is_open (length (drop at out)) roomy

      pub written_room : at + 2 * a.writes ≤ length out
      written_room = rw written_writes (room_next so.left refl less)

      pub written_next : Written s n out₀ ends₀ a.session (at + 2 * a.writes) (i + 1) (take at out ++ (part ++ drop (length out - at) (drop at out))) (set ends i (at + 2 * a.writes))
      written_next =
          rw (written_writes, part_is, ap (λ (x : TurnAnswered). x.session) answer_is ∙ single_session next so.is_open (length (drop at out)) roomy)
          (written_left so.left refl less)

  written_last : (l : ℕ) → so.left ≡ l → n ≤ i
      → (next ≡ turned_session n s) × (out ≡ filled (joined (lists_for n s)) out₀) × (ends ≡ ends_from 0 (lists_for n s) ++ drop n ends₀)
  unfolding turned_session lists_of joined ends_from
  written_last zero h done =
      let same : i ≡ n = omega (arith, so.sum, h) in (
        rw h at so.session,
        sym (take-append-drop at out) ∙ ap (λ (l : List ℕ). take at out ++ l) (sym (filled_none (drop at out))) ∙ rw h at so.lists,
        sym (take-append-drop n ends) ∙ ap (λ (k : ℕ). take k ends ++ drop n ends) (sym same) ∙ rw h at so.places,
      )
  written_last (suc l) h done = absurd (omega (arith, so.sum, h, done))

  pub written_all : n ≤ i → (next ≡ turned_session n s) × (out ≡ filled (joined (lists_for n s)) out₀) × (ends ≡ ends_from 0 (lists_for n s) ++ drop n ends₀)
  written_all done = written_last so.left refl done

-- ---- the call, by its answer

module _ (s : Session) (n : ℕ) (out ends : List ℕ) (a : Answer) (is : a ≡ answer_for (refused_by s (Turns n (length out) (length ends)))) where
  -- what the call answers and leaves in the slices
  abbrev Outcome : Session → List ℕ → List ℕ → Type 0
  Outcome next list places =
      (record { answer = a; session = next } ≡ turns_answer s n (length out) (length ends))
      × (list ≡ turns_slice s n out (length ends))
      × (places ≡ turns_ends s n (length out) ends)

  pub turns_refused : (x : Refusal) → a ≡ Err x → Outcome s out ends
  unfolding turns_answer turns_slice turns_ends
  turns_refused x e =
      let row : refused_by s (Turns n (length out) (length ends)) ≡ Some x = answer_some _ x (sym is ∙ e) in
      (answered_refused a (refused_by s (Turns n (length out) (length ends))) is s (turned_session n s) x e, rw row, rw row)

  pub turns_done : a ≡ (Ok tt) → Outcome (turned_session n s) (filled (joined (lists_for n s)) out) (ends_from 0 (lists_for n s) ++ drop n ends)
  unfolding turns_answer turns_slice turns_ends
  turns_done e =
      let row : refused_by s (Turns n (length out) (length ends)) ≡ None = answer_none _ (sym is ∙ e) in
      (answered_accepted a (refused_by s (Turns n (length out) (length ends))) is s (turned_session n s) e, rw row, rw row)
