-- n turns at once do what n single turns do. Assumes nothing.
--     single-..       a single turn that is given room enough
--     by-turns        so n single turns, each with the rest of a slice that is long enough for all
--     cut-lists       at the ends it falls into the lists
--     turn-by-turn    so it is of an accepted call
use Rattle.std.specs.Prelude.{None, Ok}
use mathlib.Core.Path.{◌≡◌, refl, ap, sym, ◌∙◌}
use mathlib.Core.List.{List, [], ◌∷◌, ◌++◌, map}
use mathlib.Core.Bool.{Bool, true, false}
use Prim.Native.Nat.{ℕ, zero, suc, ◌+◌, ◌*◌, ◌-◌, ◌≤◌}
use native.Mathlib.Omega.{arith}
use lib.ListN.{length, take, drop, length-append, length-drop}
use lib.Seq.{take_at, drop_at}
use borrow.Author.Tests.{le-ltb}
use Rattle.requests.specs.declared.Setup.{Setup}
use Rattle.requests.specs.declared.Entry.{Entry}
use Rattle.requests.specs.Answers.{Answer}
use Rattle.requests.specs.Refusals.{answer_for}
use Rattle.plans.specs.Lists.{All, nil, cons}
use Rattle.layouts.specs.Writes.{Write, flat, filled}
use Rattle.layouts.proofs.FilledSlices.{length_flat, filled_none, filled_rest, filled_both, filled_more}
use Rattle.requests.proofs.AnswerTests.{answer_none}
use Rattle.sessions.specs.Turns.{taken, turned, writes_of, lists_of, joined, ends_from}
use Rattle.sessions.specs.Calls.{Turn, Turns, Plain, not_open_lem, opened}
use Rattle.sessions.specs.RefusalTable.{turns_before, lists_short, ends_short}
use Rattle.sessions.specs.Sessions.{queue_limit, queued, session_of, plain_of, refused_by, answered, turn_of, turn_slice, plan_of, turned_session, turns_answer, turns_slice, turns_ends, answer_to, next_session}
use Rattle.sessions.specs.Completed.{small_session, CompletedTurn, turns_if, single_turns, turns_by}
use Rattle.sessions.specs.TurnByTurn.{turn_answers, last_session, slice_by_turns, ends_by_turns, cut_at, TurnByTurn}
use Rattle.sessions.specs.declared.Session.{Session}
use Rattle.sessions.specs.declared.Assigned.{Assigned}
use Rattle.sessions.specs.declared.TurnAnswered.{TurnAnswered}
use Rattle.sessions.proofs.Rows.{refusal_table}
use Rattle.sessions.proofs.TurnLists.{lists_hold}
use Rattle.sessions.proofs.TableAnswers.{plain_closed, plain_opened, turn_accepted_lem}
use Rattle.sessions.proofs.Accepted.{le_of_not_lt}
use Rattle.sessions.proofs.Agreed.{stored, turn_by, answer_is}
use Rattle.sessions.proofs.Answers.{turn_plan_is, turn_count_is, turn_slice_is}
use Rattle.sessions.proofs.Faithful.{plan_for}

-- the lists of n turns of a session
abbrev pub lists_for : ℕ → Session → List (List Write)
lists_for n s = lists_of s.setup n (queued s)

-- the list of the next turn
abbrev pub next_list : Session → List Write
next_list s = writes_of s.setup (taken s.setup (queued s))

-- the session after the next turn
abbrev pub next_turned : Session → Session
next_turned s = session_of s.setup (turned s.setup (queued s))

-- ---- one turn

module _ (s : Session) (open-already : s.opened ≡ true) where
  module _ (room : ℕ) (enough : 2 * length (next_list s) ≤ room) where
    no_row : refused_by s (Turn room) ≡ None
    unfolding refused_by
    no_row = rw (plain_opened s open-already) (turn_accepted_lem queue_limit s.setup (queued s) room (le-ltb room (2 * length (next_list s)) enough))

    pub single_answer : (turn_of s room).answer ≡ Ok tt
    unfolding answer_for
    single_answer = (turn_by s room None no_row).0

    pub single_session : (turn_of s room).session ≡ next_turned s
    single_session = (turn_by s room None no_row).1

    pub single_writes : (turn_of s room).writes ≡ length (next_list s)
    unfolding refused_by
    single_writes = turn_count_is s s.setup (queued s) (plain_opened s open-already) room (rw (plain_opened s open-already) at no_row)

    single_plan : plan_of (turn_of s room) ≡ plan_for s.setup (queued s)
    unfolding refused_by
    single_plan = turn_plan_is s s.setup (queued s) (plain_opened s open-already) room (rw (plain_opened s open-already) at no_row)

  pub single_slice : (slice : List ℕ) → 2 * length (next_list s) ≤ length slice → turn_slice s slice ≡ filled (next_list s) slice
  unfolding refused_by
  single_slice slice enough = turn_slice_is s s.setup (queued s) (plain_opened s open-already) slice (rw (plain_opened s open-already) at (no_row (length slice) enough))

-- the session after it is open, and its lists are the other lists
pub turned_open : (s : Session) → (next_turned s).opened ≡ true
unfolding session_of
turned_open s = refl

pub turned_lists : (n : ℕ) (s : Session) → lists_for (suc n) s ≡ next_list s ∷ lists_for n (next_turned s)
unfolding lists_of session_of queued
turned_lists n s = ap (λ (l : List Entry). next_list s ∷ lists_of s.setup n l) (sym (stored (turned s.setup (queued s))))

pub joined_lists : (n : ℕ) (s : Session) → joined (lists_for (suc n) s) ≡ next_list s ++ joined (lists_for n (next_turned s))
unfolding joined
joined_lists n s = ap joined (turned_lists n s)

-- ---- the plans

abbrev plans_of : List CompletedTurn → List (List Assigned)
plans_of ts = map (λ (t : CompletedTurn). t.plan) ts

-- the turns that n turns at once of a session complete
abbrev singles_for : ℕ → Session → List CompletedTurn
singles_for n s = single_turns small_session n s.setup (queued s) s

-- the next plan, and those of the session after it
next_plans : (n : ℕ) (s : Session) → s.opened ≡ true → plans_of (singles_for (suc n) s) ≡ plan_for s.setup (queued s) ∷ plans_of (singles_for n (next_turned s))
unfolding single_turns next_session session_of queued
next_plans n s open-already =
    let room : ℕ = 2 * length (next_list s) in
    ap (λ (p : List Assigned). p ∷ plans_of (single_turns small_session n s.setup (turned s.setup (queued s)) (turn_of s room).session)) (single_plan s open-already room (omega arith))
    ∙ ap (λ (x : Session). plan_for s.setup (queued s) ∷ plans_of (single_turns small_session n s.setup (turned s.setup (queued s)) x)) (single_session s open-already room (omega arith))
    ∙ ap (λ (l : List Entry). plan_for s.setup (queued s) ∷ plans_of (single_turns small_session n s.setup l (next_turned s))) (sym (stored (turned s.setup (queued s))))

-- ---- n turns

record ByTurns (n : ℕ) (s : Session) (slice : List ℕ) : Type 0 where
  pub completed : All (λ (a : TurnAnswered). a.answer ≡ Ok tt) (turn_answers n s slice)
  pub session : turned_session n s ≡ last_session s (turn_answers n s slice)
  pub lists : filled (joined (lists_for n s)) slice ≡ slice_by_turns n s slice
  pub places : (at : ℕ) → ends_from at (lists_for n s) ≡ ends_by_turns at (turn_answers n s slice)
  pub plans : plans_of (singles_for n s) ≡ map plan_of (turn_answers n s slice)

by_turns : (n : ℕ) (s : Session) (slice : List ℕ) → s.opened ≡ true → 2 * length (joined (lists_for n s)) ≤ length slice → ByTurns n s slice
unfolding turn_answers last_session slice_by_turns ends_by_turns turned_session lists_of joined ends_from single_turns
by_turns zero s slice open-already room = record { completed = nil; session = refl; lists = filled_none slice; places = λ at. refl; plans = refl }
by_turns (suc n) s slice open-already room = go (by_turns n (turn_of s (length slice)).session (drop (2 * (turn_of s (length slice)).writes) (turn_slice s slice)))
  where
    x : TurnAnswered
    x = turn_of s (length slice)

    after : List ℕ
    after = turn_slice s slice

    both : length (joined (lists_for (suc n) s)) ≡ length (next_list s ++ joined (lists_for n (next_turned s)))
    both = ap length (joined_lists n s)

    room_now : 2 * length (next_list s) ≤ length slice
    room_now = omega (arith, room, both, length-append (next_list s) (joined (lists_for n (next_turned s))))

    answer : x.answer ≡ Ok tt
    answer = single_answer s open-already (length slice) room_now

    next : x.session ≡ next_turned s
    next = single_session s open-already (length slice) room_now

    count : x.writes ≡ length (next_list s)
    count = single_writes s open-already (length slice) room_now

    list : after ≡ filled (next_list s) slice
    list = single_slice s open-already slice room_now

    room_later : 2 * length (joined (lists_for n (next_turned s))) ≤ length (drop (2 * length (next_list s)) (filled (next_list s) slice))
    room_later =
        rw (filled_rest (next_list s) slice)
        (omega (arith, room, both, length-append (next_list s) (joined (lists_for n (next_turned s))), length-drop (2 * length (next_list s)) slice))

    go : (x.session.opened ≡ true → 2 * length (joined (lists_for n x.session)) ≤ length (drop (2 * x.writes) after) → ByTurns n x.session (drop (2 * x.writes) after))
        → ByTurns (suc n) s slice
    go below =
        let b = below (rw next (turned_open s)) (rw (next, count, list) room_later) in
        record {
          completed = cons answer b.completed;
          session = ap (turned_session n) (sym next) ∙ b.session;
          lists =
              ap (λ (l : List Write). filled l slice) (joined_lists n s)
              ∙ sym (filled_more (next_list s) (joined (lists_for n (next_turned s))) slice)
              ∙ ap (λ (k : ℕ). take (2 * k) (filled (next_list s) slice) ++ filled (joined (lists_for n (next_turned s))) (drop (2 * k) (filled (next_list s) slice))) (sym count)
              ∙ ap (λ (l : List ℕ). take (2 * x.writes) l ++ filled (joined (lists_for n (next_turned s))) (drop (2 * x.writes) l)) (sym list)
              ∙ ap (λ (y : Session). take (2 * x.writes) after ++ filled (joined (lists_for n y)) (drop (2 * x.writes) after)) (sym next)
              ∙ ap (λ (l : List ℕ). take (2 * x.writes) after ++ l) b.lists;
          places =
              λ at. ap (ends_from at) (turned_lists n s)
              ∙ ap (λ (k : ℕ). (at + 2 * k) ∷ ends_from (at + 2 * k) (lists_for n (next_turned s))) (sym count)
              ∙ ap (λ (y : Session). (at + 2 * x.writes) ∷ ends_from (at + 2 * x.writes) (lists_for n y)) (sym next)
              ∙ ap (λ (l : List ℕ). (at + 2 * x.writes) ∷ l) (b.places (at + 2 * x.writes));
          plans =
              next_plans n s open-already
              ∙ ap (λ (p : List Assigned). p ∷ plans_of (singles_for n (next_turned s))) (sym (single_plan s open-already (length slice) room_now))
              ∙ ap (λ (y : Session). plan_of x ∷ plans_of (singles_for n y)) (sym next)
              ∙ ap (λ (l : List (List Assigned)). plan_of x ∷ l) b.plans;
        }

-- ---- the ends

cut_lists : (at : ℕ) (lists : List (List Write)) (slice : List ℕ) → cut_at at (ends_from at lists) (filled (joined lists) slice) ≡ map flat lists
unfolding cut_at ends_from joined
cut_lists at [] slice = refl
cut_lists at (ws ∷ lists) slice =
    let v : ℕ = at + 2 * length ws in
    let rest : List ℕ = filled (joined lists) (drop (2 * length ws) slice) in
    let size : v - at ≡ 2 * length ws = omega arith in
    ap (λ (l : List ℕ). take (v - at) l ∷ cut_at v (ends_from v lists) (drop (v - at) l)) (filled_both ws (joined lists) slice)
    ∙ ap (λ (k : ℕ). take k (flat ws ++ rest) ∷ cut_at v (ends_from v lists) (drop k (flat ws ++ rest))) size
    ∙ ap (λ (l : List ℕ). l ∷ cut_at v (ends_from v lists) (drop (2 * length ws) (flat ws ++ rest))) (take_at (flat ws) rest (2 * length ws) (length_flat ws))
    ∙ ap (λ (l : List ℕ). flat ws ∷ cut_at v (ends_from v lists) l) (drop_at (flat ws) rest (2 * length ws) (length_flat ws))
    ∙ ap (λ (l : List (List ℕ)). flat ws ∷ l) (cut_lists v lists (drop (2 * length ws) slice))

-- n lists have n ends
count_ends : (at n : ℕ) (t : Setup) (q : List Entry) → length (ends_from at (lists_of t n q)) ≡ n
unfolding ends_from lists_of
count_ends at zero t q = refl
count_ends at (suc n) t q = ap suc (count_ends (at + 2 * length (writes_of t (taken t q))) n t (turned t q))

-- ---- an accepted call

-- it finds the session open, and room for all lists and ends
abbrev Roomy : Session → ℕ → ℕ → ℕ → Type 0
Roomy s n room places = (s.opened ≡ true) × (2 * length (joined (lists_for n s)) ≤ room) × (n ≤ places)

pub accepted_turns : (s : Session) (n room places : ℕ) → refused_by s (Turns n room places) ≡ None → Roomy s n room places
unfolding refused_by
accepted_turns s n room places e = go s.opened refl
  where
    go : (b : Bool) → s.opened ≡ b → Roomy s n room places
    go false h = absurd (refusal_table.accepted queue_limit not_open_lem (Turns n room places) (rw (plain_closed s h) at e) 2 turns_before)
    go true h =
        let not_IsShort = refusal_table.accepted queue_limit (opened s.setup (queued s)) (Turns n room places) (rw (plain_opened s h) at e) 14 in
        (h, le_of_not_lt (λ l. not_IsShort (lists_short (lists_hold s.setup n (queued s)) l)), le_of_not_lt (λ l. not_IsShort (ends_short l)))

-- the turns that it completes
turns_completed : (s : Session) (n room places : ℕ) → s.opened ≡ true → answer_to s (Turns n room places) ≡ Ok tt
    → turns_by small_session (plain_of s) s (Turns n room places) ≡ singles_for n s
unfolding turns_by turns_if
turns_completed s n room places open-already accepted =
    ap (λ (p : Plain). turns_by small_session p s (Turns n room places)) (plain_opened s open-already)
    ∙ ap (λ (a : Answer). turns_if a (singles_for n s)) accepted

pub turn_by_turn : TurnByTurn
unfolding turns_answer answered turns_slice turns_ends answer_to
turn_by_turn s n slice ends accepted =
    let e : refused_by s (Turns n (length slice) (length ends)) ≡ None = answer_none _ (sym (answer_is s (Turns n (length slice) (length ends))) ∙ accepted) in
    let found = accepted_turns s n (length slice) (length ends) e in
    let b = by_turns n s slice found.0 found.1 in
    let first : take n (ends_from 0 (lists_for n s) ++ drop n ends) ≡ ends_from 0 (lists_for n s) =
    take_at (ends_from 0 (lists_for n s)) (drop n ends) n (count_ends 0 n s.setup (queued s)) in
    record {
      completed = b.completed;
      session = rw e b.session;
      lists = rw e b.lists;
      places = rw e (ap (λ (l : List ℕ). l ++ drop n ends) (b.places 0));
      written = lists_for n s;
      planned = lists_hold s.setup n (queued s);
      cut = rw e (ap (λ (l : List ℕ). cut_at 0 l (filled (joined (lists_for n s)) slice)) first ∙ cut_lists 0 (lists_for n s) slice);
      past_lists = rw e (filled_rest (joined (lists_for n s)) slice);
      past_ends = rw e (drop_at (ends_from 0 (lists_for n s)) (drop n ends) n (count_ends 0 n s.setup (queued s)));
      plans = ap plans_of (turns_completed s n (length slice) (length ends) found.0 accepted) ∙ b.plans;
    }
