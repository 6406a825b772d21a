-- A machine that does what the plain queue does, whatever its states and the queue's limit. Assumes nothing.
--     Faithful                  what has to be known of one call
--     stands-after, agrees      the machine then stands for the plain queue after every list of calls, and answers as the table says there
--     turns-are, plans-are      a list of calls completes the same turns, and the machine answers at each the plan of the entries taken there
--     one-plan-each             so it answers one plan for each turn that the plain queue counts as completed
use Rattle.std.specs.Prelude.{Option, None, Some}
use mathlib.Core.Path.{◌≡◌, refl, ap, sym, subst, ◌∙◌}
use mathlib.Core.List.{List, [], ◌∷◌, map, map-append}
use Prim.Native.Nat.{ℕ, zero, suc, ◌*◌}
use native.Mathlib.Omega.{arith}
use lib.ListN.{length, length-map}
use borrow.Author.Tests.{le-ltb}
use Rattle.requests.specs.declared.Setup.{Setup}
use Rattle.requests.specs.declared.Entry.{Entry}
use Rattle.requests.specs.declared.Refusal.{Refusal}
use Rattle.requests.specs.Answers.{Answer}
use Rattle.requests.specs.Refusals.{answer_for}
use Rattle.plans.specs.Lists.{All, nil, cons}
use Rattle.plans.proofs.Sets.{all_append}
use Rattle.sessions.specs.Turns.{taken, turned, places_of, assign, writes_of}
use Rattle.sessions.specs.Calls.{Call, Open, Add, Drop, Turn, Turns, Plain, not_open_lem, opened}
use Rattle.sessions.specs.Table.{refusal}
use Rattle.sessions.specs.Plain.{on_queue, change, unless_refused, step, run}
use Rattle.sessions.specs.Agreement.{Agrees}
use Rattle.sessions.specs.declared.Assigned.{Assigned}
use Rattle.sessions.specs.Completed.{Machine, CompletedTurn, state_after, turns_if, single_turns, turns_by, turns_of, OnePlanEach}
use Rattle.sessions.proofs.Rank.{turns_in}
use Rattle.sessions.proofs.TurnsAt.{TurnAt, turns_from, turns_at, count}
use Rattle.sessions.proofs.Steps.{step_accepted}
use Rattle.sessions.proofs.TableAnswers.{turn_accepted_lem}

-- the setup and the queue where the turn is completed
abbrev pub state_of : CompletedTurn → TurnAt
state_of t = record { setup = t.setup; queue = t.queue }

-- the plan of the entries that a turn takes
abbrev pub plan_for : Setup → List Entry → List Assigned
plan_for s q = assign (taken s q) (places_of s (taken s q))

-- the plan is that of the entries taken
abbrev pub Planned : CompletedTurn → Type 0
Planned t = t.plan ≡ plan_for t.setup t.queue

-- a state that stands for a plain queue answers as the table says, each call leaves one that stands for the next, and an accepted turn answers its plan
pub record Faithful {State : Type 0} (m : Machine State) (limit : ℕ) (Stands : State → Plain → Type 0) : Type 0 where
  pub answers : (s : State) (p : Plain) → Stands s p → (c : Call) → m.answer s c ≡ answer_for (refusal limit p c)
  pub next : (s : State) (p : Plain) → Stands s p → (c : Call) → Stands (m.next s c) (step limit p c)
  pub plans : (s : State) (t : Setup) (q : List Entry) → Stands s (opened t q) → (room : ℕ) → refusal limit (opened t q) (Turn room) ≡ None → m.plan s room ≡ plan_for t q

module _ {State : Type 0} (m : Machine State) (limit : ℕ) (Stands : State → Plain → Type 0) (faithful : Faithful m limit Stands) where
  pub stands_after : (s : State) (p : Plain) → Stands s p → (cs : List Call) → Stands (state_after m s cs) (run limit p cs)
  unfolding run
  stands_after s p w [] = w
  stands_after s p w (c ∷ cs) = stands_after (m.next s c) (step limit p c) (faithful.next s p w c) cs

  pub agrees : (plain_in : State → Plain) → ((s : State) (p : Plain) → Stands s p → plain_in s ≡ p) → (s : State) (p : Plain) → Stands s p → Agrees m plain_in limit p s
  agrees plain_in stands s p w =
      record {
        stands = λ calls. stands (state_after m s calls) (run limit p calls) (stands_after s p w calls);
        answers = λ calls c. faithful.answers (state_after m s calls) (run limit p calls) (stands_after s p w calls) c;
      }

  -- ---- the turns of a call, where it is accepted

  module _ (s : State) (p : Plain) (w : Stands s p) (c : Call) (ts : List CompletedTurn) where
    turns_if_lem : map state_of (turns_if (m.answer s c) ts) ≡ unless_refused (refusal limit p c) [] (map state_of ts)
    unfolding answer_for turns_if
    turns_if_lem = ap (λ (a : Answer). map state_of (turns_if a ts)) (faithful.answers s p w c) ∙ go (refusal limit p c)
      where
        go : (x : Option Refusal) → map state_of (turns_if (answer_for x) ts) ≡ unless_refused x [] (map state_of ts)
        go None = refl
        go (Some x) = refl

    planned_if : (refusal limit p c ≡ None → All Planned ts) → All Planned (turns_if (m.answer s c) ts)
    unfolding answer_for turns_if
    planned_if planned = subst (λ (a : Answer). All Planned (turns_if a ts)) (sym (faithful.answers s p w c)) (go (refusal limit p c) refl)
      where
        go : (x : Option Refusal) → refusal limit p c ≡ x → All Planned (turns_if (answer_for x) ts)
        go None h = planned h
        go (Some x) h = nil

  -- ---- n single turns

  -- the numbers of a turn's list
  abbrev enough : Setup → List Entry → ℕ
  enough t q = 2 * length (writes_of t (taken t q))

  goes : (t : Setup) (q : List Entry) → refusal limit (opened t q) (Turn (enough t q)) ≡ None
  goes t q = turn_accepted_lem limit t q (enough t q) (le-ltb (enough t q) (enough t q) (omega arith))

  -- a slice that is just long enough is taken
  next_stands : (s : State) (t : Setup) (q : List Entry) → Stands s (opened t q) → Stands (m.next s (Turn (enough t q))) (opened t (turned t q))
  unfolding change on_queue
  next_stands s t q w =
      subst (Stands (m.next s (Turn (enough t q)))) (step_accepted limit (opened t q) (Turn (enough t q)) (goes t q)) (faithful.next s (opened t q) w (Turn (enough t q)))

  singles_are : (n : ℕ) (t : Setup) (q : List Entry) (s : State) → map state_of (single_turns m n t q s) ≡ turns_from n t q
  unfolding single_turns turns_from
  singles_are zero t q s = refl
  singles_are (suc n) t q s = ap (λ (l : List TurnAt). record { setup = t; queue = q } ∷ l) (singles_are n t (turned t q) (m.next s (Turn (enough t q))))

  singles_planned : (n : ℕ) (t : Setup) (q : List Entry) (s : State) → Stands s (opened t q) → All Planned (single_turns m n t q s)
  unfolding single_turns
  singles_planned zero t q s w = nil
  singles_planned (suc n) t q s w =
      cons (faithful.plans s t q w (enough t q) (goes t q)) (singles_planned n t (turned t q) (m.next s (Turn (enough t q))) (next_stands s t q w))

  -- ---- one call, and any list of calls

  call_is : (s : State) (p : Plain) → Stands s p → (c : Call) → map state_of (turns_by m p s c) ≡ turns_at limit p c
  unfolding turns_by turns_at turns_from
  call_is s p w (Open o) = refl
  call_is s p w (Add id r) = refl
  call_is s p w (Drop id) = refl
  call_is s not_open_lem w (Turn room) = refl
  call_is s (opened t q) w (Turn room) = turns_if_lem s (opened t q) w (Turn room) (record { setup = t; queue = q; plan = m.plan s room } ∷ [])
  call_is s not_open_lem w (Turns n room places) = refl
  call_is s (opened t q) w (Turns n room places) =
      turns_if_lem s (opened t q) w (Turns n room places) (single_turns m n t q s)
      ∙ ap (λ (l : List TurnAt). unless_refused (refusal limit (opened t q) (Turns n room places)) [] l) (singles_are n t q s)

  call_planned : (s : State) (p : Plain) → Stands s p → (c : Call) → All Planned (turns_by m p s c)
  unfolding turns_by
  call_planned s p w (Open o) = nil
  call_planned s p w (Add id r) = nil
  call_planned s p w (Drop id) = nil
  call_planned s not_open_lem w (Turn room) = nil
  call_planned s (opened t q) w (Turn room) =
      planned_if s (opened t q) w (Turn room) (record { setup = t; queue = q; plan = m.plan s room } ∷ []) (λ h. cons (faithful.plans s t q w room h) nil)
  call_planned s not_open_lem w (Turns n room places) = nil
  call_planned s (opened t q) w (Turns n room places) =
      planned_if s (opened t q) w (Turns n room places) (single_turns m n t q s) (λ h. singles_planned n t q s w)

  pub turns_are : (s : State) (p : Plain) → Stands s p → (cs : List Call) → map state_of (turns_of m limit p s cs) ≡ turns_in (step limit) (turns_at limit) p cs
  unfolding turns_of turns_in
  turns_are s p w [] = refl
  turns_are s p w (c ∷ cs) =
      map-append state_of (turns_by m p s c) (turns_of m limit (step limit p c) (m.next s c) cs)
      ∙ rw (call_is s p w c, turns_are (m.next s c) (step limit p c) (faithful.next s p w c) cs)

  pub plans_are : (s : State) (p : Plain) → Stands s p → (cs : List Call) → All Planned (turns_of m limit p s cs)
  unfolding turns_of
  plans_are s p w [] = nil
  plans_are s p w (c ∷ cs) = all_append (call_planned s p w c) (plans_are (m.next s c) (step limit p c) (faithful.next s p w c) cs)

  pub one_plan_each : (s : State) (p : Plain) → Stands s p → OnePlanEach m limit p s
  one_plan_each s p w before after =
      let now : State = state_after m s before in
      let there : Plain = run limit p before in
      sym (length-map (turns_of m limit there now after) state_of) ∙ ap length (turns_are now there (stands_after s p w before) after) ∙ count limit there after
