-- What a turn answers, from what it chooses and from what the writer answers. Assumes nothing.
--     chosen-..   the writes, the queue and the plan of what is chosen
--     turn-..     the answer and the slice of a turn, by the tests that the code makes
use Rattle.std.specs.Prelude.{None, Some, Ok, Err}
use mathlib.Core.Path.{◌≡◌, refl, ap, ◌∙◌}
use Prim.Native.Nat.{ℕ, ◌+◌}
use mathlib.Core.Bool.{Bool, true, false}
use mathlib.Core.List.{List, [], ◌++◌}
use native.Mathlib.Omega.{arith}
use lib.ListN.{length, length-append}
use Rattle.requests.specs.declared.Entry.{Entry}
use Rattle.requests.specs.declared.Refusal.{Refusal}
use Rattle.requests.specs.declared.Refusal.TheVariants.{CallOrder, SliceTooShort}
use Rattle.requests.specs.Choice.{pick}
use Rattle.requests.specs.Devices.{capacity}
use Rattle.requests.specs.Refusals.{answer_for}
use Rattle.search.specs.Rows.{rows_from}
use Rattle.plans.specs.Packed.{places_from}
use Rattle.layouts.specs.declared.Settings.{Settings}
use Rattle.layouts.specs.Settings.{settings_of}
use Rattle.layouts.specs.Writes.{Write, writes, writes_for, filled}
use Rattle.layouts.specs.Slices.{too_short, write_answer, write_slice, Wrote}
use Rattle.sessions.specs.declared.Session.{Session}
use Rattle.sessions.specs.declared.Assigned.{Assigned}
use Rattle.sessions.specs.declared.TurnAnswered.{TurnAnswered}
use Rattle.sessions.specs.Turns.{taken, turned, places_of, assign, writes_of}
use Rattle.sessions.specs.Calls.{Turn}
use Rattle.sessions.specs.Sessions.{unassigned, padded, queue_limit, queued, session_of, refused_by, turn_answer, turn_of, turn_slice}
use Rattle.planner.specs.declared.Chosen.{Chosen}
use Rattle.planner.specs.Selections.{in_array, entries_at, WithinLimits, Selected, planned, plan_chosen, session_chosen}
use Rattle.planner.proofs.Assigning.{entries_length, planned_length}
use Rattle.planner.proofs.Selecting.{selected_places}
use Rattle.sessions.proofs.TableAnswers.{plain_closed, plain_opened, turn_closed, turn_short, turn_accepted_lem}

-- ---- what is chosen

-- the entries that a session's turn takes
abbrev taken_by_lem : Session → List Entry
taken_by_lem s = taken s.setup (queued s)

module _ (s : Session) {rows ts ps : List ℕ} {c : Chosen} (all : Selected s.setup s.queue (queued s) rows ts ps c) where
  -- its writes are those of the entries taken
  pub chosen_writes : (t : Settings) (n : ℕ) → n ≡ c.count → t ≡ settings_of s.setup (rows_from rows 0 n) (places_from c.code 0 (rows_from rows 0 n))
      → writes_for s.setup t ≡ writes_of s.setup (taken_by_lem s)
  unfolding writes_of writes
  chosen_writes t n m e = ap (writes_for s.setup) (e ∙ rw (m, all.rows_taken, selected_places all))

  -- the queue afterwards and the plan are theirs as well
  pub chosen_session : session_chosen s ts ps c ≡ session_of s.setup (turned s.setup (queued s))
  unfolding session_chosen turned
  chosen_session = rw (all.taken_entries, all.passed_entries)

  pub chosen_plan : plan_chosen s ts c ≡ assign (taken_by_lem s) (places_of s.setup (taken_by_lem s))
  unfolding planned
  chosen_plan = rw (all.taken_entries, selected_places all)

-- ---- the writer's answer

module _ (ws : List Write) (out after : List ℕ) where
  pub wrote_none : (x : Refusal) → Wrote ws out after (Err x) → (x ≡ SliceTooShort) × (too_short ws out ≡ true) × (after ≡ out)
  unfolding write_answer write_slice
  wrote_none x w = go (too_short ws out) w.answer w.slice
    where
      go : (b : Bool) → Err x ≡ pick b (Err SliceTooShort) (Ok (length ws)) → after ≡ pick b out (filled ws out) → (x ≡ SliceTooShort) × (b ≡ true) × (after ≡ out)
      go true a s = (cc, refl, s)
      go false a s = let z : ◌≡◌ {A = ℕ} 0 1 = cc in absurd (omega arith)

  pub wrote_all : (n : ℕ) → Wrote ws out after (Ok n) → (too_short ws out ≡ false) × (n ≡ length ws) × (after ≡ filled ws out)
  unfolding write_answer write_slice
  wrote_all n w = go (too_short ws out) w.answer w.slice
    where
      go : (b : Bool) → Ok n ≡ pick b (Err SliceTooShort) (Ok (length ws)) → after ≡ pick b out (filled ws out) → (b ≡ false) × (n ≡ length ws) × (after ≡ filled ws out)
      go true a s = let z : ◌≡◌ {A = ℕ} 0 1 = cc in absurd (omega arith)
      go false a s = (refl, cc, s)

-- ---- the turn

module _ (s : Session) (out : List ℕ) where
  refused_turn : (x : Refusal) → refused_by s (Turn (length out)) ≡ Some x → (turn_answer (Err x) s [] 0 ≡ turn_of s (length out)) × (out ≡ turn_slice s out)
  unfolding turn_of turn_slice answer_for
  refused_turn x e = (rw (e, turn_of), rw (e, turn_slice))

  pub turn_order : s.opened ≡ false → (turn_answer (Err CallOrder) s [] 0 ≡ turn_of s (length out)) × (out ≡ turn_slice s out)
  unfolding refused_by
  turn_order h = refused_turn CallOrder (rw (plain_closed s h) (turn_closed queue_limit (length out)))

  module _ (open-already : s.opened ≡ true) (after : List ℕ) where
    pub turn_refused_lem : (x : Refusal) → Wrote (writes_of s.setup (taken_by_lem s)) out after (Err x) → (turn_answer (Err x) s [] 0 ≡ turn_of s (length out)) × (after ≡ turn_slice s out)
    unfolding refused_by too_short
    turn_refused_lem x w =
        let short = wrote_none (writes_of s.setup (taken_by_lem s)) out after x w in
        let r = refused_turn SliceTooShort (rw (plain_opened s open-already) (turn_short queue_limit s.setup (queued s) (length out) short.1)) in
        rw short.0 (r.0, short.2 ∙ r.1)

    pub turn_written : (n : ℕ) → Wrote (writes_of s.setup (taken_by_lem s)) out after (Ok n)
        → (turn_answer (Ok tt) (session_of s.setup (turned s.setup (queued s))) (assign (taken_by_lem s) (places_of s.setup (taken_by_lem s))) n ≡ turn_of s (length out)) × (after ≡ turn_slice s out)
    unfolding refused_by too_short turn_of turn_slice answer_for
    turn_written n w =
        let done = wrote_all (writes_of s.setup (taken_by_lem s)) out after n w in
        let e : refused_by s (Turn (length out)) ≡ None = rw (plain_opened s open-already) (turn_accepted_lem queue_limit s.setup (queued s) (length out) done.0) in
        (rw (e, turn_of, done.1), rw (e, turn_slice) done.2)

-- ---- the answer made of what it does

-- the answer of an accepted turn, from the queue and the plan that are made
pub turn_made : (s : Session) (ts ps : List ℕ) (c : Chosen) (n : ℕ) → WithinLimits c ts ps → s.opened ≡ true
    → (queue : List Entry) → queue ≡ padded (entries_at s.queue c.rest ps ++ entries_at s.queue c.count ts)
    → (plan : List Assigned) → plan ≡ in_array capacity unassigned (plan_chosen s ts c)
    → ◌≡◌ {A = TurnAnswered} (record { answer = Ok tt; session = record { opened = s.opened; setup = s.setup; queue = queue; len = c.rest + c.count }; plan = plan; taken = c.count; writes = n })
    (turn_answer (Ok tt) (session_chosen s ts ps c) (plan_chosen s ts c) n)
unfolding turn_answer session_chosen session_of
turn_made s ts ps c n w o queue q plan p =
    let few = w.few in
    let all = w.all in
    let rest = entries_length s.queue c.rest ps (omega (arith, w.passed_size)) in
    let count = entries_length s.queue c.count ts (omega (arith, w.taken_size)) in
    rw (o, q, p, length-append, rest, count, planned_length, count)
