-- What a turn answers, and leaves in the arrays: refused before open, otherwise by what is parted. Assumes nothing.
use Rattle.std.specs.Prelude.{Ok}
use mathlib.Core.Path.{◌≡◌, refl, ap, sym, ◌∙◌}
use mathlib.Core.Bool.{true, false}
use mathlib.Core.List.{List, ◌++◌}
use Prim.Native.Nat.{ℕ, ◌+◌, ◌≤◌, min}
use native.Mathlib.Omega.{arith}
use lib.ListN.{length, take, drop, length-append, length-take}
use lib.Seq.{take-add, drop_at, take-append_seam, length-take-le}
use Rattle.requests.specs.Answers.{Answer}
use Rattle.requests.specs.declared.Entry.{Entry}
use Rattle.requests.specs.Devices.{capacity}
use Rattle.layouts.specs.declared.Settings.{Settings}
use Rattle.layouts.specs.Settings.{settings_of}
use Rattle.layouts.specs.Slices.{Wrote}
use Rattle.layouts.specs.Writes.{writes_for}
use Rattle.plans.specs.Packed.{places_from}
use Rattle.search.specs.Rows.{rows_from}
use Rattle.sessions.specs.declared.Assigned.{Assigned}
use Rattle.sessions.specs.declared.Session.{Session}
use Rattle.sessions.specs.declared.TurnAnswered.{TurnAnswered}
use Rattle.sessions.specs.Turns.{requests_of, taken, passed, turned, places_of, assign, writes_of}
use Rattle.sessions.specs.Sessions.{queued, turn_answer, turn_slice, plan_of}
use Rattle.sessions.proofs.TakenPlan.{taken_few}
use Rattle.planner.specs.declared.Chosen.{Chosen}
use Rattle.planner.specs.Selections.{planned}
use Rattle.planner.proofs.Turning.{turn_order, turn_written}
use Rattle.queue_rows.specs.Rows.{Sized, ClosesUp, queue_in, entries_in}
use Rattle.queue_rows.specs.Heads.{session_in, closed_turn, taken_turn, TurnsIn}
use Rattle.queue_rows.specs.Parting.{Parted}
use Rattle.queue_rows.specs.declared.Head.{Head}
use Rattle.queue_rows.proofs.Places.{queue_length}
use Rattle.queue_rows.proofs.HeadSessions.{in_after}
use Rattle.queue_rows.proofs.Calls.{queue_front, queue_count}
use Rattle.queue_rows.proofs.Parting.{taken_count, taken_entries, taken_plan, taken_writes}

-- the plan of an answer is the one that it is made of
plan_in_lem : (a : Answer) (s : Session) (plan : List Assigned) (n : ℕ) → plan_of (turn_answer a s plan n) ≡ plan
unfolding plan_of turn_answer
plan_in_lem a s plan n = take-append_seam plan _

-- two lists one after another in the first places: the second stands behind the first
stands_behind : (l p t : List Entry) (n m : ℕ) → n ≤ length l → length p ≡ n → take (n + m) l ≡ p ++ t → take m (drop n l) ≡ t
stands_behind l p t n m few size e =
    sym (drop_at (take n l) (take m (drop n l)) n (length-take-le n l few)) ∙ ap (drop n) (sym (take-add n m l) ∙ e) ∙ drop_at p t n size

module _ (h : Head) (ids rows out : List ℕ) where
  abbrev s : Session
  s = session_in h ids rows

  pub turn_closed : h.opened ≡ false → Sized ids rows
      → TurnsIn s (length out) ids rows (closed_turn h) × (out ≡ turn_slice s out)
  unfolding session_in turn_answer planned plan_of assign requests_of places_from
  turn_closed closed size =
      let t = turn_order s out closed in (
        record {
          size = size;
          answer = ap (λ (x : TurnAnswered). x.answer) t.0;
          session = ap (λ (x : TurnAnswered). x.session) t.0;
          plan = ap plan_of t.0;
          writes = ap (λ (x : TurnAnswered). x.writes) t.0;
          few = omega arith;
          inside = omega arith;
        },
        t.1,
      )

  module _ (n : ℕ) (bound : n ≡ min h.len 16) {l : List Entry} {tids trows : List ℕ} {c : Chosen} (parted : Parted h.setup (take n (queue_in ids rows)) l tids trows c)
      {after more : List ℕ} (closed : ClosesUp (take c.rest l ++ entries_in c.count tids trows) after more (c.rest + c.count)) where
    abbrev es : List Entry
    es = taken h.setup (queued s)

    abbrev ps : List Entry
    ps = passed h.setup (queued s)

    same : take n (queue_in ids rows) ≡ queued s
    same = queue_front h ids rows n bound

    done : Parted h.setup (queued s) l tids trows c
    done = rw same at parted

    all : c.rest + c.count ≡ n
    all = done.all ∙ queue_count h ids rows n bound

    counted : c.count ≡ length es
    counted = sym (taken_count done)

    -- the queue afterwards
    after_is : take (c.rest + c.count) (queue_in after more) ≡ ps ++ es
    after_is = closed.front ∙ rw (done.passed_front, taken_entries done)

    front_size : length ps ≡ c.rest
    front_size =
        let e : c.rest + c.count ≡ length ps + length es = closed.count ∙ rw (done.passed_front, taken_entries done) (length-append ps es) in
        omega (arith, e, counted)

    pub turn_opened : h.opened ≡ true → (k : ℕ) {list : List ℕ} → Wrote (writes_of h.setup es) out list (Ok k)
        → TurnsIn s (length out) after more (taken_turn h.setup n c k) × (list ≡ turn_slice s out)
    unfolding session_in turned turn_answer capacity
    turn_opened opened k {list} wrote =
        let t = turn_written s out opened list k wrote in
        let few = taken_few h.setup (queued s) in
        let room : length (ps ++ es) ≡ n = length-append ps es ∙ omega (arith, front_size, counted, all) in (
          record {
            size = closed.size;
            answer = ap (λ (x : TurnAnswered). x.answer) t.0;
            session =
                in_after true h.setup n after more (ps ++ es) refl (sym room) (rw (← all) after_is)
                ∙ ap (λ (x : TurnAnswered). x.session) t.0;
            plan =
                rw (stands_behind (queue_in after more) ps es c.rest c.count (omega (arith, queue_length after more, all, bound)) front_size after_is)
                (taken_plan done ∙ sym (plan_in_lem (Ok tt) _ (assign es (places_of h.setup es)) k) ∙ ap plan_of t.0);
            writes = ap (λ (x : TurnAnswered). x.writes) t.0;
            few = omega (arith, few, counted);
            inside = omega (arith, all, bound);
          },
          t.1,
        )

-- ---- what is parted

module _ (h : Head) (ids rows : List ℕ) (n : ℕ) (bound : n ≡ min h.len 16) {l : List Entry} {tids trows : List ℕ} {c : Chosen}
    (parted : Parted h.setup (take n (queue_in ids rows)) l tids trows c) where
  -- there is room for those taken, in a plan and behind those passed over
  pub parted_limits : (c.count ≤ 8) × (c.rest + c.count ≤ 16)
  unfolding capacity
  parted_limits =
      let few = taken_few h.setup (take n (queue_in ids rows)) in
      let size = length-take n (queue_in ids rows) in
      let all = parted.all in
      (omega (arith, few, taken_count parted), omega (arith, all, size, bound))

  -- the writes are those of the turn
  pub parted_writes : (t : Settings) → t ≡ settings_of h.setup (rows_from trows 0 (min c.count 8)) (places_from c.code 0 (rows_from trows 0 (min c.count 8)))
      → writes_for h.setup t ≡ writes_of h.setup (taken h.setup (queued (session_in h ids rows)))
  parted_writes t e =
      let few = parted_limits.0 in
      rw (← queue_front h ids rows n bound) (taken_writes parted t (min c.count 8) (omega arith) e)
