-- Demand 3 and order 14's promise of lines: those of the calls that they make, each call found at its line, and what the lines' replies say. Assumes
-- nothing.
--     turn-found            a completed turn in its place among the calls
--     dropped-by, taken-by  the lines that drop and take
use Rattle.std.specs.Prelude.{Option, None, Some, Ok, Err}
use mathlib.Core.Path.{◌≡◌, refl, ap, subst, ◌∙◌}
use mathlib.Core.Logic.{◌≢◌, ◌⊎◌, inl, inr}
use mathlib.Core.Bool.{false}
use mathlib.Core.List.Memᴰ
use mathlib.Core.List.{List, [], ◌∷◌, ◌++◌, append_assoc, append-nil, Memᴰ}
use Prim.Native.Nat.{ℕ, zero, suc, ◌+◌, ◌≤◌}
use native.Mathlib.Omega.{arith}
use lib.ListN.{length, take}
use Rattle.requests.specs.declared.Setup.{Setup}
use Rattle.requests.specs.declared.Entry.{Entry}
use Rattle.requests.specs.declared.Refusal.{Refusal}
use Rattle.requests.specs.Refusals.{answer_for}
use Rattle.plans.specs.Lists.{All, nil, cons}
use Rattle.plans.specs.Places.{counters_of}
use Rattle.plans.specs.Legal.{counters}
use Rattle.layouts.specs.Writes.{writes}
use Rattle.sessions.specs.declared.Session.{Session}
use Rattle.sessions.specs.Turns.{requests_of, taken, assign}
use Rattle.sessions.specs.Calls.{Call, Plain, not_open_lem, opened}
use Rattle.sessions.specs.Calls as calls
use Rattle.sessions.specs.Table.{refusal}
use Rattle.sessions.specs.Plain.{turns_asked, unless_refused, step, run, completes, completed}
use Rattle.sessions.specs.Sessions.{queue_limit, plain_of, refused_by, turn_of, plan_of, answer_to, next_session, session_after, queue_after}
use Rattle.sessions.specs.Completed.{small_session, CompletedTurn, turns_if, turns_by, turns_of}
use Rattle.sessions.specs.DistinctIds.{Distinct}
use Rattle.sessions.specs.Demand3.{InOneOf, Dropped}
use Rattle.sessions.specs.ShorterPromise.{rounds}
use Rattle.sessions.proofs.Lists.{all_joined}
use Rattle.sessions.proofs.Agreed.{answer_is, next_is}
use Rattle.sessions.proofs.SmallSession.{agreement}
use Rattle.sessions.proofs.Given.{taken_distinct}
use Rattle.sessions.proofs.TableAnswers.{turn_closed}
use Rattle.sessions.proofs.SoundKept.{well_formed_lem}
use Rattle.sessions.proofs.Demand3.{demand3}
use Rattle.sessions.proofs.ShorterPromise.{shorter_promise}
use Rattle.grammar.specs.Records.{Fits}
use Rattle.grammar.specs.declared.Record.{Record}
use Rattle.grammar.specs.declared.Record.TheVariants.{Open, Add, Drop, Turn}
use Rattle.names.specs.Lists.{NameLists}
use Rattle.answers.specs.Reader.{Said, Answers}
use Rattle.answers.specs.LinesAreCalls.{call_of, takes_of, sets_of}
use Rattle.answers.specs.LineLists.{calls_by, calls_after}
use Rattle.answers.specs.Demand3OfLines.{DroppedBy, TakenBy, Demand3OfLines}
use Rattle.answers.specs.ShorterPromiseOfLines.{ShorterPromiseOfLines}
use Rattle.answers.proofs.LineLists.{LineOf, line_of, calls_append, run_append, CallFits, calls_fit}
use Rattle.answers.proofs.LinesSay.{lines_say_lem}
use Rattle.answers.proofs.GivenTo.{given_append, given_end, Placed, placed}

-- ---- a completed turn in its place among the calls

-- what one call of a line completes: no turn, or one, of an open queue
data Completing (p : Plain) (s : Session) (c : Call) : Type 0 where
  nothing : turns_by small_session p s c ≡ [] → completes queue_limit p c ≡ 0 → Completing p s c
  one : (room : ℕ) (t : CompletedTurn) → c ≡ calls.Turn room → p ≡ opened t.setup t.queue → turns_by small_session p s c ≡ t ∷ [] → completes queue_limit p c ≡ 1
      → Completing p s c

completing_turn : (x : Setup) (q : List Entry) (s : Session) (room : ℕ) → plain_of s ≡ opened x q → Completing (opened x q) s (calls.Turn room)
unfolding turns_by completes turns_asked turns_if answer_to refused_by answer_for
completing_turn x q s room same = go (refusal queue_limit (opened x q) (calls.Turn room)) refl
  where
    go : (y : Option Refusal) → refusal queue_limit (opened x q) (calls.Turn room) ≡ y → Completing (opened x q) s (calls.Turn room)
    go None e =
        let accepted : (turn_of s room).answer ≡ (Ok tt) = answer_is s (calls.Turn room) ∙ rw (same, e) in
        one room (record { setup = x; queue = q; plan = plan_of (turn_of s room) }) refl refl (rw accepted) (rw e)
    go (Some y) e =
        let rejected : (turn_of s room).answer ≡ Err y = answer_is s (calls.Turn room) ∙ rw (same, e) in
        nothing (rw rejected) (rw e)

-- a call that asks for no turn completes none
no_turns : (x : Option Refusal) → ◌≡◌ {A = ℕ} (unless_refused x 0 0) 0
no_turns None = refl
no_turns (Some x) = refl

completing : (p : Plain) (s : Session) (c : Call) → CallFits c → plain_of s ≡ p → Completing p s c
unfolding turns_by completes turns_asked
completing p s (calls.Open o) f same = nothing refl (no_turns (refusal queue_limit p (calls.Open o)))
completing p s (calls.Add id r) f same = nothing refl (no_turns (refusal queue_limit p (calls.Add id r)))
completing p s (calls.Drop id) f same = nothing refl (no_turns (refusal queue_limit p (calls.Drop id)))
completing not_open_lem s (calls.Turn room) f same = nothing refl (rw (turn_closed queue_limit room))
completing (opened x q) s (calls.Turn room) f same = completing_turn x q s room same
completing p s (calls.Turns n room places) f same = absurd f

-- the turn t among calls, after at most n others, where the plain queue has its setup and its queue
record Found (p : Plain) (cs : List Call) (n : ℕ) (t : CompletedTurn) : Type 0 where
  since : List Call
  room : ℕ
  rest : List Call
  split : cs ≡ since ++ calls.Turn room ∷ rest
  early : completed queue_limit p since ≤ n
  there : run queue_limit p since ≡ opened t.setup t.queue

-- with a call in front
found_later : (p : Plain) (c : Call) (cs : List Call) (n m : ℕ) (t : CompletedTurn) → completes queue_limit p c + n ≤ m → Found (step queue_limit p c) cs n t → Found p (c ∷ cs) m t
unfolding completed run
found_later p c cs n m t more f =
    record {
      since = c ∷ f.since;
      room = f.room;
      rest = f.rest;
      split = ap (λ (x : List Call). c ∷ x) f.split;
      early = omega (arith, f.early);
      there = f.there;
    }

turn_found : (cs : List Call) → All CallFits cs → (p : Plain) (s : Session) → plain_of s ≡ p → (n : ℕ) (t : CompletedTurn) → Memᴰ t (take (suc n) (turns_of small_session queue_limit p s cs)) → Found p cs n t
unfolding turns_of completed run
turn_found [] nil p s same n t m = absurd (Memᴰ.not-nil m)
turn_found (c ∷ cs) (cons f fs) p s same n t m =
    go (completing p s c f same) m (turn_found cs fs (step queue_limit p c) (next_session s c) (next_is s c ∙ ap (λ (x : Plain). step queue_limit x c) same))
  where
    rest : List CompletedTurn
    rest = turns_of small_session queue_limit (step queue_limit p c) (next_session s c) cs

    -- a later turn than the first
    later : completes queue_limit p c ≡ 1 → (k : ℕ) → Memᴰ t (take k rest)
        → ((j : ℕ) (u : CompletedTurn) → Memᴰ u (take (suc j) rest) → Found (step queue_limit p c) cs j u) → Found p (c ∷ cs) k t
    later count zero l below = absurd (Memᴰ.not-nil l)
    later count (suc k) l below = found_later p c cs k (suc k) t (omega arith) (below k t l)

    -- the first turn, or a later one
    either_turn : (room : ℕ) (u : CompletedTurn) → c ≡ calls.Turn room → p ≡ opened u.setup u.queue → completes queue_limit p c ≡ 1 → (t ≡ u) ⊎ Memᴰ t (take n rest)
        → ((j : ℕ) (v : CompletedTurn) → Memᴰ v (take (suc j) rest) → Found (step queue_limit p c) cs j v) → Found p (c ∷ cs) n t
    either_turn room u is at count (inl k) below =
        record { since = []; room = room; rest = cs; split = ap (λ (x : Call). x ∷ cs) is; early = omega arith; there = rw k at }
    either_turn room u is at count (inr l) below = later count n l below

    go : Completing p s c → Memᴰ t (take (suc n) (turns_by small_session p s c ++ rest))
        → ((j : ℕ) (u : CompletedTurn) → Memᴰ u (take (suc j) rest) → Found (step queue_limit p c) cs j u) → Found p (c ∷ cs) n t
    go (nothing empty count) l below = found_later p c cs n n t (omega arith) (below n t (rw empty at l))
    go (one room u is at turns count) l below = either_turn room u is at count (Memᴰ.cases_cons (rw turns at l)) below

-- ---- the records of calls

drop_only : (r : Record) (id : ℕ) → call_of r ≡ calls.Drop id → r ≡ Drop id
unfolding call_of
drop_only (Open given) id e = let z : ◌≡◌ {A = ℕ} 0 1 = cc in absurd (omega arith)
drop_only (Add i r) id e = let z : ◌≡◌ {A = ℕ} 0 1 = cc in absurd (omega arith)
drop_only (Drop i) id e = let is : i ≡ id = cc in ap Drop is
drop_only Turn id e = let z : ◌≡◌ {A = ℕ} 0 1 = cc in absurd (omega arith)

turn_only : (r : Record) (room : ℕ) → call_of r ≡ calls.Turn room → r ≡ Turn
unfolding call_of
turn_only (Open given) room e = let z : ◌≡◌ {A = ℕ} 0 1 = cc in absurd (omega arith)
turn_only (Add i r) room e = let z : ◌≡◌ {A = ℕ} 0 1 = cc in absurd (omega arith)
turn_only (Drop i) room e = let z : ◌≡◌ {A = ℕ} 0 1 = cc in absurd (omega arith)
turn_only Turn room e = refl

-- ---- the lines

module _ (n : NameLists) (start : Session) (closed : start.opened ≡ false) (before after : List (List ℕ)) (p : ℕ) (e : Entry) where
  -- the plain queue between them
  from : Plain
  from = queue_after (calls_by n before)

  -- the plain queue after more lines
  queue_since : (since : List (List ℕ)) (cs : List Call) → calls_after n before since ≡ cs → queue_after (calls_by n (before ++ since)) ≡ run queue_limit from cs
  unfolding from
  queue_since since cs is = rw (calls_append n not_open_lem before since, is) (run_append queue_limit not_open_lem (calls_by n before) cs)

  dropped_by : Dropped queue_limit from (calls_after n before after) p e → DroppedBy n start before after p e
  unfolding from call_of
  dropped_by d =
      let l : LineOf n from after d.since (calls.Drop e.id) = line_of n from after d.since (calls.Drop e.id) d.rest tt d.split in
      let is : l.asked ≡ Drop e.id = drop_only l.asked e.id l.is in
      let other : Drop e.id ≢ Turn = λ n. let z : ◌≡◌ {A = ℕ} 0 1 = cc in omega arith in
      record {
        since = l.since;
        rest = l.rest;
        split = l.split ∙ rw is;
        answered = (lines_say_lem n start closed (before ++ l.since)).accepted (Drop e.id) (subst Fits is l.fits_fields) other
            (rw (queue_since l.since d.since l.made) d.accepted);
        early = rw l.made d.early;
        first = rw l.made d.first;
      }

  taken_by : InOneOf (take (suc p) (turns_of small_session queue_limit from (session_after start (calls_by n before)) (calls_after n before after))) e → TakenBy n start before after p e
  unfolding from counters session_after
  taken_by o =
      let t : CompletedTurn = o.turn in
      let f : Found from (calls_after n before after) p t =
      turn_found (calls_after n before after) (calls_fit n from after) from (session_after start (calls_by n before)) ((agreement start closed).stands (calls_by n before)) p t o.member in
      let l : LineOf n from after f.since (calls.Turn f.room) = line_of n from after f.since (calls.Turn f.room) f.rest tt f.split in
      let is : l.asked ≡ Turn = turn_only l.asked f.room l.is in
      let there : queue_after (calls_by n (before ++ l.since)) ≡ opened t.setup t.queue = queue_since l.since f.since l.made ∙ f.there in
      let told = (lines_say_lem n start closed (before ++ l.since)).turn t.setup t.queue there in
      let es : List Entry = taken t.setup t.queue in
      let plan : List Said = takes_of (assign es told.places) in
      let list : List Said = sets_of (writes t.setup (requests_of es) told.places) in
      let distinct : Distinct es = taken_distinct queue_limit t.setup t.queue (well_formed_lem queue_limit (calls_by n (before ++ l.since)) t.setup t.queue there) in
      let g : Placed es told.places e = placed es told.places e told.first.legal.allowed distinct o.in_plan.takes in
      record {
        since = l.since;
        rest = l.rest;
        split = l.split ∙ rw is;
        early = rw l.made f.early;
        setup = t.setup;
        queue = t.queue;
        there = there;
        told = told;
        said = plan ++ list ++ Answers None ∷ [];
        answered = told.says;
        place = g.place;
        given = rw (append_assoc plan list (Answers None ∷ []), given_append e.id plan (list ++ Answers None ∷ []), given_end e.id, append-nil) g.given;
        usable = all_joined counters_of told.places {a = g.place} told.first.legal.usable_only g.among;
        allowed = g.allowed;
      }

  -- what is promised of the calls is promised of the lines
  by_lines : Dropped queue_limit from (calls_after n before after) p e
      ⊎ InOneOf (take (suc p) (turns_of small_session queue_limit from (session_after start (calls_by n before)) (calls_after n before after))) e
      → DroppedBy n start before after p e ⊎ TakenBy n start before after p e
  by_lines (inl d) = inl (dropped_by d)
  by_lines (inr o) = inr (taken_by o)

pub demand3_of_lines : Demand3OfLines
unfolding from session_after
demand3_of_lines n start closed before after ahead behind e waits enough =
    by_lines n start closed before after (length ahead) e (demand3 start closed (calls_by n before) (calls_after n before after) ahead behind e waits enough)

pub shorter_promise_of_lines : ShorterPromiseOfLines
unfolding from session_after
shorter_promise_of_lines n start closed before after s ahead behind e is known enough =
    by_lines n start closed before after (rounds s ahead) e
    (shorter_promise start closed (calls_by n before) (calls_after n before after) s ahead behind e is known enough)
