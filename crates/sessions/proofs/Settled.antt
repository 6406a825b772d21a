-- An entry that waits on the plain queue with any rank, whatever the queue's limit, is settled in time. Assumes nothing.
--     dropped-at    a drop in its place among the calls
--     settled       an entry of rank n is dropped, or taken by one of the first n + 1 completed turns
use Rattle.std.specs.Prelude.{None}
use mathlib.Core.Path.{◌≡◌, refl, ap}
use mathlib.Core.Logic.{◌⊎◌, inl, inr}
use mathlib.Core.List.{List, [], ◌∷◌, Memᴰ}
use Prim.Native.Nat.{ℕ, suc, ◌≤◌}
use native.Mathlib.Omega.{arith}
use lib.ListN.{take}
use Rattle.requests.specs.declared.Entry.{Entry}
use Rattle.sessions.specs.Turns.{taken}
use Rattle.sessions.specs.Calls.{Call, Drop, Plain}
use Rattle.sessions.specs.Table.{refusal}
use Rattle.sessions.specs.Plain.{step, run, completed, drops_of, drops}
use Rattle.sessions.specs.Sound.{Sound}
use Rattle.sessions.specs.Demand3.{Dropped}
use Rattle.sessions.proofs.TurnsAt.{TurnAt, turns_at, count_call, count}
use Rattle.sessions.proofs.Rank.{OneServes, turns_in, DroppedIn, now, later, Progress, within}

module _ (limit : ℕ) (e : Entry) where
  -- an accepted drop of the id
  abbrev Drops : Plain → Call → Type 0
  Drops p c = (c ≡ Drop e.id) × (refusal limit p c ≡ None)

  -- a call that does not drop it
  abbrev Keeps : Plain → Call → Type 0
  Keeps p c = drops_of limit e.id p c ≡ 0

  -- a turn that takes the entry from a sound queue
  pub record TakenAt (t : TurnAt) : Type 0 where
    pub sound : Sound limit t.setup t.queue
    pub member : Memᴰ e (taken t.setup t.queue)

  -- what one call makes of the entry that waits with a rank
  abbrev pub ProgressBy : (Plain → ℕ → Type 0) → Plain → Call → ℕ → Type 0
  ProgressBy Waits = Progress (step limit) (turns_at limit) Drops Keeps TakenAt Waits

  -- it is dropped after at most n completed turns, or one of the first n + 1 takes it
  abbrev pub Settled : Plain → List Call → ℕ → Type 0
  Settled p after n = Dropped limit p after n e ⊎ OneServes TakenAt (take (suc n) (turns_in (step limit) (turns_at limit) p after))

  dropped_at : {p : Plain} {cs : List Call} {n : ℕ} → DroppedIn (step limit) (turns_at limit) Drops Keeps p cs n → Dropped limit p cs n e
  unfolding run completed drops
  dropped_at (now {s = p} {c = c} {cs = cs} d) =
      record { since = []; rest = cs; split = ap (λ (x : Call). x ∷ cs) d.0; accepted = rw d.0 at d.1; early = omega arith; first = refl }
  dropped_at (later {s = p} {c = c} keeps fewer d) =
      let x = dropped_at d in
      record {
        since = c ∷ x.since;
        rest = x.rest;
        split = ap (λ (l : List Call). c ∷ l) x.split;
        accepted = x.accepted;
        early = omega (arith, x.early, count_call limit p c);
        first = omega (arith, x.first);
      }

  pub settled : (Waits : Plain → ℕ → Type 0) → ((p : Plain) (c : Call) (n : ℕ) → Waits p n → ProgressBy Waits p c n)
      → (after : List Call) (p : Plain) (n : ℕ) → Waits p n → suc n ≤ completed limit p after → Settled p after n
  settled Waits progress after p n w enough =
      go (within (step limit) (turns_at limit) Drops Keeps TakenAt Waits progress after p n w (rw (count limit p after) enough))
    where
      go : DroppedIn (step limit) (turns_at limit) Drops Keeps p after n ⊎ OneServes TakenAt (take (suc n) (turns_in (step limit) (turns_at limit) p after)) → Settled p after n
      go (inl d) = inl (dropped_at d)
      go (inr o) = inr o
