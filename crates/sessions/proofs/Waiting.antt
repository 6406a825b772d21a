-- An entry that waits on the plain queue is settled in time, by any ranking of those ahead of it, whatever the queue's limit. Assumes nothing.
--     Ranking     a number for those ahead of an entry that drops do not raise, and that a turn lowers unless it takes the entry
--     several     n turns take the entry, or each of them lowers its rank
--     progress    no call raises the rank, and every completed turn that does not take the entry lowers it
--     bound       so an entry of rank n is dropped, or taken by one of the first n + 1 turns
use Rattle.std.specs.Prelude.{Option, None, Some}
use mathlib.Core.Path.{◌≡◌, refl, ap, sym, subst, ◌∙◌}
use mathlib.Core.Logic.{◌⊎◌, inl, inr}
use mathlib.Core.List.{List, [], ◌∷◌, ◌++◌, append_assoc, append-nil, Memᴰ}
use mathlib.Core.Bool.{Bool, true, false}
use Prim.Native.Nat.{ℕ, zero, suc, ◌+◌, ◌≤◌}
use native.Mathlib.Omega.{arith}
use lib.Dec.{eqb}
use lib.ListN.{length, take}
use borrow.Author.Tests.{eqb-true, eqb-false, ne_eqb}
use Rattle.requests.specs.declared.Setup.{Setup}
use Rattle.requests.specs.declared.Entry.{Entry}
use Rattle.requests.specs.declared.Refusal.{Refusal}
use Rattle.sessions.specs.Turns.{taken, passed, turned, turned_times}
use Rattle.sessions.specs.Calls.{Call, Open, Add, Drop, Turn, Turns, Plain, opened}
use Rattle.sessions.specs.Table.{refusal}
use Rattle.sessions.specs.Plain.{removed, on_queue, change, drops_asked, step, completed, drops_of}
use Rattle.sessions.specs.RefusalTable.{second_open}
use Rattle.sessions.specs.Sound.{Sound}
use Rattle.sessions.proofs.Rows.{refusal_table}
use Rattle.sessions.proofs.Steps.{step_accepted, step_refused, drops_refused, drops_other}
use Rattle.sessions.proofs.Removed.{removed_around}
use Rattle.sessions.proofs.SoundKept.{sound_turned, sound_step}
use Rattle.sessions.proofs.Advance.{taken_or_kept}
use Rattle.sessions.proofs.TurnsAt.{turns_from, count_from, turns_at, turns_refused, turn_accepted_lem, turns_accepted}
use Rattle.sessions.proofs.Rank.{OneServes, among_left, dropped, served, stays}
use Rattle.sessions.proofs.Settled.{TakenAt, ProgressBy, Settled, settled}

-- a rank of the entry e by those ahead of it, given what is known of them; both are kept by a drop and by a turn that does not take e
pub record Ranking (limit : ℕ) (e : Entry) : Type 1 where
  pub Known : Setup → List Entry → Type 0
  pub rank : Setup → List Entry → ℕ
  pub drops : (s : Setup) (ahead : List Entry) (id : ℕ) → Known s ahead → Known s (removed id ahead) × (rank s (removed id ahead) ≤ rank s ahead)
  pub turns : (s : Setup) (ahead behind : List Entry) → Sound limit s (ahead ++ e ∷ behind) → Known s ahead
      → Memᴰ e (taken s (ahead ++ e ∷ behind)) ⊎ (Known s (passed s ahead) × (suc (rank s (passed s ahead)) ≤ rank s ahead))

module _ (limit : ℕ) (e : Entry) (by : Ranking limit e) where
  -- the entry waits in a sound queue with this rank
  pub record Ahead (p : Plain) (n : ℕ) : Type 0 where
    pub setup : Setup
    pub ahead : List Entry
    pub behind : List Entry
    pub is : p ≡ opened setup (ahead ++ e ∷ behind)
    pub sound : Sound limit setup (ahead ++ e ∷ behind)
    pub known : by.Known setup ahead
    pub ranked : by.rank setup ahead ≡ n

  -- the entry waits on in the queue that n turns leave
  record Later (s : Setup) (ahead behind : List Entry) (n : ℕ) : Type 0 where
    pub nearer : List Entry
    pub further : List Entry
    pub next : turned_times s n (ahead ++ e ∷ behind) ≡ nearer ++ e ∷ further
    pub known : by.Known s nearer
    pub lower : n + by.rank s nearer ≤ by.rank s ahead

  -- n turns: one of the first takes the entry, or it waits on, with a rank lower by each of them
  abbrev Several : Setup → ℕ → List Entry → List Entry → Type 0
  Several s n ahead behind = OneServes (TakenAt limit e) (take (suc (by.rank s ahead)) (turns_from n s (ahead ++ e ∷ behind))) ⊎ Later s ahead behind n

  several : (s : Setup) (n : ℕ) (ahead behind : List Entry) → Sound limit s (ahead ++ e ∷ behind) → by.Known s ahead → Several s n ahead behind
  unfolding turns_from turned_times
  several s zero ahead behind sound known = inr (record { nearer = ahead; further = behind; next = refl; known = known; lower = omega arith })
  several s (suc n) ahead behind sound known = go (taken_or_kept s ahead e behind) (by.turns s ahead behind sound known) (several s n (passed s ahead))
    where
      takes : Memᴰ e (taken s (ahead ++ e ∷ behind)) → Several s (suc n) ahead behind
      takes m = inl (record { turn = record { setup = s; queue = ahead ++ e ∷ behind }; member = mathlib.Core.List.Memᴰ.head refl; serves = record { sound = sound; member = m } })

      -- what the other n turns make of it
      rest : (more : List Entry) → turned s (ahead ++ e ∷ behind) ≡ passed s ahead ++ e ∷ more → suc (by.rank s (passed s ahead)) ≤ by.rank s ahead
          → Several s n (passed s ahead) more → Several s (suc n) ahead behind
      rest more next lower (inl o) =
          let among = among_left (suc (by.rank s (passed s ahead))) (by.rank s ahead) (turns_from n s (passed s ahead ++ e ∷ more)) [] lower o.member in
          let moved : Memᴰ o.turn (take (by.rank s ahead) (turns_from n s (turned s (ahead ++ e ∷ behind)))) = rw next (rw append-nil at among) in
          inl (record { turn = o.turn; member = mathlib.Core.List.Memᴰ.tail moved; serves = o.serves })
      rest more next lower (inr l) =
          inr (record { nearer = l.nearer; further = l.further; next = ap (turned_times s n) next ∙ l.next; known = l.known; lower = omega (arith, l.lower) })

      go : Memᴰ e (taken s (ahead ++ e ∷ behind)) ⊎ ((more : List Entry) × (turned s (ahead ++ e ∷ behind) ≡ passed s ahead ++ e ∷ more))
          → Memᴰ e (taken s (ahead ++ e ∷ behind)) ⊎ (by.Known s (passed s ahead) × (suc (by.rank s (passed s ahead)) ≤ by.rank s ahead))
          → ((more : List Entry) → Sound limit s (passed s ahead ++ e ∷ more) → by.Known s (passed s ahead) → Several s n (passed s ahead) more)
          → Several s (suc n) ahead behind
      go (inl m) nearer below = takes m
      go (inr kept) (inl m) below = takes m
      go (inr kept) (inr nearer) below =
          rest kept.0 kept.1 nearer.1 (below kept.0 (subst (Sound limit s) kept.1 (sound_turned limit s (ahead ++ e ∷ behind) sound)) nearer.0)

  module _ (s : Setup) (ahead behind : List Entry) (sound : Sound limit s (ahead ++ e ∷ behind)) (known : by.Known s ahead) where
    abbrev here : Plain
    here = opened s (ahead ++ e ∷ behind)

    abbrev Progressed : Call → Type 0
    Progressed c = ProgressBy limit e Ahead here c (by.rank s ahead)

    -- the entry waits on, with those of `nearer` before it
    still : (c : Call) (nearer later : List Entry) → step limit here c ≡ opened s (nearer ++ e ∷ later) → by.Known s nearer
        → length (turns_at limit here c) + by.rank s nearer ≤ by.rank s ahead → drops_of limit e.id here c ≡ 0 → Progressed c
    still c nearer later next knows lower keeps =
        stays (by.rank s nearer) keeps
        (record { setup = s; ahead = nearer; behind = later; is = next; sound = rw next at (sound_step limit here c sound); known = knows; ranked = refl })
        lower

    -- n turns of a call
    by_turns : (c : Call) (n : ℕ) → step limit here c ≡ opened s (turned_times s n (ahead ++ e ∷ behind)) → turns_at limit here c ≡ turns_from n s (ahead ++ e ∷ behind)
        → drops_of limit e.id here c ≡ 0 → Progressed c
    by_turns c n next turns keeps = go (several s n ahead behind sound known)
      where
        go : Several s n ahead behind → Progressed c
        go (inl o) = served (rw turns o)
        go (inr l) = still c l.nearer l.further (next ∙ ap (opened s) l.next) l.known (rw (turns, count_from n s (ahead ++ e ∷ behind)) l.lower) keeps

    accepted : (c : Call) → refusal limit here c ≡ None → Progressed c
    unfolding change on_queue turns_at drops_asked turned_times
    accepted (Open o) h = absurd (refusal_table.accepted limit here (Open o) h 2 second_open)
    accepted (Add id r) h =
        still (Add id r) ahead (behind ++ record { id = id; request = r } ∷ [])
        (step_accepted limit here (Add id r) h ∙ ap (opened s) (append_assoc ahead (e ∷ behind) (record { id = id; request = r } ∷ [])))
        known
        (omega arith)
        (drops_other limit e.id here (Add id r) refl h)
    accepted (Drop id) h = go (eqb id e.id) refl
      where
        go : (b : Bool) → eqb id e.id ≡ b → Progressed (Drop id)
        go true k = dropped (ap Drop (eqb-true id e.id k), h)
        go false k =
            let kept = by.drops s ahead id known in
            still (Drop id) (removed id ahead) (removed id behind)
            (step_accepted limit here (Drop id) h ∙ ap (opened s) (removed_around id ahead e behind k))
            kept.0
            (omega (arith, kept.1))
            (drops_other limit e.id here (Drop id) (rw (ne_eqb e.id id (λ same. eqb-false id e.id k (sym same)))) h)
    accepted (Turn room) h =
        by_turns (Turn room) 1 (step_accepted limit here (Turn room) h) (turn_accepted_lem limit s (ahead ++ e ∷ behind) room h) (drops_other limit e.id here (Turn room) refl h)
    accepted (Turns n room places) h =
        by_turns (Turns n room places) n (step_accepted limit here (Turns n room places) h) (turns_accepted limit s (ahead ++ e ∷ behind) n room places h)
        (drops_other limit e.id here (Turns n room places) refl h)

    progress_here : (c : Call) → Progressed c
    progress_here c = go (refusal limit here c) refl
      where
        go : (x : Option Refusal) → refusal limit here c ≡ x → Progressed c
        go None h = accepted c h
        go (Some x) h = still c ahead behind (step_refused limit here c x h) known (omega (arith, turns_refused limit here c x h)) (drops_refused limit e.id here c x h)

  progress : (p : Plain) (c : Call) (n : ℕ) → Ahead p n → ProgressBy limit e Ahead p c n
  progress p c n w = rw (w.is, ← w.ranked) (progress_here w.setup w.ahead w.behind w.sound w.known c)

  pub bound : (after : List Call) (p : Plain) (n : ℕ) → Ahead p n → suc n ≤ completed limit p after → Settled limit e p after n
  bound = settled limit e Ahead progress
