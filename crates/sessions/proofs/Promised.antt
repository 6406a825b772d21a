-- The promise of a ranking to an entry that waits, of any faithful machine, whatever the queue's limit. Assumes nothing.
--     promised       what the plain queue settles, the plans that the machine answers keep
--     promised-at    so an entry of rank n has the promise of n at every place in a list of calls that starts in a sound state
use mathlib.Core.Path.{◌≡◌, refl, subst}
use mathlib.Core.Logic.{◌⊎◌, inl, inr}
use mathlib.Core.List.{List, ◌∷◌, ◌++◌, Memᴰ}
use Prim.Native.Nat.{ℕ, suc}
use lib.ListN.{take}
use Rattle.requests.specs.declared.Setup.{Setup}
use Rattle.requests.specs.declared.Entry.{Entry}
use Rattle.layouts.proofs.ListLaws.{all_member}
use Rattle.sessions.specs.Calls.{Call, Plain, opened}
use Rattle.sessions.specs.Plain.{run}
use Rattle.sessions.specs.Completed.{Machine, CompletedTurn, state_after, turns_of}
use Rattle.sessions.specs.Demand3.{InOneOf, Dropped, Promise}
use Rattle.sessions.proofs.Lists.{map_member, among}
use Rattle.sessions.proofs.SoundKept.{SoundIn, sound_run}
use Rattle.sessions.proofs.Settled.{TakenAt, Settled}
use Rattle.sessions.proofs.Waiting.{Ranking, Ahead, bound}
use Rattle.sessions.proofs.Faithful.{state_of, Planned, Faithful, stands_after, turns_are, plans_are}
use Rattle.sessions.proofs.Given.{in_plan}

module _ {State : Type 0} (m : Machine State) (limit : ℕ) (Stands : State → Plain → Type 0) (faithful : Faithful m limit Stands) where
  -- a turn that takes the entry has it in its plan
  pub promised : (e : Entry) (s : State) (p : Plain) → Stands s p → (after : List Call) (n : ℕ) → Settled limit e p after n
      → Dropped limit p after n e ⊎ InOneOf (take (suc n) (turns_of m limit p s after)) e
  promised e s p w after n (inl d) = inl d
  promised e s p w after n (inr o) =
      inr (go (map_member state_of (suc n) (turns_of m limit p s after) (rw (← turns_are m limit Stands faithful s p w after) at o.member)))
    where
      go : (t : CompletedTurn) × Memᴰ t (take (suc n) (turns_of m limit p s after)) × (o.turn ≡ state_of t) → InOneOf (take (suc n) (turns_of m limit p s after)) e
      go found =
          let t : CompletedTurn = found.0 in
          let takes : TakenAt limit e (state_of t) = subst (TakenAt limit e) found.2 o.serves in
          let planned : Planned t = all_member (plans_are m limit Stands faithful s p w after) (among (suc n) (turns_of m limit p s after) found.1) in
          record { turn = t; member = found.1; in_plan = in_plan limit t e planned takes.sound takes.member }

  module _ (e : Entry) (by : Ranking limit e) where
    here : (s : State) (p : Plain) → Stands s p → SoundIn limit p → (after : List Call) (t : Setup) (ahead behind : List Entry)
        → p ≡ opened t (ahead ++ e ∷ behind) → by.Known t ahead → Promise m limit p s after (by.rank t ahead) e
    here s p w sound after t ahead behind is known enough =
        let waits : Ahead limit e by p (by.rank t ahead) =
        record { setup = t; ahead = ahead; behind = behind; is = is; sound = subst (SoundIn limit) is sound; known = known; ranked = refl } in
        promised e s p w after (by.rank t ahead) (bound limit e by after p (by.rank t ahead) waits enough)

    -- calls keep a sound state sound
    pub promised_at : (s : State) (p : Plain) → Stands s p → SoundIn limit p → (before after : List Call) (t : Setup) (ahead behind : List Entry)
        → run limit p before ≡ opened t (ahead ++ e ∷ behind) → by.Known t ahead
        → Promise m limit (run limit p before) (state_after m s before) after (by.rank t ahead) e
    promised_at s p w sound before after =
        here (state_after m s before) (run limit p before) (stands_after m limit Stands faithful s p w before) (sound_run limit p before sound) after
