-- Every state that calls leave is sound. Assumes nothing.
--     sound-step, sound-run    calls keep a sound state sound, whatever the queue's limit
--     well-formed              so the states that calls leave from the start are sound
--     distinct-ids             and the ids that wait are distinct
use Rattle.std.specs.Prelude.{Option, None, Some}
use mathlib.Core.Path.{◌≡◌, refl, ap, sym, subst, ◌∙◌}
use mathlib.Core.Logic.{◌≢◌}
use mathlib.Core.List.{List, [], ◌∷◌, ◌++◌, append-nil}
use mathlib.Core.Bool.{false}
use Prim.Native.Nat.{ℕ, zero, suc}
use native.Mathlib.Omega.{arith}
use lib.Dec.{eqb}
use lib.ListN.{length-append}
use borrow.Author.Tests.{eqb-false}
use Rattle.requests.specs.declared.Opening.{Opening}
use Rattle.requests.specs.declared.Setup.{Setup}
use Rattle.requests.specs.declared.Request.{Request}
use Rattle.requests.specs.declared.Entry.{Entry}
use Rattle.requests.specs.declared.Refusal.{Refusal}
use Rattle.requests.specs.Devices.{setup_of, opening_of}
use Rattle.plans.specs.Lists.{All, nil, cons, Pairwise, empty}
use Rattle.requests.proofs.Tests.{either_parts}
use Rattle.requests.proofs.Openings.{opening_is}
use Rattle.plans.proofs.Sets.{all_append}
use Rattle.sessions.specs.Turns.{fits, taken, passed, turned, turned_times}
use Rattle.sessions.specs.Calls.{Call, Open, Add, Drop, Turn, Turns, Plain, not_open_lem, opened, waiting, waits}
use Rattle.sessions.specs.Table.{refusal}
use Rattle.sessions.specs.Plain.{removed, on_queue, change, step, run}
use Rattle.sessions.specs.DistinctIds.{Distinct, DistinctIds}
use Rattle.sessions.specs.Sound.{Sound}
use Rattle.sessions.specs.WellFormed.{WellFormed}
use Rattle.sessions.proofs.Steps.{step_accepted, step_refused}
use Rattle.sessions.proofs.Accepted.{AcceptedAdd, accepted_add}
use Rattle.sessions.proofs.Lists.{pairwise_map, map_pairwise, pairwise_middle}
use Rattle.sessions.proofs.Rearranged.{all_turned, pairwise_turned, length_turned}
use Rattle.sessions.proofs.Removed.{all_removed, pairwise_removed, length_removed}

-- ---- distinct ids

-- two entries have different ids
abbrev Apart : Entry → Entry → Type 0
Apart a b = a.id ≢ b.id

apart_symmetric : (a b : Entry) → Apart a b → Apart b a
apart_symmetric a b h e = h (sym e)

-- the same of entries as of their ids
apart : (q : List Entry) → Distinct q → Pairwise Apart q
apart q d = map_pairwise (λ (e : Entry). e.id) q d

distinct : {q : List Entry} → Pairwise Apart q → Distinct q
distinct p = pairwise_map (λ (e : Entry). e.id) p

-- an id that does not wait differs from all that do
unused : (id : ℕ) (q : List Entry) → waits id q ≡ false → All (λ (e : Entry). id ≢ e.id) q
unfolding waits
unused id [] h = nil
unused id (e ∷ q) h = let t = either_parts (eqb id e.id) (waits id q) h in cons (eqb-false id e.id t.0) (unused id q t.1)

-- ---- one call

sound_opened : (limit : ℕ) (s : Setup) → setup_of (opening_of s) ≡ Some s → Sound limit s []
sound_opened limit s h = record { setup = h; within = omega arith; distinct = empty; ids = nil; formed = nil; alone = nil }

module _ (limit : ℕ) (s : Setup) (q : List Entry) (sound : Sound limit s q) where
  sound_added : (id : ℕ) (r : Request) → AcceptedAdd limit s q id r → Sound limit s (q ++ record { id = id; request = r } ∷ [])
  sound_added id r a =
      record {
        setup = sound.setup;
        within = omega (arith, a.room, length-append q (record { id = id; request = r } ∷ []));
        distinct = distinct (pairwise_middle apart_symmetric q [] (rw append-nil (unused id q a.new)) (rw append-nil (apart q sound.distinct)));
        ids = all_append sound.ids (cons a.is_id nil);
        formed = all_append sound.formed (cons a.formed nil);
        alone = all_append sound.alone (cons a.plan nil);
      }

  sound_removed : (id : ℕ) → Sound limit s (removed id q)
  sound_removed id =
      record {
        setup = sound.setup;
        within = omega (arith, sound.within, length_removed id q);
        distinct = distinct (pairwise_removed id q (apart q sound.distinct));
        ids = all_removed id q sound.ids;
        formed = all_removed id q sound.formed;
        alone = all_removed id q sound.alone;
      }

  pub sound_turned : Sound limit s (turned s q)
  unfolding turned taken passed
  sound_turned =
      record {
        setup = sound.setup;
        within = omega (arith, sound.within, length_turned (fits s) [] q);
        distinct = distinct (pairwise_turned (fits s) apart_symmetric [] q (apart q sound.distinct));
        ids = all_turned (fits s) [] q sound.ids;
        formed = all_turned (fits s) [] q sound.formed;
        alone = all_turned (fits s) [] q sound.alone;
      }

sound_times : (limit : ℕ) (s : Setup) (n : ℕ) (q : List Entry) → Sound limit s q → Sound limit s (turned_times s n q)
unfolding turned_times
sound_times limit s zero q sound = sound
sound_times limit s (suc n) q sound = sound_times limit s n (turned s q) (sound_turned limit s q sound)

-- ---- any calls

-- a state is sound once it is open
abbrev pub SoundIn : ℕ → Plain → Type 0
SoundIn limit not_open_lem = Unit {0}
SoundIn limit (opened s q) = Sound limit s q

module _ (limit : ℕ) where
  sound_opens : (p : Plain) → SoundIn limit p → (o : Opening) (x : Option Setup) → setup_of o ≡ x → SoundIn limit (elim x [ None ↦ p | Some s ↦ opened s [] ])
  sound_opens p a o None e = a
  sound_opens p a o (Some s) e = sound_opened limit s (ap setup_of (opening_is o s e) ∙ e)

  sound_queue : (p : Plain) (f : Setup → List Entry → List Entry) → ((s : Setup) (q : List Entry) → p ≡ opened s q → Sound limit s q → Sound limit s (f s q))
      → SoundIn limit p → SoundIn limit (on_queue p f)
  unfolding on_queue
  sound_queue not_open_lem f keeps a = tt
  sound_queue (opened s q) f keeps a = keeps s q refl a

  sound_change : (p : Plain) (c : Call) → refusal limit p c ≡ None → SoundIn limit p → SoundIn limit (change p c)
  unfolding change
  sound_change p (Open o) h a = sound_opens p a o (setup_of o) refl
  sound_change p (Add id r) h a = sound_queue p _ (λ s q is sound. sound_added limit s q sound id r (accepted_add limit s q id r (rw is at h))) a
  sound_change p (Drop id) h a = sound_queue p _ (λ s q is sound. sound_removed limit s q sound id) a
  sound_change p (Turn room) h a = sound_queue p _ (λ s q is sound. sound_turned limit s q sound) a
  sound_change p (Turns n room places) h a = sound_queue p _ (λ s q is sound. sound_times limit s n q sound) a

  pub sound_step : (p : Plain) (c : Call) → SoundIn limit p → SoundIn limit (step limit p c)
  sound_step p c a = go (refusal limit p c) refl
    where
      go : (x : Option Refusal) → refusal limit p c ≡ x → SoundIn limit (step limit p c)
      go None h = rw (step_accepted limit p c h) (sound_change p c h a)
      go (Some x) h = rw (step_refused limit p c x h) a

  pub sound_run : (p : Plain) (cs : List Call) → SoundIn limit p → SoundIn limit (run limit p cs)
  unfolding run
  sound_run p [] a = a
  sound_run p (c ∷ cs) a = sound_run (step limit p c) cs (sound_step p c a)

-- ---- from the start

pub well_formed_lem : WellFormed
well_formed_lem limit calls s q e = subst (SoundIn limit) e (sound_run limit not_open_lem calls tt)

pub distinct_ids : DistinctIds
unfolding waiting
distinct_ids limit calls = go (run limit not_open_lem calls) (sound_run limit not_open_lem calls tt)
  where
    go : (p : Plain) → SoundIn limit p → Distinct (waiting p)
    go not_open_lem a = empty
    go (opened s q) a = a.distinct
