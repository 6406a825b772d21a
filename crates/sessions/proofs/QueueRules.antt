-- What each call makes of the plain queue. Assumes nothing.
use Rattle.std.specs.Prelude.{Option, None, Some}
use mathlib.Core.Path.{◌≡◌, refl, ap, sym, ◌∙◌}
use mathlib.Core.List.{List, [], ◌∷◌, ◌++◌, map}
use Prim.Native.Nat.{ℕ, ◌+◌, ◌≤◌}
use native.Mathlib.Omega.{arith}
use lib.ListN.{length}
use Rattle.requests.specs.declared.Opening.{Opening}
use Rattle.requests.specs.declared.Setup.{Setup}
use Rattle.requests.specs.declared.Entry.{Entry}
use Rattle.requests.specs.declared.Refusal.{Refusal}
use Rattle.requests.specs.Devices.{opening_of}
use Rattle.requests.proofs.Openings.{opening_is}
use Rattle.sessions.specs.Turns.{turned, turned_times}
use Rattle.sessions.specs.Calls.{Call, Open, Add, Drop, Turn, Turns, Plain, not_open_lem, opened}
use Rattle.sessions.specs.Table.{refusal}
use Rattle.sessions.specs.Plain.{on_queue, change, turns_asked, unless_refused, step, run, completes, completed}
use Rattle.sessions.specs.QueueRules.{QueueRules}
use Rattle.sessions.proofs.Removed.{removed_one}
use Rattle.sessions.proofs.Steps.{step_accepted, step_refused}
use Rattle.sessions.proofs.Accepted.{accepted_open}
use Rattle.sessions.proofs.Rows.{refusal_table}
use Rattle.sessions.specs.RefusalTable.{second_open}

module _ (limit : ℕ) where
  opens : (o : Opening) → refusal limit not_open_lem (Open o) ≡ None → (s : Setup) × (opening_of s ≡ o) × (step limit not_open_lem (Open o) ≡ opened s [])
  unfolding change
  opens o h = let t = accepted_open limit o h in (t.0, opening_is o t.0 t.1, step_accepted limit not_open_lem (Open o) h ∙ rw (t.1, change))

  -- an accepted call changes the queue alone
  changed : (s : Setup) (q : List Entry) (c : Call) → refusal limit (opened s q) c ≡ None → (later : List Entry) × (change (opened s q) c ≡ opened s later)
  unfolding change on_queue
  changed s q (Open o) h = absurd (refusal_table.accepted limit (opened s q) (Open o) h 2 second_open)
  changed s q (Add id r) h = (_, refl)
  changed s q (Drop id) h = (_, refl)
  changed s q (Turn room) h = (_, refl)
  changed s q (Turns n room places) h = (_, refl)

  stepped : (s : Setup) (q : List Entry) (c : Call) → (later : List Entry) × (step limit (opened s q) c ≡ opened s later)
  stepped s q c = go (refusal limit (opened s q) c) refl
    where
      go : (x : Option Refusal) → refusal limit (opened s q) c ≡ x → (later : List Entry) × (step limit (opened s q) c ≡ opened s later)
      go None h = let t = changed s q c h in (t.0, step_accepted limit (opened s q) c h ∙ t.1)
      go (Some x) h = (q, step_refused limit (opened s q) c x h)

  kept : (s : Setup) (q : List Entry) (calls : List Call) → (later : List Entry) × (run limit (opened s q) calls ≡ opened s later)
  unfolding run
  kept s q [] = (q, refl)
  kept s q (c ∷ cs) =
      let t = stepped s q c in
      let u = kept s t.0 cs in
      (u.0, ap (λ (p : Plain). run limit p cs) t.1 ∙ u.1)

  -- ---- n turns

  -- single turns complete at most one each
  at_most : (p : Plain) (rooms : List ℕ) → completed limit p (map Turn rooms) ≤ length rooms
  unfolding completed completes turns_asked
  at_most p [] = omega arith
  at_most p (room ∷ rooms) = go (refusal limit p (Turn room)) (at_most (step limit p (Turn room)) rooms)
    where
      go : (x : Option Refusal) → completed limit (step limit p (Turn room)) (map Turn rooms) ≤ length rooms
          → unless_refused x 0 1 + completed limit (step limit p (Turn room)) (map Turn rooms) ≤ length (room ∷ rooms)
      go None below = omega (arith, below)
      go (Some x) below = omega (arith, below)

  -- those that are all completed are accepted, and leave the queue turned as often
  all_turned : (s : Setup) (q : List Entry) (rooms : List ℕ) → completed limit (opened s q) (map Turn rooms) ≡ length rooms
      → run limit (opened s q) (map Turn rooms) ≡ opened s (turned_times s (length rooms) q)
  unfolding run completed completes turns_asked change on_queue turned_times
  all_turned s q [] all = refl
  all_turned s q (room ∷ rooms) all = go (refusal limit (opened s q) (Turn room)) refl (all_turned s (turned s q) rooms)
    where
      go : (x : Option Refusal) → refusal limit (opened s q) (Turn room) ≡ x
          → (completed limit (opened s (turned s q)) (map Turn rooms) ≡ length rooms → run limit (opened s (turned s q)) (map Turn rooms) ≡ opened s (turned_times s (length rooms) (turned s q)))
          → run limit (step limit (opened s q) (Turn room)) (map Turn rooms) ≡ opened s (turned_times s (length rooms) (turned s q))
      go None h below =
          let next : step limit (opened s q) (Turn room) ≡ opened s (turned s q) = step_accepted limit (opened s q) (Turn room) h in
          let rest : completed limit (opened s (turned s q)) (map Turn rooms) ≡ length rooms = omega (arith, rw (h, next) at all) in
          ap (λ (p : Plain). run limit p (map Turn rooms)) next ∙ below rest
      go (Some x) h below = absurd (omega (arith, rw h at all, at_most (step limit (opened s q) (Turn room)) rooms))

  pub queue_rules : QueueRules limit
  unfolding change on_queue turned
  queue_rules =
      record {
        refused = λ p c x h. step_refused limit p c x h;
        opens = opens;
        kept = kept;
        adds = λ s q id r h. step_accepted limit (opened s q) (Add id r) h;
        drops = λ s ahead behind e d h. step_accepted limit (opened s (ahead ++ e ∷ behind)) (Drop e.id) h ∙ ap (opened s) (removed_one ahead behind e d);
        turns = λ s q room h. step_accepted limit (opened s q) (Turn room) h;
        turns_at_once = λ s q rooms room places all h. step_accepted limit (opened s q) (Turns (length rooms) room places) h ∙ sym (all_turned s q rooms all);
      }
