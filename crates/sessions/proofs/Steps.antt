-- One call of the plain queue, accepted or refused. Assumes nothing.
use Rattle.std.specs.Prelude.{None, Some}
use mathlib.Core.Path.{◌≡◌}
use Prim.Native.Nat.{ℕ}
use Rattle.requests.specs.declared.Refusal.{Refusal}
use Rattle.sessions.specs.Calls.{Call, Plain}
use Rattle.sessions.specs.Table.{refusal}
use Rattle.sessions.specs.Plain.{change, drops_asked, step, drops_of}

module _ (limit : ℕ) where
  pub step_accepted : (p : Plain) (c : Call) → refusal limit p c ≡ None → step limit p c ≡ change p c
  unfolding step
  step_accepted p c h = rw h

  pub step_refused : (p : Plain) (c : Call) (x : Refusal) → refusal limit p c ≡ Some x → step limit p c ≡ p
  unfolding step
  step_refused p c x h = rw h

  pub drops_refused : (id : ℕ) (p : Plain) (c : Call) (x : Refusal) → refusal limit p c ≡ Some x → drops_of limit id p c ≡ 0
  unfolding drops_of
  drops_refused id p c x h = rw h

  pub drops_other : (id : ℕ) (p : Plain) (c : Call) → drops_asked id c ≡ 0 → refusal limit p c ≡ None → drops_of limit id p c ≡ 0
  unfolding drops_of
  drops_other id p c other h = rw (h, other)
