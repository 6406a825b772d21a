-- The number of an id's drops, call by call. Assumes nothing.
use Rattle.std.specs.Prelude.{Option, None, Some}
use mathlib.Core.Path.{◌≡◌, refl, ap, sym, subst}
use mathlib.Core.Bool.{Bool, true, false}
use mathlib.Core.List.{List, [], ◌∷◌, ◌++◌}
use Prim.Native.Nat.{ℕ}
use native.Mathlib.Omega.{arith}
use borrow.Author.Tests.{eq-eqb, eqb-true}
use lib.Dec.{eqb}
use Rattle.requests.specs.Choice.{pick}
use Rattle.requests.specs.declared.Refusal.{Refusal}
use Rattle.sessions.specs.Calls.{Call, Open, Add, Drop, Turn, Turns, Plain}
use Rattle.sessions.specs.Table.{refusal}
use Rattle.sessions.specs.Plain.{drops_asked, unless_refused, step, run, drops_of, drops}
use Rattle.sessions.specs.DropsCounted.{DropsCounted}

none_either : (x : Option Refusal) → ◌≡◌ {A = ℕ} (unless_refused x 0 0) 0
none_either None = refl
none_either (Some x) = refl

module _ (limit id : ℕ) where
  -- an accepted drop of the id is counted once ..
  pub counted : (p : Plain) → refusal limit p (Drop id) ≡ None → drops_of limit id p (Drop id) ≡ 1
  unfolding drops_of drops_asked
  counted p h = rw (h, eq-eqb id id refl)

  -- .. and nothing else is
  not_counted : (p : Plain) (c : Call) → (c ≡ Drop id → refusal limit p c ≡ None → ⊥) → drops_of limit id p c ≡ 0
  unfolding drops_of drops_asked
  not_counted p (Open o) h = none_either (refusal limit p (Open o))
  not_counted p (Add other r) h = none_either (refusal limit p (Add other r))
  not_counted p (Drop other) h = go (eqb id other) refl (refusal limit p (Drop other)) refl
    where
      go : (b : Bool) → eqb id other ≡ b → (x : Option Refusal) → refusal limit p (Drop other) ≡ x → ◌≡◌ {A = ℕ} (unless_refused x 0 (pick b 1 0)) 0
      go true e None k = absurd (h (ap Drop (sym (eqb-true id other e))) k)
      go true e (Some x) k = refl
      go false e None k = refl
      go false e (Some x) k = refl
  not_counted p (Turn room) h = none_either (refusal limit p (Turn room))
  not_counted p (Turns n room places) h = none_either (refusal limit p (Turns n room places))

  none_accepted : (p : Plain) (since rest : List Call) → drops limit id p (since ++ Drop id ∷ rest) ≡ 0 → refusal limit (run limit p since) (Drop id) ≡ None → ⊥
  unfolding run drops
  none_accepted p [] rest z h = omega (arith, z, counted p h)
  none_accepted p (c ∷ since) rest z h = none_accepted (step limit p c) since rest (omega (arith, z)) h

  none_counted : (p : Plain) (calls : List Call) → ((since rest : List Call) → calls ≡ since ++ Drop id ∷ rest → refusal limit (run limit p since) (Drop id) ≡ None → ⊥)
      → drops limit id p calls ≡ 0
  unfolding run drops
  none_counted p [] h = refl
  none_counted p (c ∷ cs) h =
      let here : drops_of limit id p c ≡ 0 =
      not_counted p c (λ e k. h [] cs (ap (λ (x : Call). x ∷ cs) e) (subst (λ (x : Call). refusal limit p x ≡ None) e k)) in
      let later : drops limit id (step limit p c) cs ≡ 0 = none_counted (step limit p c) cs (λ since rest e. h (c ∷ since) rest (ap (λ (l : List Call). c ∷ l) e)) in
      omega (arith, here, later)

pub drops_counted : DropsCounted
drops_counted limit id p calls = (
  λ z since rest e. none_accepted limit id p since rest (subst (λ (l : List Call). drops limit id p l ≡ 0) e z),
  none_counted limit id p calls,
)
