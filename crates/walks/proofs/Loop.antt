-- A loop whose invariant is a state x of any type X: what the walk owns at x (At x), a fact of x (Fact x), and a number that falls (measure x).
--     looped   from a turn at each x that goes on at some y with a smaller measure, or leaves the loop: the loop, from any x
use mathlib.Core.Path.{◌≡◌, refl, subst}
use Prim.Native.Nat.{ℕ, zero, suc, ◌+◌, ◌-◌, ◌<◌, ◌≤◌}
use native.Mathlib.Omega.{arith}
use mathlib.Core.Logic.{◌⊎◌, inl, inr, ⊎_elim}
use mathlib.Core.List.{List}
use lib.WfN.{lt-wf_rel}
use seplogic.Ra.Ura.{Ura}
use mir.Syntax.{Body, loop}
use base.Logic.{SProp, ent, ex, guard, via, ex_i, ex_e, guard_i, guard_e}
use prog.Wp.{Out, Env, after_turn, Wp, Tables}
use types.Logic.{Logic}
use sound.Loop.{loop_rule}
use types.Kit.{Item, ⋆}

pub lt_or_le : (i n : ℕ) → (i < n) ⊎ (n ≤ i)
lt_or_le i zero = inr (omega arith)
lt_or_le zero (suc n) = inl (omega arith)
lt_or_le (suc i) (suc n) = ⊎_elim (λ (l : i < n). inl (omega arith)) (λ (l : n ≤ i). inr (omega arith)) (lt_or_le i n)

-- of n rows, fewer are left after row i
pub nearer : (n i : ℕ) → i < n → n - (i + 1) < n - i
nearer n i l = omega arith

module _ {M : Type 1} {𝓤 : Ura M} (𝓛 : Logic 𝓤) (𝓣 : Tables 𝓤 𝓛.H) (E : Env 𝓤 𝓛.H) (turn : Body) (Left : Out → SProp 𝓤) (X : Type 0)
    (At : X → List (Item 𝓤)) (Fact : X → Type 0) (measure : X → ℕ) where
  open 𝓛 use {H}

  abbrev Holds : ℕ → X → SProp 𝓤
  Holds t x = guard 𝓤 (Fact x × (measure x ≡ t)) (⋆ 𝓛 (At x))

  abbrev Inv : ℕ → SProp 𝓤
  Inv t = ex 𝓤 (Holds t)

  abbrev Below : ℕ → SProp 𝓤
  Below t = ex 𝓤 (λ (u : ℕ). guard 𝓤 (u < t) (Inv u))

  inv : (x : X) → Fact x → ent 𝓤 (⋆ 𝓛 (At x)) (Inv (measure x))
  inv x f = via 𝓤 (Holds (measure x) x) (guard_i 𝓤 (Fact x × (measure x ≡ measure x)) (⋆ 𝓛 (At x)) (f, refl)) (ex_i 𝓤 (Holds (measure x)) x)

  below : (t : ℕ) (x : X) → Fact x → measure x < t → ent 𝓤 (⋆ 𝓛 (At x)) (Below t)
  below t x f l = via 𝓤 (Inv (measure x)) (inv x f)
      (via 𝓤 (guard 𝓤 (measure x < t) (Inv (measure x))) (guard_i 𝓤 (measure x < t) (Inv (measure x)) l) (ex_i 𝓤 (λ (u : ℕ). guard 𝓤 (u < t) (Inv u)) (measure x)))

  pub looped : ((x : X) → Fact x → (Again : SProp 𝓤) → ((y : X) → Fact y → measure y < measure x → ent 𝓤 (⋆ 𝓛 (At y)) Again) → ent 𝓤 (⋆ 𝓛 (At x))
      (Wp 𝓤 H 𝓣.C 𝓣.Λ E turn (after_turn 𝓤 H Again Left)))
      → (x : X) → Fact x → ent 𝓤 (⋆ 𝓛 (At x)) (Wp 𝓤 H 𝓣.C 𝓣.Λ E (loop turn) Left)
  looped k x f = via 𝓤 (Inv (measure x)) (inv x f) (loop_rule 𝓤 H 𝓛.laws 𝓣 ◌<◌ lt-wf_rel.wf E turn Left Inv
      (λ t. ex_e 𝓤 (Holds t) (λ y. guard_e 𝓤 (Fact y × (measure y ≡ t)) (⋆ 𝓛 (At y))
      (λ g. k y g.0 (Below t) (λ z h l. below t z h (subst (λ (u : ℕ). measure z < u) g.1 l))))) (measure x))
