-- All locals of a function freed at once.
--     gone        what is left of each local when it may be freed: its room, and the right to free it
--     free-all    with these, the locals are freed
use Prim.Native.Nat.{ℕ, zero}
use mathlib.Core.List.{List, [], ◌∷◌, ◌++◌}
use seplogic.Ra.Ura.{Ura}
use mir.Syntax.{Ty}
use base.Fml.{froom, fdies}
use prog.Wp.{Env}
use types.Logic.{Logic}
use types.Kit.{Item, ‵, Goal, frees, Step, step, ◌$◌}
use types.Run.{free1, free0}

abbrev pub gone : {M : Type 1} {𝓤 : Ura M} → List (Ty × ℕ) → List (Item 𝓤)
gone [] = []
gone ((τ, b) ∷ E) = ‵ (froom τ b zero) ∷ ‵ (fdies τ b) ∷ gone E

module _ {M : Type 1} {𝓤 : Ura M} {𝓛 : Logic 𝓤} {K : Type 0} {Γ : List (Item 𝓤)} where
  open 𝓛 use {H}

  pub free_all : K → (E : Env 𝓤 H) {g : Goal 𝓤 H} → Step K 𝓛 Γ g (gone E ++ Γ) (frees E g)
  free_all t [] = free0 t
  free_all t ((τ, b) ∷ E) = step (λ s. free1 t $ free_all t E $ s)
