-- A field of a struct in a local, read. `look-in` with `sub` leaves the field's type computed from the struct's, and a walk writes it out at each step after; this is
-- cited under a lemma that says the type by its name, one for each field, as `reads-setup` of `lent_planner`.
-- Assumes `Given`.
use mathlib.Core.Path.{◌≡◌, sym, subst}
use mathlib.Core.Option.{some}
use mathlib.Core.List.{List}
use Prim.Native.Nat.{ℕ, zero, ◌+◌}
use seplogic.Ra.Ura.{Ura}
use mir.Syntax.{Sym, Ty, Tys, ty_struct}
use mir.Val.{Vals, vstruct}
use mir.Fields.{get_v, set_v}
use base.Fml.{Share, fat}
use prog.Memory.{field_at}
use types.Logic.{Logic}
use types.Kit.{Item, ‵, nth}
use types.Part.{Part, whole, sub, look_in}
use types.Run.{Reads}

module _ {M : Type 1} {𝓤 : Ura M} {𝓛 : Logic 𝓤} {K : Type 0} {Γ : List (Item 𝓤)} where
  -- entry n is a struct, and field k is read
  pub reads_field : K → (n : ℕ) {q : Share} {ν : Sym} {τs : Tys} {b o : ℕ} {vs : Vals} (k : ℕ) {τ : Ty} {d : ℕ} → nth 𝓛 n Γ ≡ ‵ (fat q (ty_struct ν τs) b o (vstruct vs)) → field_at zero τs k ≡ some (τ, d)
      → Reads K 𝓛 Γ τ b (o + d) (get_v vs k)
  reads_field t n {q} {ν} {τs} {b} {o} {vs} k {τ} {d} e f =
      look_in t n {back = λ u. ‵ (fat q (ty_struct ν τs) b o (vstruct (set_v vs k u)))}
      (subst (λ (j : Item 𝓤). Part K 𝓛 j q τ b (o + d) (get_v vs k) (λ u. ‵ (fat q (ty_struct ν τs) b o (vstruct (set_v vs k u))))) (sym e) (sub t k f (whole t)))
