-- Calls in a walk, as steps of `Types/Kit.antt`'s calculus.
--     called-so    a callee's triple, at what it binds outside, with what is made of its `post`
--     calls-plain  a call that is handed plain data alone: what it asks is had for nothing, and its result is known by a fact
--     calls-lent   a call that is handed a `&mut [T]` which is used again: the slice is lent again for a lifetime of the call, and comes back at the callee's last list
-- Assumes `Given`.
use mathlib.Core.Path.{◌≡◌}
use Prim.Native.Nat.{ℕ}
use mathlib.Core.List.{List, [], ◌∷◌}
use lib.ListN.{length}
use seplogic.Ra.Ura.{Ura}
use base.Fraction.{full_share}
use mir.Syntax.{Callee, Lifetime, Place, Opd as Operand, Body, seq, call}
use mir.Val.{Val}
use base.Logic.{SProp, ent, sep, ex, guard, emp, id⊢, via, fst∗, comm∗, emp∗}
use base.Fml.{Lft, GName, Share, Fml, ftrue, flft}
use prog.Wp.{Env, Calls, Loops}
use types.Logic.{Logic, sem}
use sound.WpLaws.{FmC}
use types.Kit.{Item, ‵, ◌⊛◌, some, given, later, Post, runs, lands, Seq, ◌$◌, move, drop, use1, use2, use3, split, join, pick, learn, await}
use types.Run.{Opds}
use types.Tokens.{lft_new, lft_end}
use denote.RattleType.{RattleType}
use denote.Slice.{slice_val, MutSlice, Room, finally}
use denote.Steps.{nothing}
use denote.Triple.Call.{calls_from}
use denote.Triple.Statement.{Contract, Triple}
use Rattle.walks.proofs.Again.{LentAgain, lends_again, comes_back}

pub called_so : {M : Type 1} {𝓤 : Ura M} (𝓛 : Logic 𝓤) (C : Calls 𝓤 𝓛.H) → FmC 𝓤 𝓛.H 𝓛.laws C → (f : Callee) (c : Contract 𝓤) → Triple 𝓤 (C f)
    c → (x : c.Ghost) (P : SProp 𝓤) (Q : Val → SProp 𝓤)
    → ent 𝓤 P (c.pre x) → ((w : Val) → ent 𝓤 (c.post x w) (Q w)) → ent 𝓤 P (C f (c.args x) Q)
called_so {𝓤 = 𝓤} 𝓛 C fm f c met x P Q before after =
    via 𝓤 (c.pre x) before (via 𝓤 (C f (c.args x) (c.post x)) (met x)
    (via 𝓤 (sep 𝓤 (C f (c.args x) (c.post x)) (emp 𝓤))
    (via 𝓤 (sep 𝓤 (emp 𝓤) (C f (c.args x) (c.post x))) (emp∗ 𝓤 (C f (c.args x) (c.post x))) (comm∗ 𝓤 (emp 𝓤) (C f (c.args x) (c.post x))))
    (fm f (c.args x) (c.post x) Q (emp 𝓤) (λ w. via 𝓤 (c.post x w) (fst∗ 𝓤 (c.post x w) (emp 𝓤)) (after w)))))

-- what a `&κ mut [T]` owns under the name δ at the list zs, where the slice passed has n elements
abbrev pub Owned : (R : RattleType) → ℕ × ℕ → ℕ → Lifetime → Lft → GName → List R.Denot → Fml
Owned R p n ℓ κ δ zs = (MutSlice ℓ κ R).own_val (record { ref_ptr = p; ghost_name = δ; now = zs }) (slice_val p n ∷ [])

-- what a callee that is handed the slice for the lifetime ν leaves: some last list of n elements, of which it says something with its result
abbrev pub Leaves : {M : Type 1} {𝓤 : Ura M} (𝓛 : Logic 𝓤) (R : RattleType) → ℕ → (Val → List R.Denot → Type 0) → ℕ → GName → Val → SProp 𝓤
Leaves {𝓤 = 𝓤} 𝓛 R n Says ν δ w = 𝓛.H.⇛ (ex 𝓤 (λ (zs : List R.Denot). guard 𝓤 (Says w zs × (length zs ≡ n)) (sep 𝓤 (𝓛.A.lft (ν ∷ []) full_share) (sem 𝓛 (finally R δ zs)))))

module _ {M : Type 1} {𝓤 : Ura M} {𝓛 : Logic 𝓤} {K : Type 0} {Γ : List (Item 𝓤)} {E : Env 𝓤 𝓛.H} {C : Calls 𝓤 𝓛.H} {Λ : Loops 𝓤 𝓛.H}
    {p : Post 𝓤 𝓛.H} {f : Callee} {xs : List Operand} {d : Place} {rest : Body} where
  open 𝓛 use {H, A}

  pub calls_plain : K → FmC 𝓤 H 𝓛.laws C → (vs : List Val) (Says : Val → Type 0) → ent 𝓤 (emp 𝓤) (C f vs (λ w. H.⇛ (guard 𝓤 (Says w) (emp 𝓤))))
      → Opds K 𝓛 (‵ ftrue ∷ Γ) E xs vs → ((w : Val) → Says w → Seq K 𝓛 Γ (lands C Λ E d w rest p)) → Seq K 𝓛 Γ (runs C Λ E (seq (call f xs d) rest) p)
  calls_plain t fm vs Says met os k = nothing t $ calls_from t fm (‵ ftrue) vs (λ w. H.⇛ (guard 𝓤 (Says w) (emp 𝓤))) met os (λ w.
      use1 𝓛 (later (given (Says w) (‵ ftrue))) (id⊢ 𝓤 (H.⇛ (guard 𝓤 (Says w) (emp 𝓤)))) $ await t tt $ learn t (λ g. drop t $ k w g))

  pub calls_lent : K → FmC 𝓤 H 𝓛.laws C → (R : RattleType) (ℓ ℓ' : Lifetime) {κ : Lft} {q : Share} {γ : GName} (b o : ℕ) (ys : List R.Denot) → Room R (length ys) →
      (vs : List Val) (Says : Val → List R.Denot → Type 0)
      → ((ν : ℕ) (δ : GName) → ent 𝓤 (sep 𝓤 (sem 𝓛 (Owned R (b, o) (length ys) ℓ' (ν ∷ []) δ ys)) (A.lft (ν ∷ []) full_share)) (C f vs (Leaves 𝓛 R (length ys) Says ν δ)))
      → ((i j : Item 𝓤) → Opds K 𝓛 (i ∷ j ∷ Γ) E xs vs)
      → ((w : Val) (zs : List R.Denot) → Says w zs → length zs ≡ length ys → Seq K 𝓛 (‵ (Owned R (b, o) (length ys) ℓ κ γ zs) ∷ ‵ (flft κ q) ∷ Γ) (lands C Λ E d w rest p))
      → Seq K 𝓛 (‵ (Owned R (b, o) (length ys) ℓ κ γ ys) ∷ ‵ (flft κ q) ∷ Γ) (runs C Λ E (seq (call f xs d) rest) p)
  calls_lent t fm R ℓ ℓ' {κ} {q} {γ} b o ys room vs Says met os k =
      lft_new t tt (λ ν. move t (1 ∷ 2 ∷ []) $
      use2 𝓛 (later (some (λ (δ : GName). ‵ (Owned R (b, o) (length ys) ℓ' (ν ∷ []) δ ys) ⊛ ‵ (LentAgain R κ (ν ∷ []) q γ b o δ ys))))
      (lends_again R κ (ν ∷ []) q γ b o 𝓛 ℓ ℓ' ys) $ await t tt $ pick t (λ δ. split t $
      move t (0 ∷ 2 ∷ []) $ join t $ calls_from t fm (‵ (Owned R (b, o) (length ys) ℓ' (ν ∷ []) δ ys) ⊛ ‵ (flft (ν ∷ []) full_share)) vs
      (Leaves 𝓛 R (length ys) Says ν δ) (met ν δ) (os _ _) (λ w.
      use1 𝓛 (later (some (λ (zs : List R.Denot). given (Says w zs × (length zs ≡ length ys)) (‵ (flft (ν ∷ []) full_share) ⊛ ‵ (finally R δ zs)))))
      (id⊢ 𝓤 (Leaves 𝓛 R (length ys) Says ν δ w)) $ await t tt $ pick t (λ zs. learn t (λ g. split t $
      lft_end t tt $ move t (0 ∷ 2 ∷ 1 ∷ []) $
      use3 𝓛 (later (‵ (Owned R (b, o) (length ys) ℓ κ γ zs) ⊛ ‵ (flft κ q))) (comes_back R κ (ν ∷ []) q γ b o 𝓛 ℓ ℓ' ys δ zs room g.1) $ await t tt $ split t $
      k w zs g.0 g.1)))))
