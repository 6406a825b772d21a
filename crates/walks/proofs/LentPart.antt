-- A call that is handed the first elements of a local array as a `&mut [T]`, as steps of `Types/Kit.antt`'s calculus.
--     lends-part   the first k elements are lent for a lifetime of the call, and the others are kept
--     part-back    once the call is over, the array holds the callee's last list and then the others
--     calls-part   a call with the first k elements
--     calls-part-lent      a call with the first k elements and a `&mut [U]` that is used again: the slice is lent again for a lifetime of its own, and comes back at the callee's last list
-- Assumes `Given`, that the elements' type has one MIR type and tells its machine values, and that the array has room.
use mathlib.Core.Path.{◌≡◌, refl, sym, ◌∙◌, ap, subst}
use Prim.Native.Nat.{ℕ, ◌+◌, ◌≤◌}
use native.Mathlib.Nat.{lt_of_le_of_lt, mul-le-mul_right}
use mathlib.Core.List.{List, [], ◌∷◌, ◌++◌}
use lib.ListN.{length, take, drop as past, take-append-drop}
use seplogic.Ra.Ura.{Ura}
use base.Fraction.{full_share}
use mir.Syntax.{Callee, Lifetime, Place, Opd as Operand, Body, seq, call, ty_array}
use mir.Val.{Val}
use base.Logic.{SProp, ent, sep, ex, guard, id⊢}
use base.Fml.{Lft, GName, Share, Fml, fsep, fat, flft, flent}
use prog.Wp.{Env, Calls, Loops}
use types.Logic.{Logic, sem}
use sound.WpLaws.{FmC}
use types.Kit.{Goal, Soaks, Item, ‵, ◌⊛◌, some, given, later, Post, runs, lands, Seq, Step, step, ◌$◌, move, drop, use1, use2, use3, split, join, pick, learn, await, rewrite, fsplit, fjoin}
use types.Run.{Opds}
use types.SemTy.{cells, Arr}
use types.Tokens.{lft_new, lft_end}
use borrow.Table.Elements.{at, length_app, cut_app, join_app}
use lib.Seq.{length-take-le}
use denote.RattleType.{RattleType}
use denote.Laws.{Is, Tells}
use denote.Memory.{lone, mem}
use denote.Array.{Array, array_vals}
use denote.ArrayMemory.{Single}
use denote.Lend.{Held, lends_slice, slice_back}
use denote.Slice.{Room, finally}
use denote.Triple.Call.{calls_from}
use Rattle.walks.proofs.Again.{LentAgain, lends_again, comes_back}
use Rattle.walks.proofs.CallSteps.{Owned, Leaves}
use Rattle.walks.proofs.LentArray.{array_of, array_out, array_in}

-- what the lender keeps of an array at l while its first k elements are lent for ν under the name δ: the lender's part, and the others
abbrev pub KeptPart : (R : RattleType) → ℕ → ℕ → List R.Denot → ℕ → GName → Fml
KeptPart R l k xs ν δ = fsep (flent (ν ∷ []) (Held R (length (take k xs)) l 0 δ)) (cells (mem R) (past k xs) l (at 0 (mem R).size (length (take k xs))))

-- where all have room, the first have
first_fit : (R : RattleType) (k m : ℕ) → k ≤ m → Room R m → Room R k
first_fit R k m under room = (lt_of_le_of_lt under room.0, lt_of_le_of_lt (mul-le-mul_right (mem R).size under) room.1)

-- as many elements as before
same_length : {X : Type 0} (m k : ℕ) (xs zs : List X) → length xs ≡ m → length zs ≡ length (take k xs) → length (zs ++ past k xs) ≡ m
same_length m k xs zs len e = length_app zs (past k xs) ∙ ap (λ (j : ℕ). j + length (past k xs)) e ∙ sym (length_app (take k xs) (past k xs)) ∙ ap length (take-append-drop k xs) ∙ len

module _ {M : Type 1} {𝓤 : Ura M} {𝓛 : Logic 𝓤} {K : Type 0} {Γ : List (Item 𝓤)} {G : Goal 𝓤 𝓛.H} where
  pub lends_part : K → Soaks G → (R : RattleType) → Single R.mir → (vals : R.Denot → List Val) (ℓ : Lifetime) (m l k : ℕ) (xs : List R.Denot) → k ≤ m → Room R m
      → ((ν : ℕ) (δ : GName) → length xs ≡ m → length (take k xs) ≡ k
      → Seq K 𝓛 (‵ (Owned R (l, 0) (length (take k xs)) ℓ (ν ∷ []) δ (take k xs)) ∷ ‵ (flft (ν ∷ []) full_share) ∷ ‵ (KeptPart R l k xs ν δ) ∷ Γ) G)
      → Seq K 𝓛 (‵ (fat full_share (ty_array (lone R.mir) m) l 0 (array_of R vals xs)) ∷ ‵ ((Array R m).own_val xs (array_vals vals xs)) ∷ Γ) G
  lends_part t z R single vals ℓ m l k xs under room next = array_out t R single vals m l xs (λ len. parted len (length-take-le k xs (subst (λ (j : ℕ). k ≤ j) (sym len) under)))
    where
      parted : length xs ≡ m → length (take k xs) ≡ k → Seq K 𝓛 (‵ (cells (mem R) xs l 0) ∷ Γ) G
      parted len first =
          rewrite t 0 (λ (ys : List R.Denot). ‵ (cells (mem R) ys l 0)) (sym (take-append-drop k xs)) refl $
          use1 𝓛 (‵ (cells (mem R) (take k xs) l 0) ⊛ ‵ (cells (mem R) (past k xs) l (at 0 (mem R).size (length (take k xs)))))
          (cut_app 𝓛 (mem R) (take k xs) (past k xs) l 0) $ split t $
          lft_new t z (λ ν. move t (1 ∷ []) $
          use1 𝓛 (later (some (λ (δ : GName). ‵ (Owned R (l, 0) (length (take k xs)) ℓ (ν ∷ []) δ (take k xs)) ⊛ ‵ (flent (ν ∷ []) (Held R (length (take k xs)) l 0 δ)))))
          (lends_slice 𝓛 R ℓ (ν ∷ []) (take k xs) l 0 (subst (Room R) (sym first) (first_fit R k m under room))) $ await t z $ pick t (λ δ. split t $
          -- [the slice; the lender's part; the call's token; the others]
          move t (1 ∷ 3 ∷ []) $ fjoin t $ move t (1 ∷ 2 ∷ []) $ next ν δ len first))

  pub part_back : K → Soaks G → (R : RattleType) (vals : R.Denot → List Val) → Tells R (Is R) vals → (m l k : ℕ) (xs zs : List R.Denot) (ν : ℕ) (δ : GName) → length
      xs ≡ m → length zs ≡ length (take k xs)
      → Step K 𝓛 (‵ (fat full_share (ty_array (lone R.mir) m) l 0 (array_of R vals (zs ++ past k xs))) ∷ ‵ ((Array R m).own_val (zs ++ past k xs) (array_vals vals (zs ++ past k xs))) ∷ Γ) G
      (‵ (flft (ν ∷ []) full_share) ∷ ‵ (finally R δ zs) ∷ ‵ (KeptPart R l k xs ν δ) ∷ Γ) G
  part_back t z R vals tl m l k xs zs ν δ len e = step (λ s.
      lft_end t z $ move t (2 ∷ []) $ fsplit t $ move t (2 ∷ 0 ∷ 3 ∷ []) $
      use3 𝓛 (later (‵ ((Arr (mem R) (length (take k xs))).own_at zs l 0))) (slice_back 𝓛 R (ν ∷ []) δ zs (length (take k xs)) l 0) $ await t z $ fsplit t $ drop t $
      rewrite t 1 (λ (j : ℕ). ‵ (cells (mem R) (past k xs) l (at 0 (mem R).size j))) (sym e) refl $
      use2 𝓛 (‵ (cells (mem R) (zs ++ past k xs) l 0)) (join_app 𝓛 (mem R) zs (past k xs) l 0) $
      array_in t R vals tl m l (zs ++ past k xs) (same_length m k xs zs len e) $ s)

-- what a callee that is handed two slices for the lifetimes ν and ν′ leaves: some last lists, as long as those handed, of which it says something with its result
abbrev pub LeavesBoth : {M : Type 1} {𝓤 : Ura M} (𝓛 : Logic 𝓤) (R U : RattleType) → ℕ → ℕ → (Val → List R.Denot → List U.Denot → Type 0) → ℕ → GName →
    ℕ → GName → Val → SProp 𝓤
LeavesBoth {𝓤 = 𝓤} 𝓛 R U n m Says ν δ ν' δ' w = 𝓛.H.⇛ (ex 𝓤 (λ (zs : List R.Denot). ex 𝓤 (λ (us : List U.Denot). guard 𝓤 (Says w zs us × (length zs ≡ n) × (length us ≡ m))
    (sep 𝓤 (sep 𝓤 (𝓛.A.lft (ν ∷ []) full_share) (sem 𝓛 (finally R δ zs))) (sep 𝓤 (𝓛.A.lft (ν' ∷ []) full_share) (sem 𝓛 (finally U δ' us)))))))

module _ {M : Type 1} {𝓤 : Ura M} {𝓛 : Logic 𝓤} {K : Type 0} {Γ : List (Item 𝓤)} {E : Env 𝓤 𝓛.H} {C : Calls 𝓤 𝓛.H} {Λ : Loops 𝓤 𝓛.H}
    {p : Post 𝓤 𝓛.H} {f : Callee} {os : List Operand} {d : Place} {rest : Body} where
  open 𝓛 use {H, A}

  pub calls_part : K → FmC 𝓤 H 𝓛.laws C → (R : RattleType) → Single R.mir → (vals : R.Denot → List Val) → Tells R (Is R) vals → (ℓ : Lifetime) (m l k : ℕ)
      (xs : List R.Denot) → k ≤ m → Room R m → (vs : List Val) (Says : Val → List R.Denot → Type 0)
      → ((ν : ℕ) (δ : GName) → length (take k xs) ≡ k → ent 𝓤
      (sep 𝓤 (sem 𝓛 (Owned R (l, 0) (length (take k xs)) ℓ (ν ∷ []) δ (take k xs))) (A.lft (ν ∷ []) full_share))
      (C f vs (Leaves 𝓛 R (length (take k xs)) Says ν δ)))
      → ((i j : Item 𝓤) → Opds K 𝓛 (i ∷ j ∷ Γ) E os vs)
      → ((w : Val) (zs : List R.Denot) → Says w zs
      → Seq K 𝓛 (‵ (fat full_share (ty_array (lone R.mir) m) l 0 (array_of R vals (zs ++ past k xs))) ∷ ‵
      ((Array R m).own_val (zs ++ past k xs) (array_vals vals (zs ++ past k xs))) ∷ Γ) (lands C Λ E d w rest p))
      → Seq K 𝓛 (‵ (fat full_share (ty_array (lone R.mir) m) l 0 (array_of R vals xs)) ∷ ‵ ((Array R m).own_val xs (array_vals vals xs)) ∷ Γ) (runs C Λ E (seq (call f os d) rest) p)
  calls_part t fm R single vals tl ℓ m l k xs under room vs Says met ops next = lends_part t tt R single vals ℓ m l k xs under room (λ ν δ len first. join t $
      calls_from t fm (‵ (Owned R (l, 0) (length (take k xs)) ℓ (ν ∷ []) δ (take k xs)) ⊛ ‵ (flft (ν ∷ []) full_share)) vs (Leaves 𝓛 R (length (take k xs)) Says ν δ)
      (met ν δ first) (ops _ _) (λ w.
      use1 𝓛 (later (some (λ (zs : List R.Denot). given (Says w zs × (length zs ≡ length (take k xs))) (‵ (flft (ν ∷ []) full_share) ⊛ ‵ (finally R δ zs)))))
      (id⊢ 𝓤 (Leaves 𝓛 R (length (take k xs)) Says ν δ w)) $ await t tt $
      pick t (λ zs. learn t (λ g. split t $ part_back t tt R vals tl m l k xs zs ν δ len g.1 $ next w zs g.0))))

  pub calls_part_lent : K → FmC 𝓤 H 𝓛.laws C → (R : RattleType) → Single R.mir → (vals : R.Denot → List Val) → Tells R (Is R) vals → (ℓ : Lifetime) (m l k : ℕ)
      (xs : List R.Denot) → k ≤ m → Room R m
      → (U : RattleType) (ℓ₁ ℓ₂ : Lifetime) {κ : Lft} {q : Share} {γ : GName} (b o : ℕ) (ys : List U.Denot) → Room U (length ys) → (vs : List Val)
      (Says : Val → List R.Denot → List U.Denot → Type 0)
      → ((ν : ℕ) (δ : GName) (ν' : ℕ) (δ' : GName) → length (take k xs) ≡ k
      → ent 𝓤 (sep 𝓤 (sep 𝓤 (sem 𝓛 (Owned R (l, 0) (length (take k xs)) ℓ (ν ∷ []) δ (take k xs))) (A.lft (ν ∷ []) full_share))
      (sep 𝓤 (sem 𝓛 (Owned U (b, o) (length ys) ℓ₂ (ν' ∷ []) δ' ys)) (A.lft (ν' ∷ []) full_share)))
      (C f vs (LeavesBoth 𝓛 R U (length (take k xs)) (length ys) Says ν δ ν' δ')))
      → ((i j h : Item 𝓤) → Opds K 𝓛 (i ∷ j ∷ h ∷ Γ) E os vs)
      → ((w : Val) (zs : List R.Denot) (us : List U.Denot) → Says w zs us → length us ≡ length ys
      → Seq K 𝓛 (‵ (fat full_share (ty_array (lone R.mir) m) l 0 (array_of R vals (zs ++ past k xs))) ∷ ‵
      ((Array R m).own_val (zs ++ past k xs) (array_vals vals (zs ++ past k xs))) ∷ ‵ (Owned U (b, o) (length ys) ℓ₁ κ γ us) ∷ ‵ (flft κ q) ∷ Γ) (lands C Λ E d w rest p))
      → Seq K 𝓛 (‵ (fat full_share (ty_array (lone R.mir) m) l 0 (array_of R vals xs)) ∷ ‵ ((Array R m).own_val xs (array_vals vals xs)) ∷ ‵
      (Owned U (b, o) (length ys) ℓ₁ κ γ ys) ∷ ‵ (flft κ q) ∷ Γ) (runs C Λ E (seq (call f os d) rest) p)
  calls_part_lent t fm R single vals tl ℓ m l k xs under room U ℓ₁ ℓ₂ {κ} {q} {γ} b o ys room' vs Says met ops next = lends_part t tt R single vals ℓ m l k xs under room
      (λ ν δ len first. join t $
      -- [the elements with their token; the others; the slice; its token]
      lft_new t tt (λ ν'. move t (3 ∷ 4 ∷ []) $
      use2 𝓛 (later (some (λ (δ' : GName). ‵ (Owned U (b, o) (length ys) ℓ₂ (ν' ∷ []) δ' ys) ⊛ ‵ (LentAgain U κ (ν' ∷ []) q γ b o δ' ys))))
      (lends_again U κ (ν' ∷ []) q γ b o 𝓛 ℓ₁ ℓ₂ ys) $ await t tt $ pick t (λ δ'. split t $
      -- [the slice lent again; its lender's part; the token of that; the elements with their token; the others]
      move t (0 ∷ 2 ∷ []) $ join t $ move t (2 ∷ 0 ∷ []) $ join t $
      calls_from t fm ((‵ (Owned R (l, 0) (length (take k xs)) ℓ (ν ∷ []) δ (take k xs)) ⊛ ‵ (flft (ν ∷ []) full_share)) ⊛
      (‵ (Owned U (b, o) (length ys) ℓ₂ (ν' ∷ []) δ' ys) ⊛ ‵ (flft (ν' ∷ []) full_share))) vs
      (LeavesBoth 𝓛 R U (length (take k xs)) (length ys) Says ν δ ν' δ') (met ν δ ν' δ' first) (ops _ _ _) (λ w.
      use1 𝓛 (later (some (λ (zs : List R.Denot). some (λ (us : List U.Denot). given (Says w zs us × (length zs ≡ length (take k xs)) × (length us ≡ length ys))
      ((‵ (flft (ν ∷ []) full_share) ⊛ ‵ (finally R δ zs)) ⊛ (‵ (flft (ν' ∷ []) full_share) ⊛ ‵ (finally U δ' us)))))))
      (id⊢ 𝓤 (LeavesBoth 𝓛 R U (length (take k xs)) (length ys) Says ν δ ν' δ' w)) $ await t tt $
      pick t (λ zs. pick t (λ us. learn t (λ g. split t $ move t (1 ∷ []) $ split t $
      -- [the slice's token; its last list; the elements' token with their last list; the lender's part of the slice; the others]
      lft_end t tt $ move t (0 ∷ 3 ∷ 1 ∷ []) $ use3 𝓛 (later (‵ (Owned U (b, o) (length ys) ℓ₁ κ γ us) ⊛ ‵ (flft κ q)))
      (comes_back U κ (ν' ∷ []) q γ b o 𝓛 ℓ₁ ℓ₂ ys δ' us room' g.2) $ await t tt $ split t $
      move t (2 ∷ []) $ split t $ move t (0 ∷ 1 ∷ 4 ∷ []) $ part_back t tt R vals tl m l k xs zs ν δ len g.1 $ next w zs us g.0 g.2)))))))
