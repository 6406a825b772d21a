-- A call that is handed a local array as a `&mut [T]`, as steps of `Types/Kit.antt`'s calculus.
--     array-out    a local array is its elements in memory, side by side.        array-in     and back
--     calls-array  the array's elements are lent for a lifetime of the call, and the array comes back at the callee's last list
-- Assumes `Given`, and that the elements' type has one MIR type and tells its machine values.
use mathlib.Core.Path.{◌≡◌, sym, ◌∙◌, subst}
use Prim.Native.Nat.{ℕ}
use mathlib.Core.List.{List, [], ◌∷◌}
use lib.ListN.{length}
use seplogic.Ra.Ura.{Ura}
use base.Fraction.{full_share}
use mir.Syntax.{Callee, Lifetime, Place, Opd as Operand, Body, seq, call, ty_array}
use mir.Val.{Val}
use base.Logic.{ent, sep, id⊢}
use base.Fml.{GName, fsep, fat, flft, flent}
use prog.Wp.{Env, Calls, Loops}
use types.Logic.{Logic, sem}
use sound.WpLaws.{FmC}
use types.Kit.{Goal, Item, ‵, ◌⊛◌, some, given, later, Post, runs, lands, Seq, Step, step, ◌$◌, move, drop, use1, use3, split, join, pick, learn, await, fsplit, fjoin, fpick, fpack, feq_l, feq_i}
use types.Run.{Opds}
use types.SemTy.{cells, Arr}
use types.Share.{arr_parts}
use types.Tokens.{lft_new, lft_end}
use denote.RattleType.{RattleType}
use denote.Laws.{Is, Tells, shows}
use denote.Memory.{cell_at, lone, part_at, mem, shares, part_of}
use denote.Array.{Array, array_vals, Array-Tells}
use denote.ArrayMemory.{Single, Array-apart, Array-whole}
use denote.Index.{row, whole_in, whole_out}
use denote.Lend.{Held, lends_slice, slice_back}
use denote.Slice.{Room, finally}
use denote.Steps.{only}
use denote.Struct.Steps.{spelt}
use denote.Triple.Call.{calls_from}
use Rattle.walks.proofs.CallSteps.{Owned, Leaves}

-- the array's one machine value
abbrev pub array_of : (R : RattleType) → (R.Denot → List Val) → List R.Denot → Val
array_of R vals xs = only (array_vals vals xs)

module _ {M : Type 1} {𝓤 : Ura M} {𝓛 : Logic 𝓤} {K : Type 0} {Γ : List (Item 𝓤)} {G : Goal 𝓤 𝓛.H} where
  -- a local array is its elements, side by side
  pub array_out : K → (R : RattleType) → Single R.mir → (vals : R.Denot → List Val) (m l : ℕ) (xs : List R.Denot)
      → (length xs ≡ m → Seq K 𝓛 (‵ (cells (mem R) xs l 0) ∷ Γ) G)
      → Seq K 𝓛 (‵ (fat full_share (ty_array (lone R.mir) m) l 0 (array_of R vals xs)) ∷ ‵ ((Array R m).own_val xs (array_vals vals xs)) ∷ Γ) G
  unfolding part_of
  array_out t R single vals m l xs next =
      use1 𝓛 (‵ (cell_at full_share (Array R m).mir (array_vals vals xs) l 0)) (𝓛.laws.at_raw full_share (ty_array (lone R.mir) m) l 0 (array_of R vals xs)) $
      fjoin t $ fpack t (List Val) (λ us. fsep (cell_at full_share (Array R m).mir us l 0) ((Array R m).own_val xs us)) (array_vals vals xs) $
      use1 𝓛 (‵ ((arr_parts (shares R) m).part full_share xs l 0)) (Array-apart 𝓛 R full_share single m xs l 0) $ fsplit t $ feq_l t (λ len.
      use1 𝓛 (‵ (cells (mem R) xs l 0)) (whole_in 𝓛 R xs l 0) $ next len)

  -- and back
  pub array_in : K → (R : RattleType) (vals : R.Denot → List Val) → Tells R (Is R) vals → (m l : ℕ) (xs : List R.Denot) → length xs ≡ m
      → Step K 𝓛 (‵ (fat full_share (ty_array (lone R.mir) m) l 0 (array_of R vals xs)) ∷ ‵ ((Array R m).own_val xs (array_vals vals xs)) ∷ Γ) G (‵ (cells (mem R) xs l 0) ∷ Γ) G
  unfolding part_of
  array_in t R vals tl m l xs len = step (λ s.
      use1 𝓛 (‵ (row R full_share xs l 0)) (whole_out 𝓛 R xs l 0) $ feq_i t ℕ (length xs) m len $ fjoin t $
      use1 𝓛 (‵ (part_at (Array R m) full_share xs l 0)) (Array-whole 𝓛 R full_share m xs l 0) $ fpick t (λ us. fsplit t $
      spelt t (Array R m) (Is (Array R m)) (shows 𝓛 (Array R m)) (array_vals vals) (Array-Tells R vals tl m) full_share xs us l 0 $
      use1 𝓛 (‵ (fat full_share (ty_array (lone R.mir) m) l 0 (array_of R vals xs))) (𝓛.laws.raw_at full_share (ty_array (lone R.mir) m) l 0 (array_of R vals xs)) $ s))

module _ {M : Type 1} {𝓤 : Ura M} {𝓛 : Logic 𝓤} {K : Type 0} {Γ : List (Item 𝓤)} {E : Env 𝓤 𝓛.H} {C : Calls 𝓤 𝓛.H} {Λ : Loops 𝓤 𝓛.H}
    {p : Post 𝓤 𝓛.H} {f : Callee} {os : List Operand} {d : Place} {rest : Body} where
  open 𝓛 use {H, A}

  pub calls_array : K → FmC 𝓤 H 𝓛.laws C → (R : RattleType) → Single R.mir → (vals : R.Denot → List Val) → Tells R (Is R) vals → (ℓ : Lifetime) (m l : ℕ)
      (xs : List R.Denot) → Room R m → (vs : List Val) (Says : Val → List R.Denot → Type 0)
      → ((ν : ℕ) (δ : GName) → length xs ≡ m → ent 𝓤 (sep 𝓤 (sem 𝓛 (Owned R (l, 0) (length xs) ℓ (ν ∷ []) δ xs)) (A.lft (ν ∷ []) full_share))
      (C f vs (Leaves 𝓛 R (length xs) Says ν δ)))
      → ((i j : Item 𝓤) → Opds K 𝓛 (i ∷ j ∷ Γ) E os vs)
      → ((w : Val) (zs : List R.Denot) → Says w zs → Seq K 𝓛
      (‵ (fat full_share (ty_array (lone R.mir) m) l 0 (array_of R vals zs)) ∷ ‵ ((Array R m).own_val zs (array_vals vals zs)) ∷ Γ) (lands C Λ E d w rest p))
      → Seq K 𝓛 (‵ (fat full_share (ty_array (lone R.mir) m) l 0 (array_of R vals xs)) ∷ ‵ ((Array R m).own_val xs (array_vals vals xs)) ∷ Γ) (runs C Λ E (seq (call f os d) rest) p)
  calls_array t fm R single vals tl ℓ m l xs room vs Says met ops k = array_out t R single vals m l xs (λ len. lft_new t tt (λ ν. move t (1 ∷ []) $
      use1 𝓛 (later (some (λ (δ : GName). ‵ (Owned R (l, 0) (length xs) ℓ (ν ∷ []) δ xs) ⊛ ‵ (flent (ν ∷ []) (Held R (length xs) l 0 δ)))))
      (lends_slice 𝓛 R ℓ (ν ∷ []) xs l 0 (subst (Room R) (sym len) room)) $ await t tt $ pick t (λ δ. split t $
      move t (0 ∷ 2 ∷ []) $ join t $ calls_from t fm (‵ (Owned R (l, 0) (length xs) ℓ (ν ∷ []) δ xs) ⊛ ‵ (flft (ν ∷ []) full_share)) vs
      (Leaves 𝓛 R (length xs) Says ν δ) (met ν δ len) (ops _ _) (λ w.
      use1 𝓛 (later (some (λ (zs : List R.Denot). given (Says w zs × (length zs ≡ length xs)) (‵ (flft (ν ∷ []) full_share) ⊛ ‵ (finally R δ zs)))))
      (id⊢ 𝓤 (Leaves 𝓛 R (length xs) Says ν δ w)) $ await t tt $ pick t (λ zs. learn t (λ g. split t $
      lft_end t tt $ move t (0 ∷ 2 ∷ 1 ∷ []) $ use3 𝓛 (later (‵ ((Arr (mem R) (length xs)).own_at zs l 0))) (slice_back 𝓛 R (ν ∷ []) δ zs (length xs) l 0) $ await t tt
      $ fsplit t $ drop t $
      array_in t R vals tl m l zs (g.1 ∙ len) $ k w zs g.0))))))
