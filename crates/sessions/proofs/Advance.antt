-- What a turn makes of one entry and of those ahead of it. Assumes nothing.
--     taken-behind    an entry is taken where it fits behind those taken ahead of it
--     taken-or-kept   an entry is taken, or waits on behind those ahead of it that are passed over
--     both-ahead      those ahead of it are passed over or taken
--     fewer-ahead     some of them are taken, where the head has a plan alone
use mathlib.Core.Path.{◌≡◌, refl, ap, ◌∙◌}
use mathlib.Core.Logic.{◌⊎◌, inl, inr}
use mathlib.Core.List.Memᴰ
use mathlib.Core.List.{List, [], ◌∷◌, ◌++◌, append_assoc, Memᴰ}
use mathlib.Core.Bool.{Bool, true, false}
use Prim.Native.Nat.{suc, ◌+◌, ◌≤◌}
use native.Mathlib.Omega.{arith}
use lib.ListN.{length, length-append}
use Rattle.requests.specs.declared.Setup.{Setup}
use Rattle.requests.specs.declared.Entry.{Entry}
use Rattle.plans.specs.Legal.{HasPlan}
use Rattle.sessions.specs.Choose.{passed_after}
use Rattle.sessions.specs.Turns.{fits, taken, passed, turned}
use Rattle.sessions.proofs.Takes.{taken_yes, passed_no, taken_append, passed_append}
use Rattle.sessions.proofs.HeadTaken.{head_first}
use Rattle.sessions.proofs.Rearranged.{length_turned}

module _ (s : Setup) where
  pub taken_behind : (ahead : List Entry) (e : Entry) (behind : List Entry) → fits s (taken s ahead ++ e ∷ []) ≡ true → Memᴰ e (taken s (ahead ++ e ∷ behind))
  unfolding taken
  taken_behind ahead e behind h =
      rw (taken_append (fits s) [] ahead (e ∷ behind), taken_yes (fits s) (taken s ahead) e behind h) (Memᴰ.append_right (taken s ahead) (Memᴰ.head refl))

  pub taken_or_kept : (ahead : List Entry) (e : Entry) (behind : List Entry)
      → Memᴰ e (taken s (ahead ++ e ∷ behind)) ⊎ ((more : List Entry) × (turned s (ahead ++ e ∷ behind) ≡ passed s ahead ++ e ∷ more))
  unfolding taken passed turned
  taken_or_kept ahead e behind = go (fits s (taken s ahead ++ e ∷ [])) refl
    where
      go : (b : Bool) → fits s (taken s ahead ++ e ∷ []) ≡ b
          → Memᴰ e (taken s (ahead ++ e ∷ behind)) ⊎ ((more : List Entry) × (turned s (ahead ++ e ∷ behind) ≡ passed s ahead ++ e ∷ more))
      go true h = inl (taken_behind ahead e behind h)
      go false h =
          let more : List Entry = passed_after (fits s) (taken s ahead) behind in
          let rest : List Entry = taken s (ahead ++ e ∷ behind) in
          inr (
            more ++ rest,
            ap (λ (l : List Entry). l ++ rest) (passed_append (fits s) [] ahead (e ∷ behind) ∙ ap (λ (l : List Entry). passed s ahead ++ l) (passed_no (fits s) (taken s ahead) e behind h))
                ∙ append_assoc (passed s ahead) (e ∷ more) rest,
          )

  pub both_ahead : (ahead : List Entry) → length (passed s ahead) + length (taken s ahead) ≡ length ahead
  unfolding taken passed
  both_ahead ahead = omega (arith, length_turned (fits s) [] ahead, length-append (passed s ahead) (taken s ahead))

  pub fewer_ahead : (head : Entry) (rest : List Entry) → HasPlan s (head.request ∷ []) → suc (length (passed s (head ∷ rest))) ≤ length (head ∷ rest)
  fewer_ahead head rest p = let t = head_first s head rest p in omega (arith, both_ahead (head ∷ rest), ap length t.1)
