-- The first accepted drop of an id is one call of a list, so that the turns before it are one number. Assumes nothing.
use Rattle.std.specs.Prelude.{None}
use mathlib.Core.Path.{◌≡◌, refl, sym, ap, subst}
use mathlib.Core.List.{List, [], ◌∷◌, ◌++◌}
use Prim.Native.Nat.{ℕ, ◌+◌}
use native.Mathlib.Omega.{arith}
use lib.ListN.{get_or, drop}
use Rattle.sessions.specs.Calls.{Call, Drop, Plain}
use Rattle.sessions.specs.Table.{refusal}
use Rattle.sessions.specs.Plain.{step, run, completes, completed, drops_of, drops}
use Rattle.sessions.specs.DroppedInTime.{DroppedInTime}
use Rattle.sessions.proofs.DropsCounted.{counted}

module _ (limit id : ℕ) where
  -- an accepted drop of the id in front is counted
  not_first : (p : Plain) (c : Call) (cs : List Call) → Drop id ≡ c → refusal limit p (Drop id) ≡ None → drops limit id p (c ∷ cs) ≡ 0 → ⊥
  unfolding drops
  not_first p c cs e h z =
      let one : drops_of limit id p c ≡ 1 = subst (λ (x : Call). drops_of limit id p x ≡ 1) e (counted limit id p h) in
      omega (arith, one, z)

  none_later : (p : Plain) (c : Call) (cs : List Call) → drops limit id p (c ∷ cs) ≡ 0 → drops limit id (step limit p c) cs ≡ 0
  unfolding drops
  none_later p c cs z = omega (arith, z)

  one_number : (p : Plain) (xs ys more rest : List Call) → xs ++ Drop id ∷ more ≡ ys ++ Drop id ∷ rest
      → drops limit id p xs ≡ 0 → drops limit id p ys ≡ 0
      → refusal limit (run limit p xs) (Drop id) ≡ None → refusal limit (run limit p ys) (Drop id) ≡ None
      → completed limit p xs ≡ completed limit p ys
  unfolding run completed
  one_number p [] [] more rest e x y h k = refl
  one_number p [] (c ∷ ys) more rest e x y h k = absurd (not_first p c ys (ap (λ (l : List Call). get_or l 0 c) e) h y)
  one_number p (c ∷ xs) [] more rest e x y h k = absurd (not_first p c xs (sym (ap (λ (l : List Call). get_or l 0 c) e)) k x)
  one_number p (c ∷ xs) (b ∷ ys) more rest e x y h k =
      let same : c ≡ b = ap (λ (l : List Call). get_or l 0 c) e in
      let none-y : drops limit id p (c ∷ ys) ≡ 0 = subst (λ (z : Call). drops limit id p (z ∷ ys) ≡ 0) (sym same) y in
      let takes-y : refusal limit (run limit p (c ∷ ys)) (Drop id) ≡ None = subst (λ (z : Call). refusal limit (run limit p (z ∷ ys)) (Drop id) ≡ None) (sym same) k in
      let later = one_number (step limit p c) xs ys more rest (ap (λ (l : List Call). drop 1 l) e) (none_later p c xs x) (none_later p c ys none-y) h takes-y in
      subst (λ (z : Call). completed limit p (c ∷ xs) ≡ completed limit p (z ∷ ys)) same (ap (λ (n : ℕ). completes limit p c + n) later)

pub dropped_in_time : DroppedInTime
dropped_in_time limit from since rest p e z h late d =
    let same = one_number limit e.id from since d.since rest d.rest d.split z d.first h d.accepted in
    omega (arith, late, d.early, same)
