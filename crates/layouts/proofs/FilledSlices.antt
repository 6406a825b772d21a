-- Write lists in a slice, one after another. Assumes nothing.
--     flat-append, length-flat    the numbers of two lists, and how many they are
--     filled-both, filled-more    a list behind another, in the part of the slice that begins where that ends
use mathlib.Core.Path.{◌≡◌, refl, ap, sym, ◌∙◌}
use mathlib.Core.List.{List, [], ◌∷◌, ◌++◌, append_assoc}
use Prim.Native.Nat.{ℕ, ◌+◌, ◌*◌, ◌≤◌}
use native.Mathlib.Omega.{arith}
use lib.ListN.{length, take, drop, length-append, length-drop}
use lib.Seq.{take_at, drop_at, drop-drop}
use Rattle.layouts.specs.Writes.{Write, flat, filled}

pub flat_append : (xs ys : List Write) → flat (xs ++ ys) ≡ flat xs ++ flat ys
unfolding flat
flat_append [] ys = refl
flat_append (x ∷ xs) ys = rw (flat_append xs ys)

pub length_flat : (ws : List Write) → length (flat ws) ≡ 2 * length ws
unfolding flat
length_flat [] = refl
length_flat (w ∷ ws) = omega (arith, length_flat ws)

pub filled_none : (out : List ℕ) → filled [] out ≡ out
unfolding filled flat
filled_none out = refl

-- the slice keeps its length where the list fits
pub length_filled : (ws : List Write) (out : List ℕ) → 2 * length ws ≤ length out → length (filled ws out) ≡ length out
unfolding filled
length_filled ws out fits = omega (arith, length-append (flat ws) (drop (2 * length ws) out), length_flat ws, length-drop (2 * length ws) out)

-- past the list it is as it was
pub filled_rest : (ws : List Write) (out : List ℕ) → drop (2 * length ws) (filled ws out) ≡ drop (2 * length ws) out
unfolding filled
filled_rest ws out = drop_at (flat ws) (drop (2 * length ws) out) (2 * length ws) (length_flat ws)

pub filled_both : (xs ys : List Write) (out : List ℕ) → filled (xs ++ ys) out ≡ flat xs ++ filled ys (drop (2 * length xs) out)
unfolding filled
filled_both xs ys out =
    let both : 2 * length (xs ++ ys) ≡ 2 * length xs + 2 * length ys = omega (arith, length-append xs ys) in
    ap (λ (l : List ℕ). l ++ drop (2 * length (xs ++ ys)) out) (flat_append xs ys)
    ∙ append_assoc (flat xs) (flat ys) (drop (2 * length (xs ++ ys)) out)
    ∙ ap (λ (l : List ℕ). flat xs ++ (flat ys ++ l)) (ap (λ (k : ℕ). drop k out) both ∙ sym (drop-drop (2 * length ys) (2 * length xs) out))

pub filled_more : (xs ys : List Write) (out : List ℕ)
    → take (2 * length xs) (filled xs out) ++ filled ys (drop (2 * length xs) (filled xs out)) ≡ filled (xs ++ ys) out
unfolding filled
filled_more xs ys out =
    ap (λ (l : List ℕ). l ++ filled ys (drop (2 * length xs) (filled xs out))) (take_at (flat xs) (drop (2 * length xs) out) (2 * length xs) (length_flat xs))
    ∙ ap (λ (l : List ℕ). flat xs ++ filled ys l) (filled_rest xs out)
    ∙ sym (filled_both xs ys out)
