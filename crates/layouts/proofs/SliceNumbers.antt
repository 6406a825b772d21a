-- The numbers of a slice that a write list is written into. Assumes nothing.
use mathlib.Core.Path.{◌≡◌, refl, ap, ◌∙◌}
use mathlib.Core.List.{List, [], ◌∷◌, ◌++◌}
use Prim.Native.Nat.{ℕ, zero, suc, ◌+◌, ◌*◌, ◌-◌, ◌≤◌, ◌<◌}
use native.Mathlib.Omega.{arith}
use lib.ListN.{length, get_or, drop, get_or-append}
use lib.Seq.{get_or-append-add, get_or-drop}
use Rattle.layouts.specs.Writes.{Write, flat, filled}
use Rattle.layouts.specs.SliceNumbers.{SliceNumbers}
use Rattle.layouts.proofs.FilledSlices.{length_flat, length_filled}

-- the numbers of a list
flat_address : (ws : List Write) (k : ℕ) → k < length ws → get_or (flat ws) (2 * k) 0 ≡ (get_or ws k (0, 0)).0
unfolding flat
flat_address [] k h = absurd (omega (arith, h))
flat_address (w ∷ ws) zero h = refl
flat_address (w ∷ ws) (suc k) h =
    let two : 2 * suc k ≡ suc (suc (2 * k)) = omega arith in
    ap (λ (i : ℕ). get_or (w.0 ∷ w.1 ∷ flat ws) i 0) two ∙ flat_address ws k (omega (arith, h))

flat_value : (ws : List Write) (k : ℕ) → k < length ws → get_or (flat ws) (2 * k + 1) 0 ≡ (get_or ws k (0, 0)).1
unfolding flat
flat_value [] k h = absurd (omega (arith, h))
flat_value (w ∷ ws) zero h = refl
flat_value (w ∷ ws) (suc k) h =
    let two : 2 * suc k + 1 ≡ suc (suc (2 * k + 1)) = omega arith in
    ap (λ (i : ℕ). get_or (w.0 ∷ w.1 ∷ flat ws) i 0) two ∙ flat_value ws k (omega (arith, h))

-- what stands past it
past : (ws : List Write) (out : List ℕ) (i : ℕ) → 2 * length ws ≤ i → get_or (filled ws out) i 0 ≡ get_or out i 0
unfolding filled
past ws out i h =
    let n : ℕ = i - 2 * length ws in
    let at : i ≡ length (flat ws) + n = omega (arith, h, length_flat ws) in
    let back : 2 * length ws + n ≡ i = omega (arith, h) in
    ap (λ (j : ℕ). get_or (flat ws ++ drop (2 * length ws) out) j 0) at
    ∙ get_or-append-add (flat ws) (drop (2 * length ws) out) n 0
    ∙ get_or-drop (2 * length ws) out n 0
    ∙ ap (λ (j : ℕ). get_or out j 0) back

pub slice_numbers : SliceNumbers
unfolding filled
slice_numbers =
    record {
      size = length_filled;
      addresses = λ ws out k h. get_or-append (flat ws) (drop (2 * length ws) out) 0 (2 * k) (omega (arith, h, length_flat ws)) ∙ flat_address ws k h;
      values = λ ws out k h. get_or-append (flat ws) (drop (2 * length ws) out) 0 (2 * k + 1) (omega (arith, h, length_flat ws)) ∙ flat_value ws k h;
      stay = past;
    }
