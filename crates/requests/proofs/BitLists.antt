-- Lists of bits: joined, and with a bit more that a word has not. Assumes nothing.
use mathlib.Core.Path.{◌≡◌, refl, ap, sym, ◌∙◌}
use mathlib.Core.Bool.{Bool, true, false, not, true≢false}
use mathlib.Core.List.{List, [], ◌∷◌, ◌++◌}
use Prim.Native.Nat.{ℕ, ◌<◌, ◌^◌}
use lib.Dec.{eqb, ltb}
use borrow.Author.Tests.{eqb-true, not-true}
use Rattle.requests.specs.Choice.{both, either}
use Rattle.requests.specs.Bits.{bit, in_list, any_bit, only_bits}
use Rattle.requests.proofs.Tests.{either_false, either_assoc, both_parts, every_same, every_at}

-- a bit of two lists joined
pub any_append : (ks js : List ℕ) (w : ℕ) → any_bit (ks ++ js) w ≡ either (any_bit ks w) (any_bit js w)
unfolding any_bit either
any_append [] js w = refl
any_append (k ∷ ks) js w = ap (either (bit k w)) (any_append ks js w) ∙ sym (either_assoc (bit k w) (any_bit ks w) (any_bit js w))

-- a member of two lists joined
pub in_append : (ks js : List ℕ) (k : ℕ) → in_list (ks ++ js) k ≡ either (in_list ks k) (in_list js k)
unfolding in_list either
in_append [] js k = refl
in_append (j ∷ ks) js k = ap (either (eqb j k)) (in_append ks js k) ∙ sym (either_assoc (eqb j k) (in_list ks k) (in_list js k))

-- a bit that the word has not may stand in the list or not
pub only_without : (ks : List ℕ) (j w : ℕ) → bit j w ≡ false → only_bits (ks ++ (j ∷ [])) w ≡ only_bits ks w
unfolding only_bits in_list either
only_without ks j w none =
    ap (both (ltb w (2 ^ 64)))
    (every_same 64 (λ k. either (not (bit k w)) (in_list (ks ++ (j ∷ [])) k)) (λ k. either (not (bit k w)) (in_list ks k)) (λ k l. go k (bit k w) refl))
  where
    last : (k : ℕ) → bit k w ≡ true → (b : Bool) → eqb j k ≡ b → either (in_list ks k) (either b false) ≡ in_list ks k
    last k h true e = absurd (true≢false (sym h ∙ ap (λ (x : ℕ). bit x w) (sym (eqb-true j k e)) ∙ none))
    last k h false e = either_false (in_list ks k)

    go : (k : ℕ) (b : Bool) → bit k w ≡ b → either (not b) (in_list (ks ++ (j ∷ [])) k) ≡ either (not b) (in_list ks k)
    go k true h = in_append ks (j ∷ []) k ∙ last k h (eqb j k) refl
    go k false h = refl

-- a bit that the list has not is reserved
pub reserved : (ks : List ℕ) (k w : ℕ) → k < 64 → in_list ks k ≡ false → only_bits ks w ≡ true → bit k w ≡ false
unfolding only_bits
reserved ks k w below out only =
    let here : either (not (bit k w)) (in_list ks k) ≡ true = every_at 64 (λ j. either (not (bit j w)) (in_list ks j)) (both_parts _ _ only).1 k below in
    not-true _ (sym (either_false (not (bit k w))) ∙ ap (either (not (bit k w))) (sym out) ∙ here)
