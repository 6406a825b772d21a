-- A test by a mask is the test of the mask's bits: by induction on the number of lowest bits looked at. Assumes nothing.
use mathlib.Core.Path.{◌≡◌, refl, ap, ap₂, sym, ◌∙◌}
use mathlib.Core.Bool.{Bool, true, false, not}
use mathlib.Core.List.{[], ◌∷◌}
use Prim.Native.Nat.{ℕ, zero, suc, ◌%◌, ◌^◌, ◌<◌}
use native.Mathlib.Nat.{mod-one, mod-eq_of_lt, lt_of_le_of_lt}
use native.Mathlib.Omega.{arith}
use lib.Bits.{bit_and, and_le_l}
use lib.Dec.{eqb, ltb}
use borrow.Author.Tests.{lt-ltb, le-ltb, ltb-true, ltb-false, eqb-true, eqb-false}
use Rattle.requests.specs.Choice.{both, either, every, pick}
use Rattle.requests.specs.Bits.{bit, in_list, any_bit, only_bits}
use Rattle.requests.specs.Masks.{bits_below, bits_of}
use Rattle.requests.proofs.BitLists.{any_append, in_append}
use Rattle.requests.proofs.Tests.{either_false, both_true, both_false, both_swap, every_same}
use Rattle.requests.proofs.Words.{bit_and_lem, some_more, same_more, same}

-- one bit, or none
any_one : (b : Bool) (k w : ℕ) → any_bit (pick b (k ∷ []) []) w ≡ both b (bit k w)
unfolding any_bit both
any_one true k w = either_false (bit k w)
any_one false k w = refl

-- a bit of the mask among the n lowest
any_below : (n mask w : ℕ) → not (eqb (bit_and w mask % 2 ^ n) 0) ≡ any_bit (bits_below n mask) w
unfolding any_bit bits_below
any_below zero mask w = rw (mod-one (bit_and w mask))
any_below (suc k) mask w =
    some_more k (bit_and w mask)
    ∙ ap₂ either (any_below k mask w) (bit_and_lem k w mask ∙ both_swap (bit k w) (bit k mask) ∙ sym (any_one (bit k mask) k w))
    ∙ sym (any_append (bits_below k mask) (pick (bit k mask) (k ∷ []) []) w)

-- whether a word has a bit of the mask
pub any_by_mask : (mask w : ℕ) → w < 2 ^ 64 → not (eqb (bit_and w mask) 0) ≡ any_bit (bits_of mask) w
unfolding bits_of
any_by_mask mask w fits =
    ap (λ (x : ℕ). not (eqb x 0)) (sym (mod-eq_of_lt (lt_of_le_of_lt (and_le_l w mask) fits))) ∙ any_below 64 mask w

-- one member, or none
in_one : (b : Bool) (j k : ℕ) → in_list (pick b (j ∷ []) []) k ≡ both b (eqb j k)
unfolding in_list both
in_one true j k = either_false (eqb j k)
in_one false j k = refl

-- another number than n
ltb_other : (k n : ℕ) → (n ≡ k → ⊥) → ltb k (suc n) ≡ ltb k n
ltb_other k n other = go (ltb k n) refl
  where
    go : (b : Bool) → ltb k n ≡ b → ltb k (suc n) ≡ b
    go true h = lt-ltb k (suc n) (omega (arith, ltb-true k n h))
    go false h = le-ltb k (suc n) (omega (arith, ltb-false k n h))

-- the list of a mask's bits has what the mask has
pub in_bits : (n mask k : ℕ) → in_list (bits_below n mask) k ≡ both (ltb k n) (bit k mask)
unfolding in_list bits_below both either
in_bits zero mask k = rw (le-ltb k 0 (omega arith))
in_bits (suc n) mask k =
    in_append (bits_below n mask) (pick (bit n mask) (n ∷ []) []) k
    ∙ ap₂ either (in_bits n mask k) (in_one (bit n mask) n k)
    ∙ go (eqb n k) refl
  where
    go : (e : Bool) → eqb n k ≡ e → either (both (ltb k n) (bit k mask)) (both (bit n mask) e) ≡ both (ltb k (suc n)) (bit k mask)
    go true p =
        let here : n ≡ k = eqb-true n k p in
        rw (le-ltb k n (omega arith), lt-ltb k (suc n) (omega arith)) (both_true (bit n mask) ∙ ap (λ (x : ℕ). bit x mask) here)
    go false p = rw (both_false (bit n mask), ltb_other k n (eqb-false n k p)) (either_false _)

-- a bit is kept by `&` where the mask has it
kept : (a b : Bool) → same (both a b) a ≡ either (not a) b
unfolding both either
kept true true = refl
kept true false = refl
kept false b = refl

-- the n lowest bits are kept by `&`
only_below : (n mask w : ℕ) → eqb (bit_and w mask % 2 ^ n) (w % 2 ^ n) ≡ every n (λ k. either (not (bit k w)) (bit k mask))
unfolding every
only_below zero mask w = rw (mod-one (bit_and w mask), mod-one w)
only_below (suc k) mask w =
    same_more k (bit_and w mask) w
    ∙ ap₂ both (only_below k mask w)
    (ap (λ (b : Bool). same b (bit k w)) (bit_and_lem k w mask) ∙ kept (bit k w) (bit k mask))

-- the list's test below n is the mask's
listed_below : (n mask w : ℕ)
    → every n (λ k. either (not (bit k w)) (bit k mask)) ≡ every n (λ k. either (not (bit k w)) (in_list (bits_below n mask) k))
unfolding both
listed_below n mask w =
    every_same n (λ k. either (not (bit k w)) (bit k mask)) (λ k. either (not (bit k w)) (in_list (bits_below n mask) k))
    (λ k l. ap (either (not (bit k w))) (sym (in_bits n mask k ∙ ap (λ (b : Bool). both b (bit k mask)) (lt-ltb k n l))))

-- whether a word has no bit outside the mask
pub only_by_mask : (mask w : ℕ) → w < 2 ^ 64 → eqb (bit_and w mask) w ≡ only_bits (bits_of mask) w
unfolding bits_of only_bits both
only_by_mask mask w fits =
    ap₂ eqb (sym (mod-eq_of_lt (lt_of_le_of_lt (and_le_l w mask) fits))) (sym (mod-eq_of_lt fits))
    ∙ only_below 64 mask w
    ∙ listed_below 64 mask w
    ∙ sym (ap (λ (b : Bool). both b (every 64 (λ k. either (not (bit k w)) (in_list (bits_below 64 mask) k)))) (lt-ltb w (2 ^ 64) fits))
