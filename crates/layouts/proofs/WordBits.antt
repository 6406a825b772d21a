-- Laws of the bits of a word: of words that agree in their high part, of a word made of two parts, and of words with bits of a list only. Assumes nothing.
use mathlib.Core.Path.{◌≡◌, refl, ap, sym, ◌∙◌}
use mathlib.Core.Logic.{◌⊎◌, inl, inr, ⊎_elim}
use mathlib.Core.Bool.{Bool, true, false, not}
use mathlib.Core.List.{List, [], ◌∷◌}
use Prim.Native.Nat.{ℕ, zero, suc, ◌+◌, ◌*◌, ◌-◌, ◌/◌, ◌%◌, ◌^◌, ◌≤◌, ◌<◌}
use native.Mathlib.Nat.{pow-succ', div-eq_of_lt, zero-div, div-lt_iff_lt-mul, div-one, zero-add, suc-add, add-zero, mul_comm, mul_assoc, mul-add-div_right, mod-lt, div-add-mod'}
use native.Mathlib.Decide.{dec_lt}
use native.Mathlib.Omega.{arith}
use lib.Dec.{ltb}
use lib.Pow.{pow_pos, pow_mono, shr-shr}
use borrow.Author.Tests.{eqb-false, ltb-true, lt-ltb, le-ltb}
use Rattle.requests.specs.Choice.{both, either}
use Rattle.requests.specs.Bits.{bit, in_list, any_bit, only_bits}
use Rattle.requests.proofs.Tests.{both_parts, either_cases, true_both, either_left, either_right, every_true}
use Rattle.requests.proofs.BitLists.{reserved}
use Rattle.requests.proofs.Words.{half_div}

pub bit_zero : (k : ℕ) → bit k 0 ≡ false
unfolding bit
bit_zero k = rw (zero-div (2 ^ k))

-- a word below 2^k has no bit k
pub bit_above : (k w : ℕ) → w < 2 ^ k → bit k w ≡ false
unfolding bit
bit_above k w l = rw (div-eq_of_lt l)

-- words that agree from bit n on have the same bits there
pub bit_high : (n k v w : ℕ) → n ≤ k → v / 2 ^ n ≡ w / 2 ^ n → bit k v ≡ bit k w
unfolding bit
bit_high n k v w l e =
    let p : n + (k - n) ≡ k = omega arith in
    rw (← p, ← shr-shr v n (k - n), ← shr-shr w n (k - n), e)

-- a word made of two parts, the high one from bit n on: below n its bits are those of the low part, from there on those of the high one
doubled : (n f : ℕ) → f * 2 ^ suc n ≡ f * 2 ^ n * 2
doubled n f = ap (λ (x : ℕ). f * x) (pow-succ' 2 n ∙ mul_comm 2 (2 ^ n)) ∙ sym (mul_assoc f (2 ^ n) 2)

pub bit_low_part : (n k f w : ℕ) → k < n → bit k (f * 2 ^ n + w) ≡ bit k w
unfolding bit
bit_low_part zero k f w l = absurd (omega arith)
bit_low_part (suc n) zero f w l =
    let e : (f * 2 ^ suc n + w) / 1 % 2 ≡ w / 1 % 2 = rw (div-one (f * 2 ^ suc n + w), div-one w) (omega (arith, doubled n f)) in
    rw e
bit_low_part (suc n) (suc k) f w l =
    let half : (f * 2 ^ suc n + w) / 2 ≡ f * 2 ^ n + w / 2 = omega (arith, doubled n f) in
    rw (half_div k (f * 2 ^ suc n + w), half_div k w, half) (bit_low_part n k f (w / 2) (omega arith))

pub bit_high_part : (n k f w : ℕ) → w < 2 ^ n → bit (n + k) (f * 2 ^ n + w) ≡ bit k f
unfolding bit
bit_high_part n k f w l =
    let above : (f * 2 ^ n + w) / 2 ^ n ≡ f = mul-add-div_right (pow_pos n) f w ∙ rw (div-eq_of_lt l, add-zero) in
    rw (← shr-shr (f * 2 ^ n + w) n k, above)

-- the last n bits of a word
pub bit_part : (n k w : ℕ) → bit k (w % 2 ^ n) ≡ both (ltb k n) (bit k w)
unfolding both
bit_part n k w =
    elim (dec_lt k n) [
      | yes l ↦
          let whole : w / 2 ^ n * 2 ^ n + w % 2 ^ n ≡ w = div-add-mod' w (2 ^ n) in
          rw (lt-ltb k n l) (sym (bit_low_part n k (w / 2 ^ n) (w % 2 ^ n) l) ∙ ap (bit k) whole)
      | no o ↦
          let past : n ≤ k = let y = o in omega arith in
          let more : 2 ^ n ≤ 2 ^ k = pow_mono past in
          rw (le-ltb k n past) (bit_above k (w % 2 ^ n) (omega (arith, mod-lt w (pow_pos n))))
    ]

-- a word whose bits from n on are 0 is below 2^n
pub below_bits : (n m w : ℕ) → w < 2 ^ (m + n) → ((k : ℕ) → n ≤ k → k < m + n → bit k w ≡ false) → w < 2 ^ n
unfolding bit
below_bits n zero w l h = rw zero-add at l
below_bits n (suc m) w l h =
    let small : w / 2 ^ (m + n) < 2 = (div-lt_iff_lt-mul (pow_pos (m + n))).1 (rw (← pow-succ' 2 (m + n)) (rw (suc-add m n) at l)) in
    let off : w / 2 ^ (m + n) % 2 ≡ 1 → ⊥ = eqb-false _ _ (h (m + n) (omega arith) (omega arith)) in
    let none : w / 2 ^ (m + n) < 1 = let y = off in omega arith in
    let fits : w < 1 * 2 ^ (m + n) = (div-lt_iff_lt-mul (pow_pos (m + n))).0 none in
    below_bits n m w (omega (arith, fits)) (λ k a b. h k a (omega arith))

-- ---- words with bits of a list only

pub only_below : (ks : List ℕ) (w : ℕ) → only_bits ks w ≡ true → w < 2 ^ 64
unfolding only_bits
only_below ks w h = ltb-true w (2 ^ 64) (both_parts _ _ h).0

pub bits_only : (ks : List ℕ) (w : ℕ) → w < 2 ^ 64 → ((k : ℕ) → k < 64 → (bit k w ≡ false) ⊎ (in_list ks k ≡ true)) → only_bits ks w ≡ true
unfolding only_bits
bits_only ks w l h =
    true_both _ _ (lt-ltb w (2 ^ 64) l)
    (every_true 64 (λ k. either (not (bit k w)) (in_list ks k))
    (λ k b. ⊎_elim (λ e. either_left _ _ (ap not e)) (λ e. either_right _ _ e) (h k b)))

pub zero_only : (ks : List ℕ) → only_bits ks 0 ≡ true
zero_only ks = bits_only ks 0 (omega arith) (λ k l. inl (bit_zero k))

-- what holds of a bit that the word has
pub only_cases : (ks : List ℕ) (k w : ℕ) → only_bits ks w ≡ true → k < 64 → (bit k w ≡ false) ⊎ (in_list ks k ≡ true)
only_cases ks k w h l = go (in_list ks k) refl
  where
    go : (b : Bool) → in_list ks k ≡ b → (bit k w ≡ false) ⊎ (in_list ks k ≡ true)
    go true e = inr e
    go false e = inl (reserved ks k w l e h)

-- a longer list permits more
pub only_more : (ks js : List ℕ) (w : ℕ) → ((k : ℕ) → in_list ks k ≡ true → in_list js k ≡ true) → only_bits ks w ≡ true → only_bits js w ≡ true
only_more ks js w more h =
    bits_only js w (only_below ks w h) (λ k l. ⊎_elim (λ e. inl e) (λ e. inr (more k e)) (only_cases ks k w h l))

-- a word that has each bit of another has one of a list where the other has
pub any_more : (ks : List ℕ) (v w : ℕ) → ((k : ℕ) → bit k v ≡ true → bit k w ≡ true) → any_bit ks v ≡ true → any_bit ks w ≡ true
unfolding any_bit
any_more [] v w h e = e
any_more (k ∷ ks) v w h e =
    ⊎_elim (λ b. either_left _ _ (h k b)) (λ a. either_right _ _ (any_more ks v w h a)) (either_cases _ _ e)
