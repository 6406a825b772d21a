-- What holds of no digits, and of one digit more, holds of every numeral; so a numeral is below its base to the power of its length. Assumes nothing.
use Rattle.std.specs.Prelude.{Some}
use mathlib.Core.Path.{◌≡◌, refl, ap, subst, sym, ◌∙◌}
use mathlib.Core.List.{List, [], ◌∷◌, ◌++◌}
use Prim.Native.Nat.{ℕ, zero, suc, ◌/◌, ◌%◌, ◌^◌, ◌<◌, ◌≤◌}
use native.Mathlib.Nat.{div-lt_iff_lt-mul, pow-zero, pow-suc}
use native.Mathlib.Numerals.{add-one}
use native.Mathlib.Omega.{arith}
use lib.ListN.{length, get_or, take, length-append}
use lib.Seq.{take-suc, take-length, length-take-le}
use Rattle.grammar.specs.Text.{hex_digit}
use Rattle.grammar.specs.Numbers.{number_from}
use Rattle.grammar.proofs.Digits.{last_only}

-- the length of a list with one element more
pub length_last : (f : List ℕ) (b : ℕ) → length (f ++ b ∷ []) ≡ suc (length f)
length_last f b = length-append f (b ∷ []) ∙ add-one (length f)

module _ (base : ℕ) (some : 0 < base) (most : base ≤ 16) where
  -- induction on the digits, the last one first
  module _ (P : List ℕ → ℕ → Type 0) (none : P [] 0) (more : (g : List ℕ) (n : ℕ) → P g (n / base) → P (g ++ hex_digit (n % base) ∷ []) n) where
    -- by their number
    by_length : (w : ℕ) (f : List ℕ) (n : ℕ) → length f ≡ w → number_from base 0 f ≡ Some n → P f n
    unfolding number_from
    by_length zero [] n l e = let is : 0 ≡ n = cc in subst (P []) is none
    by_length zero (b ∷ f) n l e = absurd (omega arith)
    by_length (suc w) f n l e =
        let parts : f ≡ take w f ++ get_or f w 0 ∷ [] = sym (take-length f) ∙ ap (λ (k : ℕ). take k f) l ∙ take-suc f w 0 (omega arith) in
        let (front, last) = last_only base some most (take w f) n (get_or f w 0) (rw parts at e) in
        let whole : f ≡ take w f ++ hex_digit (n % base) ∷ [] = parts ∙ ap (λ (b : ℕ). take w f ++ b ∷ []) last in
        subst (λ (g : List ℕ). P g n) (sym whole) (more (take w f) n (by_length w (take w f) (n / base) (length-take-le w f (omega arith)) front))

    -- of any number of digits
    pub by_digits : (f : List ℕ) (n : ℕ) → number_from base 0 f ≡ Some n → P f n
    by_digits f n e = by_length (length f) f n refl e

  -- a numeral's bound
  pub below_power : (f : List ℕ) (n : ℕ) → number_from base 0 f ≡ Some n → n < base ^ length f
  below_power =
      by_digits (λ f n. n < base ^ length f) (omega (arith, pow-zero base)) (λ g n h. rw (length_last g (hex_digit (n % base)), pow-suc) ((div-lt_iff_lt-mul some).0 h))
