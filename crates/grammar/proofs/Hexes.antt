-- A field spells n in hex of width w exactly when it is the text of n and n fits the width. Assumes nothing.
use Rattle.std.specs.Prelude.{Some}
use mathlib.Core.Path.{◌≡◌, refl, ap, ◌∙◌}
use mathlib.Core.List.{List, [], ◌∷◌, ◌++◌}
use Prim.Native.Nat.{ℕ, zero, suc, ◌/◌, ◌%◌}
use native.Mathlib.Nat.{div-lt_iff_lt-mul, pow-suc}
use native.Mathlib.Omega.{arith}
use lib.Dec.{eqb}
use lib.ListN.{length}
use borrow.Author.Tests.{eq-eqb, eqb-true}
use Rattle.grammar.specs.Text.{hex_digit, hex_text}
use Rattle.grammar.specs.Records.{Hex}
use Rattle.grammar.specs.Numbers.{number_from, hex_of}
use Rattle.grammar.proofs.Digits.{last_reads}
use Rattle.grammar.proofs.Numerals.{length_last, by_digits, below_power}
use Rattle.grammar.proofs.Outcomes.{read_where}

-- the text has the width
pub hex_length : (w n : ℕ) → length (hex_text w n) ≡ w
unfolding hex_text
hex_length zero n = refl
hex_length (suc w) n = length_last (hex_text w (n / 16)) (hex_digit (n % 16)) ∙ ap suc (hex_length w (n / 16))

-- and the value
hex_value : (w n : ℕ) → Hex w n → number_from 16 0 (hex_text w n) ≡ Some n
unfolding hex_text number_from
hex_value zero n h = let is : n ≡ 0 = omega arith in rw is
hex_value (suc w) n h =
    last_reads 16 (omega arith) (omega arith) (hex_text w (n / 16)) n (hex_value w (n / 16) ((div-lt_iff_lt-mul (omega arith)).1 (rw pow-suc at h)))

-- the text of n spells n
pub hex_reads : (w n : ℕ) → Hex w n → hex_of w (hex_text w n) ≡ Some n
unfolding hex_of
hex_reads w n h = rw (eq-eqb (length (hex_text w n)) w (hex_length w n)) (hex_value w n h)

-- the digits of a numeral are those of its number
hex_digits : (f : List ℕ) (n : ℕ) → number_from 16 0 f ≡ Some n → f ≡ hex_text (length f) n
unfolding hex_text
hex_digits =
    by_digits 16 (omega arith) (omega arith) (λ f n. f ≡ hex_text (length f) n) refl
    (λ g n e. rw (length_last g (hex_digit (n % 16))) (ap (λ (l : List ℕ). l ++ hex_digit (n % 16) ∷ []) e))

-- and nothing else spells it
pub hex_only : (w : ℕ) (f : List ℕ) (n : ℕ) → hex_of w f ≡ Some n → (Hex w n) × (f ≡ hex_text w n) × (length f ≡ w) × (number_from 16 0 f ≡ Some n)
unfolding hex_of
hex_only w f n e =
    let (same, value) = read_where (eqb (length f) w) (number_from 16 0 f) n e in
    let width : length f ≡ w = eqb-true (length f) w same in
    (rw width at (below_power 16 (omega arith) (omega arith) f n value), rw width at (hex_digits f n value), width, value)
