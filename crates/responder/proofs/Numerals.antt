-- Laws of numbers as text: the last digit, and what stands in front of it.
-- Assumes nothing.
use mathlib.Core.Path.{◌≡◌, refl, ap, sym, ◌∙◌}
use mathlib.Core.Bool.{true}
use mathlib.Core.List.{List, [], ◌∷◌, ◌++◌}
use Prim.Native.Nat.{ℕ, zero, suc, ◌+◌, ◌/◌, ◌%◌, ◌^◌, ◌<◌, ◌≤◌}
use native.Mathlib.Numerals.{add-one}
use native.Mathlib.Nat.{pow-suc}
use native.Mathlib.Omega.{arith}
use lib.Dec.{ltb, eqb}
use lib.ListN.{length, get_or, length-append}
use borrow.Author.Tests.{lt-ltb, le-ltb, eqb-true}
use Rattle.requests.specs.Choice.{pick, both, every}
use Rattle.requests.proofs.Tests.{every_at}
use Rattle.grammar.specs.Text.{bytes, hex_digit, hex_text, decimal_digits, decimal_text}

-- ---- hex

-- the digits in their order
abbrev digits : List ℕ
digits = bytes "0123456789ABCDEF"

digits_listed : every 16 (λ d. eqb (get_or digits d 0) (hex_digit d)) ≡ true
unfolding every both hex_digit bytes
digits_listed = refl

pub digit_at : (d : ℕ) → d < 16 → get_or digits d 0 ≡ hex_digit d
digit_at d h = eqb-true (get_or digits d 0) (hex_digit d) (every_at 16 (λ d. eqb (get_or digits d 0) (hex_digit d)) digits_listed d h)

-- the digits in front of the last are those of the sixteenth part
pub hex_next : (i n : ℕ) → hex_text (i + 1) n ≡ hex_text i (n / 16) ++ hex_digit (n % 16) ∷ []
unfolding hex_text
hex_next i n = rw add-one

-- in front of the digits of a number stand zeros
pub hex_zeros : (w n : ℕ) → n < 16 ^ w → hex_text (8 + w) n ≡ bytes "00000000" ++ hex_text w n
unfolding hex_text hex_digit bytes
hex_zeros zero n h = let e : n ≡ 0 = omega arith in rw e
hex_zeros (suc w) n h =
    let e : 8 + suc w ≡ suc (8 + w) = omega arith in
    rw e (ap (λ (x : List ℕ). x ++ hex_digit (n % 16) ∷ []) (hex_zeros w (n / 16) (omega (arith, pow-suc 16 w))))

-- ---- decimal

-- one digit is enough for a number below 10
pub decimal_few : (n : ℕ) → n < 10 → decimal_text n ≡ (n + 48) ∷ []
unfolding decimal_text decimal_digits
decimal_few n h = let e : n % 10 ≡ n = omega arith in rw (lt-ltb n 10 h, e)

-- a digit more than is enough changes nothing
enough : (f n : ℕ) → n < 10 ^ suc f → decimal_digits (suc (suc f)) n ≡ decimal_digits (suc f) n
unfolding decimal_digits
enough zero n h = rw (lt-ltb n 10 h)
enough (suc f) n h =
    ap (λ (x : List ℕ). pick (ltb n 10) [] x ++ (n % 10 + 48) ∷ []) (enough f (n / 10) (omega (arith, pow-suc 10 (suc f))))

-- the digits in front of the last, where one fewer is enough for them ..
decimal_cut : (n : ℕ) → 10 ≤ n → decimal_text n ≡ decimal_digits 19 (n / 10) ++ (n % 10 + 48) ∷ []
unfolding decimal_text decimal_digits
decimal_cut n h = rw (le-ltb n 10 h)

-- .. are those of the tenth part
pub decimal_more : (n : ℕ) → 10 ≤ n → n < 2 ^ 64 → decimal_text n ≡ decimal_text (n / 10) ++ (n % 10 + 48) ∷ []
unfolding decimal_text
decimal_more n h k = decimal_cut n h ∙ ap (λ (x : List ℕ). x ++ (n % 10 + 48) ∷ []) (sym (enough 18 (n / 10) (omega arith)))

-- there is a digit
pub decimal_some : (n : ℕ) → n < 2 ^ 64 → 1 ≤ length (decimal_text n)
unfolding decimal_text decimal_digits
decimal_some n h = simp length-append (omega arith)
