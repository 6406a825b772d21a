-- A field spells n in decimal exactly when it is the text of n and n has at most 5 digits. Assumes nothing.
use Rattle.std.specs.Prelude.{None, Some}
use mathlib.Core.Path.{◌≡◌, refl, ap, sym, ◌∙◌}
use mathlib.Core.Bool.{Bool, true, false}
use mathlib.Core.List.{List, [], ◌∷◌, ◌++◌}
use Prim.Native.Nat.{ℕ, zero, suc, ◌+◌, ◌/◌, ◌%◌, ◌^◌, ◌<◌, ◌≤◌}
use native.Mathlib.Nat.{div-lt_iff_lt-mul, pow-suc, pow-le-pow_right}
use native.Mathlib.Omega.{arith}
use lib.Dec.{ltb, eqb}
use lib.ListN.{length, get_or, get_or-append}
use borrow.Author.Tests.{lt-ltb, le-ltb, ne_eqb, ltb-true, ltb-false, eqb-false}
use Rattle.requests.specs.Choice.{pick, both}
use Rattle.requests.proofs.Tests.{both_false}
use Rattle.grammar.specs.Text.{hex_digit, decimal_digits, decimal_text}
use Rattle.grammar.specs.Records.{Decimal}
use Rattle.grammar.specs.Numbers.{number_from, leading_zero, decimal_of}
use Rattle.grammar.proofs.Digits.{last_reads}
use Rattle.grammar.proofs.Numerals.{length_last, by_digits, below_power}
use Rattle.grammar.proofs.Outcomes.{read_unless}

-- a digit below 10 is its value past that of 0
decimal_digit : (n : ℕ) → hex_digit (n % 10) ≡ n % 10 + 48
unfolding hex_digit
decimal_digit n = rw (lt-ltb (n % 10) 10 (omega arith))

-- the digits of n: they spell it, are no more than it needs, and begin with 0 only where it is 0
record Spells (f : List ℕ) (n : ℕ) : Type 0 where
  value : number_from 10 0 f ≡ Some n
  present : 0 < length f
  first : 0 < n → ¬ (get_or f 0 0 ≡ 48)
  short : (w : ℕ) → n < 10 ^ suc w → length f ≤ suc w

-- a number below 10
one_digit : (n : ℕ) → n < 10 → Spells ((n % 10 + 48) ∷ []) n
unfolding number_from
one_digit n h = record {
  value = rw (decimal_digit n) at (last_reads 10 (omega arith) (omega arith) [] n (ap Some (omega arith)));
  present = omega arith;
  first = λ some is. omega arith;
  short = λ w fits. omega arith;
}

-- any other number
more_digits : (g : List ℕ) (n : ℕ) → 10 ≤ n → Spells g (n / 10) → Spells (g ++ (n % 10 + 48) ∷ []) n
more_digits g n h s =
    record {
      value = rw (decimal_digit n) at (last_reads 10 (omega arith) (omega arith) g n s.value);
      present = omega (arith, longer);
      first = λ some is. s.first (omega arith) (sym (get_or-append g ((n % 10 + 48) ∷ []) 0 0 s.present) ∙ is);
      short = shorter;
    }
  where
    longer : length (g ++ (n % 10 + 48) ∷ []) ≡ suc (length g)
    longer = length_last g (n % 10 + 48)

    shorter : (w : ℕ) → n < 10 ^ suc w → length (g ++ (n % 10 + 48) ∷ []) ≤ suc w
    shorter zero fits = absurd (omega arith)
    shorter (suc w) fits = omega (arith, longer, s.short w ((div-lt_iff_lt-mul {k = 10} (omega arith)).1 (rw pow-suc at fits)))

-- enough places hold every digit
spelled : (k n : ℕ) → n < 10 ^ suc k → Spells (decimal_digits (suc k) n) n
unfolding decimal_digits
spelled zero n h = rw (lt-ltb n 10 (omega arith)) (one_digit n (omega arith))
spelled (suc k) n h = go (ltb n 10) refl (spelled k (n / 10) ((div-lt_iff_lt-mul {k = 10} (omega arith)).1 (rw pow-suc at h)))
  where
    go : (t : Bool) → ltb n 10 ≡ t → Spells (decimal_digits (suc k) (n / 10)) (n / 10)
        → Spells (pick t [] (decimal_digits (suc k) (n / 10)) ++ (n % 10 + 48) ∷ []) n
    go true p s = one_digit n (ltb-true n 10 p)
    go false p s = more_digits (decimal_digits (suc k) (n / 10)) n (ltb-false n 10 p) s

-- they begin with 0 only where it is the one digit
no_leading_zero : (f : List ℕ) (n : ℕ) → Spells f n → leading_zero f ≡ false
unfolding both
no_leading_zero f zero s = rw (le-ltb 1 (length f) (s.short 0 (omega arith)))
no_leading_zero f (suc n) s = rw (ne_eqb (get_or f 0 0) 48 (s.first (omega arith)), both_false)

-- the text of n spells n
pub decimal_reads : (n : ℕ) → Decimal n → decimal_of (decimal_text n) ≡ Some n
unfolding decimal_of decimal_text
decimal_reads n h = go (decimal_digits 20 n) (spelled 19 n (omega arith))
  where
    go : (f : List ℕ) → Spells f n → pick (eqb (length f) 0) None (pick (ltb 5 (length f)) None (pick (leading_zero f) None (number_from 10 0 f))) ≡ Some n
    go f s =
        rw (ne_eqb (length f) 0 (λ e. omega (arith, s.present)), le-ltb 5 (length f) (s.short 4 h), no_leading_zero f n s) s.value

-- a numeral without a leading zero is the digits of its number, which is 0 only where the numeral begins with 0 or has no digit
Canonical : List ℕ → ℕ → Type 0
Canonical [] n = n ≡ 0
Canonical (b ∷ f) n = (¬ (b ≡ 48) → 0 < n) × ((0 < length f → ¬ (b ≡ 48)) → (k : ℕ) → length f < k → b ∷ f ≡ decimal_digits k n)

-- one digit more
more : (g : List ℕ) (n : ℕ) → Canonical g (n / 10) → Canonical (g ++ hex_digit (n % 10) ∷ []) n
unfolding Canonical decimal_digits hex_digit
more [] n e = rw (decimal_digit n) ((λ d. omega arith), λ d. last)
  where
    last : (k : ℕ) → 0 < k → (n % 10 + 48) ∷ [] ≡ decimal_digits k n
    last zero h = absurd (omega arith)
    last (suc k) h = rw (lt-ltb n 10 (omega arith))
more (b ∷ g) n (some, same) = ((λ d. omega (arith, some d)), λ lead. last (some (lead longer)) (same (λ l. lead longer)))
  where
    longer : 0 < length (g ++ hex_digit (n % 10) ∷ [])
    longer = omega (arith, length_last g (hex_digit (n % 10)))

    last : 0 < n / 10 → ((k : ℕ) → length g < k → b ∷ g ≡ decimal_digits k (n / 10)) → (k : ℕ) → length (g ++ hex_digit (n % 10) ∷ []) < k
        → b ∷ g ++ hex_digit (n % 10) ∷ [] ≡ decimal_digits k n
    last p q zero h = absurd (omega arith)
    last p q (suc k) h = rw (le-ltb n 10 (omega arith), decimal_digit n, ← q k (omega (arith, length_last g (hex_digit (n % 10)))))

-- a first digit other than 0, where more follow
leads : (b : ℕ) (f : List ℕ) → leading_zero (b ∷ f) ≡ false → 0 < length f → ¬ (b ≡ 48)
unfolding both
leads b f e h = eqb-false b 48 (rw (lt-ltb 1 (suc (length f)) (omega arith)) at e)

-- the numeral is the text of its number
numeral_text : (f : List ℕ) (n : ℕ) → ¬ (length f ≡ 0) → length f ≤ 5 → leading_zero f ≡ false → Canonical f n → f ≡ decimal_digits 20 n
unfolding Canonical
numeral_text [] n some short lead d = absurd (some refl)
numeral_text (b ∷ f) n some short lead d = d.1 (leads b f lead) 20 (omega arith)

-- and nothing else spells it
pub decimal_only : (f : List ℕ) (n : ℕ) → decimal_of f ≡ Some n → (Decimal n) × (f ≡ decimal_text n) × (length f ≤ 5) × (number_from 10 0 f ≡ Some n)
unfolding decimal_of decimal_text Canonical
decimal_only f n e =
    let (present, e₁) = read_unless (eqb (length f) 0) _ n e in
    let (narrow, e₂) = read_unless (ltb 5 (length f)) _ n e₁ in
    let (lead, value) = read_unless (leading_zero f) _ n e₂ in
    let short : length f ≤ 5 = ltb-false 5 (length f) narrow in
    let digits : Canonical f n = by_digits 10 (omega arith) (omega arith) Canonical refl more f n value in
    let bound : 10 ^ length f ≤ 10 ^ 5 = pow-le-pow_right {n = 10} (omega arith) {i = length f} {j = 5} short in (
      omega (arith, below_power 10 (omega arith) (omega arith) f n value),
      numeral_text f n (eqb-false (length f) 0 present) short lead digits,
      short,
      value,
    )
