-- A digit and its byte are one to one, and a numeral is its last digit behind the numeral of the others, in any base of at most 16. Assumes nothing.
use Rattle.std.specs.Prelude.{Option, None, Some}
use mathlib.Core.Path.{◌≡◌, refl, sym, ◌∙◌}
use mathlib.Core.Bool.{Bool, true, false}
use mathlib.Core.List.{List, [], ◌∷◌, ◌++◌}
use Prim.Native.Nat.{ℕ, ◌+◌, ◌*◌, ◌/◌, ◌%◌, ◌<◌, ◌≤◌}
use native.Mathlib.Nat.{mod-lt, mod-eq_of_lt, div-eq_of_lt, div-add-mod', mul-add-div_right, mul-add-mod_self_right, add-zero}
use native.Mathlib.Decide.{dec_lt}
use native.Mathlib.Omega.{arith}
use lib.Dec.{ltb, eqb}
use borrow.Author.Tests.{ltb-true, eqb-true, lt-ltb, le-ltb}
use Rattle.requests.specs.Choice.{pick, both, either, every}
use Rattle.requests.proofs.Tests.{every_at}
use Rattle.grammar.specs.Text.{hex_digit}
use Rattle.grammar.specs.Numbers.{digit_of, number_from}
use Rattle.grammar.proofs.Outcomes.{bad_not_value, read_where}

-- the byte of a digit has its value
pub digit_value : (d : ℕ) → d < 16 → digit_of (hex_digit d) ≡ d
unfolding digit_of hex_digit every both
digit_value d h = eqb-true (digit_of (hex_digit d)) d (every_at 16 (λ k. eqb (digit_of (hex_digit k)) k) refl d h)

-- a byte above F is no digit
above_digits : (b : ℕ) → 71 ≤ b → digit_of b ≡ 16
unfolding digit_of
above_digits b h = rw (le-ltb b 48 (omega arith), le-ltb b 58 (omega arith), le-ltb b 65 (omega arith), le-ltb b 71 h)

-- a byte that is a digit is that digit's byte
pub digit_byte : (b : ℕ) → digit_of b < 16 → b ≡ hex_digit (digit_of b)
unfolding digit_of hex_digit every both either
digit_byte b h = go (dec_lt b 71)
  where
    test : ℕ → Bool
    test k = either (eqb (digit_of k) 16) (eqb k (hex_digit (digit_of k)))

    told : (t u : Bool) → eqb (digit_of b) 16 ≡ t → eqb b (hex_digit (digit_of b)) ≡ u → either t u ≡ true → b ≡ hex_digit (digit_of b)
    told true u p q e = absurd (omega (arith, eqb-true (digit_of b) 16 p))
    told false u p q e = eqb-true b (hex_digit (digit_of b)) (q ∙ e)

    go : Dec (b < 71) → b ≡ hex_digit (digit_of b)
    go (yes below) = told (eqb (digit_of b) 16) (eqb b (hex_digit (digit_of b))) refl refl (every_at 71 test refl b below)
    go (no above) = absurd (omega (arith, above_digits b (omega arith)))

-- the number with one digit more
next_digit : ℕ → Option ℕ → ℕ → Option ℕ
next_digit base (Some n) d = pick (ltb d base) (Some (n * base + d)) None
next_digit base None d = None

-- the last digit is read last
read_last : (base n : ℕ) (f : List ℕ) (b : ℕ) → number_from base n (f ++ b ∷ []) ≡ next_digit base (number_from base n f) (digit_of b)
unfolding number_from next_digit
read_last base n [] b = refl
read_last base n (a ∷ f) b = go (ltb (digit_of a) base) (read_last base (n * base + digit_of a) f b)
  where
    further : ℕ
    further = n * base + digit_of a

    go : (t : Bool) → number_from base further (f ++ b ∷ []) ≡ next_digit base (number_from base further f) (digit_of b)
        → pick t (number_from base further (f ++ b ∷ [])) None ≡ next_digit base (pick t (number_from base further f) None) (digit_of b)
    go true ih = ih
    go false ih = refl

-- what was read before a last digit
before_last : (base : ℕ) (x : Option ℕ) (d n : ℕ) → next_digit base x d ≡ Some n → (m : ℕ) × (x ≡ Some m) × (d < base) × (n ≡ m * base + d)
unfolding next_digit
before_last base None d n e = absurd (bad_not_value n e)
before_last base (Some m) d n e =
    let (below, value) = read_where (ltb d base) (Some (m * base + d)) n e in
    (m, refl, ltb-true d base below, (cc))

-- a number is what its digits before the last make, and the last digit
split_last : (base m d n : ℕ) → d < base → n ≡ m * base + d → (n / base ≡ m) × (n % base ≡ d)
split_last base m d n below is = (
  rw (is, mul-add-div_right {m = base} (omega arith) m d, div-eq_of_lt below, add-zero m),
  rw (is, mul-add-mod_self_right m base d, mod-eq_of_lt below),
)

module _ (base : ℕ) (some : 0 < base) (most : base ≤ 16) (f : List ℕ) (n : ℕ) where
  -- the digits of n / base and that of n % base spell n
  pub last_reads : number_from base 0 f ≡ Some (n / base) → number_from base 0 (f ++ hex_digit (n % base) ∷ []) ≡ Some n
  unfolding next_digit
  last_reads e =
      let below : n % base < base = mod-lt n some in
      rw (read_last base 0 f (hex_digit (n % base)), e, digit_value (n % base) (omega arith), lt-ltb (n % base) base below, div-add-mod' n base)

  -- and only they
  pub last_only : (b : ℕ) → number_from base 0 (f ++ b ∷ []) ≡ Some n → (number_from base 0 f ≡ Some (n / base)) × (b ≡ hex_digit (n % base))
  last_only b e =
      let (m, read, below, is) = before_last base (number_from base 0 f) (digit_of b) n (sym (read_last base 0 f b) ∙ e) in
      let (front, end) = split_last base m (digit_of b) n below is in
      (rw front read, rw end (digit_byte b (omega arith)))
