-- Document 01, 'Lines': what number a field spells.
use Rattle.std.specs.Prelude.{Bool, List, [], ◌∷◌, ℕ, zero, suc, ◌+◌, ◌*◌, ◌-◌, length, get_or, ltb, eqb, Option, None, Some}
use Rattle.requests.specs.Choice.{both, pick}
use Rattle.grammar.specs.Text.{bytes}
use Rattle.grammar.specs.Fields.{same_bytes_lem}

-- the value of a digit 0 to 9 or A to F, and 16 for any other byte
unfoldable pub digit_of : ℕ → ℕ
digit_of b =
    pick (ltb b 48) 16
    (pick (ltb b 58) (b - 48)
    (pick (ltb b 65) 16
    (pick (ltb b 71) (b - 55) 16)))

-- the number that digits spell after those that gave n
unfoldable pub number_from : ℕ → ℕ → List ℕ → Option ℕ
number_from base n [] = Some n
number_from base n (b ∷ bs) = pick (ltb (digit_of b) base) (number_from base (n * base + digit_of b) bs) None

-- a 0 before another digit
abbrev pub leading_zero : List ℕ → Bool
leading_zero f = both (ltb 1 (length f)) (eqb (get_or f 0 0) 48)

-- "Decimals have no leading zero (0 itself is fine) and at most 5 digits."
unfoldable pub decimal_of : List ℕ → Option ℕ
decimal_of f =
    pick (eqb (length f) 0) None
    (pick (ltb 5 (length f)) None
    (pick (leading_zero f) None
    (number_from 10 0 f)))

-- "Hex is upper case of the exact width shown."
unfoldable pub hex_of : ℕ → List ℕ → Option ℕ
hex_of w f = pick (eqb (length f) w) (number_from 16 0 f) None

-- one more, where a number is read
abbrev pub one_more_lem : Option ℕ → Option ℕ
one_more_lem (Some n) = Some (n + 1)
one_more_lem None = None

-- "core or `-` for none", as a number: 0 for `-`, and one more than a decimal
unfoldable pub core_number_of : List ℕ → Option ℕ
core_number_of f = pick (same_bytes_lem f (bytes "-")) (Some 0) (one_more_lem (decimal_of f))

-- the core that the number stands for
unfoldable pub core_of : ℕ → Option ℕ
core_of zero = None
core_of (suc c) = Some c

-- the format of a decimal; that of hex is how many digits it has, 1 to 16
abbrev pub decimal_format : ℕ
decimal_format = 0

-- the format of a core
abbrev pub core_format : ℕ
core_format = 17

-- the number of a format
abbrev pub number_of : ℕ → List ℕ → Option ℕ
number_of w f = pick (eqb w decimal_format) (decimal_of f) (pick (eqb w core_format) (core_number_of f) (hex_of w f))
