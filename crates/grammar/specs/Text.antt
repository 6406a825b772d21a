-- Bytes: quoted texts, numbers, and lines of fields.
use Rattle.std.specs.Prelude.{List, [], ◌∷◌, ◌++◌, ℕ, zero, suc, ◌+◌, ◌/◌, ◌%◌, ltb}
use Prim.Native.Char.{code}
use Prim.Native.String.{String}
use Rattle.requests.specs.Choice.{pick}

-- the bytes of a quoted text (ASCII)
unfoldable pub bytes : String → List ℕ
bytes Prim.Native.String.[] = []
bytes (Prim.Native.String.◌∷◌ c rest) = code c ∷ bytes rest

-- the byte between two fields
unfoldable pub tab : ℕ
tab = 9

-- the byte that closes a line
unfoldable pub newline : ℕ
newline = 10

-- "Hex is upper case": the digit of a number below 16
unfoldable pub hex_digit : ℕ → ℕ
hex_digit d = pick (ltb d 10) (d + 48) (d + 55)

-- the last w hex digits of n
unfoldable pub hex_text : ℕ → ℕ → List ℕ
hex_text zero n = []
hex_text (suc w) n = hex_text w (n / 16) ++ hex_digit (n % 16) ∷ []

-- n in decimal with no leading zero, where f digits are enough
unfoldable pub decimal_digits : ℕ → ℕ → List ℕ
decimal_digits zero n = []
decimal_digits (suc f) n = pick (ltb n 10) [] (decimal_digits f (n / 10)) ++ (n % 10 + 48) ∷ []

-- a number of 64 bits in decimal: at most 20 digits
unfoldable pub decimal_text : ℕ → List ℕ
decimal_text n = decimal_digits 20 n

-- "fields parted by one tab, closed by a newline"
unfoldable pub line_of : List (List ℕ) → List ℕ
line_of [] = newline ∷ []
line_of (f ∷ []) = f ++ newline ∷ []
line_of (f ∷ g ∷ fs) = f ++ tab ∷ line_of (g ∷ fs)
