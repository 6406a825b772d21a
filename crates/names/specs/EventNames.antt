-- Document 02, order 9: "Names are 1 to 40 bytes of upper-case letters, digits and underscore".
use Rattle.std.specs.Prelude.{Bool, true, false, ℕ, ◌≤◌, length, ltb, eqb}
use mathlib.Core.List.{List, [], ◌∷◌, Memᴰ}
use Rattle.requests.specs.Choice.{both, pick}
use Rattle.grammar.specs.Text.{bytes}

-- an upper-case letter, a digit or an underscore
unfoldable pub name_byte : ℕ → Bool
name_byte b =
    pick (ltb b 48) false
    (pick (ltb b 58) true
    (pick (ltb b 65) false
    (pick (ltb b 91) true
    (eqb b 95))))

-- all bytes are such
unfoldable pub name_bytes : List ℕ → Bool
name_bytes [] = true
name_bytes (b ∷ bs) = both (name_byte b) (name_bytes bs)

-- the most bytes of a name
unfoldable pub longest_name : ℕ
longest_name = 40

-- whether a field is a name
unfoldable pub is_name : List ℕ → Bool
is_name f = pick (eqb (length f) 0) false (pick (ltb longest_name (length f)) false (name_bytes f))

-- "upper-case letters, digits and underscore"
abbrev pub NameByte : ℕ → Type 0
NameByte b = Memᴰ b (bytes "ABCDEFGHIJKLMNOPQRSTUVWXYZ0123456789_")

-- "1 to 40 bytes" of these
pub record IsName (name : List ℕ) : Type 0 where
  pub some_byte : 1 ≤ length name
  pub at_most_40 : length name ≤ 40
  pub name_bytes_lem : (b : ℕ) → Memᴰ b name → NameByte b
