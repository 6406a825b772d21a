-- Document 02, order 9: "name, device letter, code(2), mask(2)". What the text of a row is, without its newline.
use Rattle.std.specs.Prelude.{Bool, true, false, List, ℕ, length, eqb, Option, None, Some}
use Rattle.requests.specs.declared.Device.{Device}
use Rattle.requests.specs.Choice.{both, pick}
use Rattle.grammar.specs.Fields.{fields, field_at, same_bytes_lem}
use Rattle.grammar.specs.Letters.{lettered}
use Rattle.grammar.specs.Numbers.{hex_of}
use Rattle.names.specs.EventNames.{is_name}
use Rattle.names.specs.declared.Row.{Row}

-- what follows a device
abbrev pub with_device : Option Device → (Device → Option Row) → Option Row
with_device (Some d) next = next d
with_device None next = None

-- what follows a number
abbrev pub with_number : Option ℕ → (ℕ → Option Row) → Option Row
with_number (Some n) next = next n
with_number None next = None

-- what a row for a device says
unfoldable pub numbers_on : List ℕ → Device → Option Row
numbers_on t device =
    with_number (hex_of 2 (field_at t 2)) (λ code.
    with_number (hex_of 2 (field_at t 3)) (λ mask.
    Some (record { device = device; code = code; mask = mask })))

-- what a row is: four fields, the first a name, the second a letter that `open` knows
unfoldable pub row_of : List ℕ → Option Row
row_of t = pick (both (eqb (length (fields t)) 4) (is_name (field_at t 0))) (with_device (lettered (field_at t 1)) (numbers_on t)) None

-- whether it is one
abbrev pub is_formed : Option Row → Bool
is_formed (Some r) = true
is_formed None = false

-- whether a row has the name, "compared byte for byte"
unfoldable pub has_name : List ℕ → List ℕ → Bool
has_name name t = same_bytes_lem (field_at t 0) name
