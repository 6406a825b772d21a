-- What a reply says to a reader who knows document 01's 'Lines' alone: lines end at newlines, fields at tabs, and numbers are read by their digits.
use Rattle.std.specs.Prelude.{List, [], ◌∷◌, ℕ, eqb, Option, None, Some}
use Rattle.requests.specs.Choice.{pick}
use Rattle.grammar.specs.Text.{bytes, newline}
use Rattle.grammar.specs.Fields.{onto, fields, same_bytes_lem}
use Rattle.grammar.specs.Numbers.{decimal_of, hex_of}

-- a refusal as it is said: its number, and the field at fault
abbrev pub Refusing : Type 0
Refusing = ℕ × ℕ

-- what a line says: "`take` id counter register", "`set` address(4) value(16)", or the answer: "`ok`, or `no` and the number", with order 11's
-- "third field after the number"
pub data Said : Type 0 where
  Takes : (id counter : ℕ) (register : Option ℕ) → Said
  Sets : (address value : ℕ) → Said
  Answers : (refused : Option Refusing) → Said

-- what follows a number; nothing where there is none
abbrev pub with_number : {A : Type 0} → Option ℕ → (ℕ → Option A) → Option A
with_number (Some n) next = next n
with_number None next = None

-- "register (`-`, 0 or 1 ..)"
abbrev pub register_by : Option ℕ → List ℕ → Option (Option ℕ)
register_by (Some i) f = Some (Some i)
register_by None f = pick (same_bytes_lem f (bytes "-")) (Some None) None

-- what follows a register
abbrev pub with_register : {A : Type 0} → Option (Option ℕ) → (Option ℕ → Option A) → Option A
with_register (Some r) next = next r
with_register None next = None

-- what the three fields behind `take` say
unfoldable pub take_says : List ℕ → List ℕ → List ℕ → Option Said
take_says a b c =
    with_number (decimal_of a) (λ id.
    with_number (decimal_of b) (λ counter.
    with_register (register_by (decimal_of c) c) (λ register.
    Some (Takes id counter register))))

-- what the two behind `set` say
unfoldable pub set_says : List ℕ → List ℕ → Option Said
set_says a b =
    with_number (hex_of 4 a) (λ address.
    with_number (hex_of 16 b) (λ value.
    Some (Sets address value)))

-- what the two behind `no` say
unfoldable pub no_says : List ℕ → List ℕ → Option Said
no_says a b =
    with_number (decimal_of a) (λ number.
    with_number (decimal_of b) (λ field.
    Some (Answers (Some (number, field)))))

-- what the fields of a line say
unfoldable pub fields_say : List (List ℕ) → Option Said
fields_say [] = None
fields_say (verb ∷ []) = pick (same_bytes_lem verb (bytes "ok")) (Some (Answers None)) None
fields_say (verb ∷ a ∷ []) = None
fields_say (verb ∷ a ∷ b ∷ []) = pick (same_bytes_lem verb (bytes "set")) (set_says a b) (pick (same_bytes_lem verb (bytes "no")) (no_says a b) None)
fields_say (verb ∷ a ∷ b ∷ c ∷ []) = pick (same_bytes_lem verb (bytes "take")) (take_says a b c) None
fields_say (verb ∷ a ∷ b ∷ c ∷ d ∷ more) = None

-- the parts of a text between newlines, one more than it has newlines
unfoldable pub lines_of : List ℕ → List (List ℕ)
lines_of [] = [] ∷ []
lines_of (b ∷ bs) = pick (eqb b newline) ([] ∷ lines_of bs) (onto b (lines_of bs))

-- what stands behind the last newline says nothing more where it is empty; otherwise the last line is not closed
abbrev pub end_says : List ℕ → Option (List Said)
end_says [] = Some []
end_says (b ∷ bs) = None

-- a line, and those after it
abbrev pub said_before : Option Said → Option (List Said) → Option (List Said)
said_before (Some x) (Some xs) = Some (x ∷ xs)
said_before (Some x) None = None
said_before None xs = None

-- what lines say, the last of them what stands behind the last newline
unfoldable pub lines_say : List (List ℕ) → Option (List Said)
lines_say [] = None
lines_say (line ∷ []) = end_says line
lines_say (line ∷ next ∷ lines) = said_before (fields_say (fields line)) (lines_say (next ∷ lines))

-- what a reply says, line by line; none where a line says nothing, or is not closed
unfoldable pub reply_says : List ℕ → Option (List Said)
reply_says text = lines_say (lines_of text)
