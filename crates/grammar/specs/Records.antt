-- Document 01, 'Lines': the records, and the text of each.
use Rattle.std.specs.Prelude.{List, [], ◌∷◌, ◌++◌, ℕ, ◌^◌, ◌<◌, Option, None, Some}
use Rattle.requests.specs.declared.Device.{Device}
use Rattle.requests.specs.declared.Device.TheVariants.{G, S, C, B}
use Rattle.requests.specs.declared.Overflow.{Overflow}
use Rattle.requests.specs.declared.Setup.{Setup}
use Rattle.requests.specs.declared.Request.{Request}
use Rattle.requests.specs.declared.Request.TheVariants.{Event, Packet, Offcore, Latency}
use Rattle.requests.specs.Devices.{letter_of, box_of}
use Rattle.grammar.specs.Text.{bytes, hex_text, decimal_text, line_of}
use Rattle.grammar.specs.declared.Record.{Record}
use Rattle.grammar.specs.declared.Record.TheVariants.{Open, Add, Drop, Turn}

-- the fields of a record that adds a request
unfoldable pub add_fields : ℕ → Request → List (List ℕ)
add_fields id (Event c m a) = bytes "event" ∷ decimal_text id ∷ hex_text 2 c ∷ hex_text 2 m ∷ decimal_text a.0 ∷ []
add_fields id (Packet x y a) = bytes "packet" ∷ decimal_text id ∷ hex_text 16 x ∷ hex_text 16 y ∷ decimal_text a.0 ∷ []
add_fields id (Offcore w a) = bytes "offcore" ∷ decimal_text id ∷ hex_text 16 w ∷ decimal_text a.0 ∷ []
add_fields id (Latency t a b) = bytes "latency" ∷ decimal_text id ∷ hex_text 4 t ∷ decimal_text a.0 ∷ decimal_text b.0 ∷ []

-- "C's `open` line has the box as a fifth field"
unfoldable pub box_fields : Device → List (List ℕ)
box_fields G = []
box_fields S = []
box_fields (C b) = decimal_text b ∷ []
box_fields B = []

-- "core or `-` for none"
unfoldable pub core_text : Option ℕ → List ℕ
core_text None = bytes "-"
core_text (Some c) = decimal_text c

-- what an overflow does, "in two last fields of every `open` line"
unfoldable pub overflow_fields : Overflow → List (List ℕ)
overflow_fields a = decimal_text a.freeze ∷ core_text a.core ∷ []

-- the fields of a record that opens
unfoldable pub open_fields : Setup → List (List ℕ)
open_fields s =
    bytes "open"
    ∷ (letter_of s.device ∷ [])
    ∷ decimal_text s.usable.0
    ∷ decimal_text s.fixed
    ∷ box_fields s.device ++ overflow_fields s.overflow

-- the fields of a record
unfoldable pub record_fields : Record → List (List ℕ)
record_fields (Open s) = open_fields s
record_fields (Add id r) = add_fields id r
record_fields (Drop id) = bytes "drop" ∷ decimal_text id ∷ []
record_fields Turn = bytes "turn" ∷ []

-- its text
unfoldable pub record_text : Record → List ℕ
record_text r = line_of (record_fields r)

-- "at most 5 digits"
abbrev pub Decimal : ℕ → Type 0
Decimal n = n < 10 ^ 5

-- hex "of the exact width"
abbrev pub Hex : ℕ → ℕ → Type 0
Hex w n = n < 16 ^ w

-- the numbers of a record that adds a request fit their fields
abbrev pub AddFits : ℕ → Request → Type 0
AddFits id (Event c m a) = Decimal id × Hex 2 c × Hex 2 m × Decimal a.0
AddFits id (Packet x y a) = Decimal id × Hex 16 x × Hex 16 y × Decimal a.0
AddFits id (Offcore w a) = Decimal id × Hex 16 w × Decimal a.0
AddFits id (Latency t a b) = Decimal id × Hex 4 t × Decimal a.0 × Decimal b.0

-- a core that is given is a decimal
abbrev pub CoreFits : Option ℕ → Type 0
CoreFits None = Unit {0}
CoreFits (Some c) = Decimal c

-- the numbers of a record that opens fit their fields
abbrev pub OpenFits : Setup → Type 0
OpenFits s = Decimal s.usable.0 × Decimal s.fixed × Decimal (box_of s.device) × Decimal s.overflow.freeze × CoreFits s.overflow.core

-- the numbers of a record fit their fields
abbrev pub Fits : Record → Type 0
Fits (Open s) = OpenFits s
Fits (Add id r) = AddFits id r
Fits (Drop id) = Decimal id
Fits Turn = Unit {0}
