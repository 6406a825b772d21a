-- Document 01, 'Lines': the record of each verb. Fields are read from the left; a missing field counts as an empty one.
use Rattle.std.specs.Prelude.{Bool, List, [], ◌∷◌, ℕ, ◌+◌, length, get_or, set, eqb, Option, None, Some, Ok, Err}
use Prim.Native.String.{String}
use Rattle.requests.specs.declared.Device.{Device}
use Rattle.requests.specs.declared.Device.TheVariants.{G, S, C, B}
use Rattle.requests.specs.declared.CounterSet.{CounterSet}
use Rattle.requests.specs.declared.Request.TheVariants.{Event, Packet, Offcore, Latency}
use Rattle.requests.specs.Choice.{both, pick, Row, first_holding}
use Rattle.grammar.specs.Text.{bytes}
use Rattle.grammar.specs.Fields.{fields, field_at, same_bytes_lem}
use Rattle.grammar.specs.Letters.{lettered}
use Rattle.grammar.specs.Numbers.{decimal_of, hex_of, core_of, decimal_format, core_format, number_of}
use Rattle.grammar.specs.declared.Record.{Record}
use Rattle.grammar.specs.declared.Record.TheVariants.{Open, Add, Drop, Turn}
use Rattle.grammar.specs.Parsed.{Parsed}
use Rattle.grammar.specs.declared.Line.{Line}

-- what follows a number, or the field at fault
abbrev pub with_number : Option ℕ → ℕ → (ℕ → Parsed) → Parsed
with_number (Some n) k next = next n
with_number None k next = Err k

-- whether a text has n fields in all, and is closed by a newline
abbrev pub is_whole : List ℕ → Bool → ℕ → Bool
is_whole text closed n = both closed (eqb (length (fields text)) n)

-- a record of n fields in all, closed by a newline
abbrev pub ended : List ℕ → Bool → ℕ → Record → Parsed
ended text closed n r = pick (is_whole text closed n) (Ok (Line.Record r)) (Err n)

-- a set that is given as a number
abbrev pub set_of : ℕ → CounterSet
set_of n = record { 0 = n }

-- a record that is made of up to five numbers
abbrev pub Made : Type 0
Made = ℕ → ℕ → ℕ → ℕ → ℕ → Record

-- the record that is made of i numbers and those of the fields after them, or the field at fault; the first number stands in field `first`
unfoldable pub line_from : List ℕ → List ℕ → Bool → ℕ → ℕ → List ℕ → Made → Parsed
line_from [] t closed first i values made =
    ended t closed (first + i) (made (get_or values 0 0) (get_or values 1 0) (get_or values 2 0) (get_or values 3 0) (get_or values 4 0))
line_from (w ∷ ws) t closed first i values made =
    with_number (number_of w (field_at t (first + i))) (first + i) (λ n. line_from ws t closed first (i + 1) (set values i n) made)

-- the record that is made of fields of these formats from field `first` on, 0 for numbers that they are too few for
abbrev pub number_line : ℕ → List ℕ → List ℕ → Bool → Made → Parsed
number_line first formats t closed made = line_from formats t closed first 0 (0 ∷ 0 ∷ 0 ∷ 0 ∷ 0 ∷ []) made

-- what follows a device, or the field at fault
abbrev pub with_device : Option Device → ℕ → (Device → Parsed) → Parsed
with_device (Some d) k next = next d
with_device None k next = Err k

-- the formats of the fields behind a device's letter: usable, fixed, the box on C, freeze and core
unfoldable pub open_formats : Device → List ℕ
open_formats G = decimal_format ∷ decimal_format ∷ decimal_format ∷ core_format ∷ []
open_formats S = decimal_format ∷ decimal_format ∷ decimal_format ∷ core_format ∷ []
open_formats (C b) = decimal_format ∷ decimal_format ∷ decimal_format ∷ decimal_format ∷ core_format ∷ []
open_formats B = decimal_format ∷ decimal_format ∷ decimal_format ∷ core_format ∷ []

-- the record that opens a device with these numbers
unfoldable pub open_as : Device → ℕ → ℕ → ℕ → ℕ → Record
open_as d usable fixed freeze core = Open (record { device = d; usable = set_of usable; fixed = fixed; overflow = record { freeze = freeze; core = core_of core } })

-- the record that a device and the numbers behind its letter make
unfoldable pub open_with : Device → Made
open_with G usable fixed freeze core absent = open_as G usable fixed freeze core
open_with S usable fixed freeze core absent = open_as S usable fixed freeze core
open_with (C b) usable fixed box freeze core = open_as (C box) usable fixed freeze core
open_with B usable fixed freeze core absent = open_as B usable fixed freeze core

-- `open` with a device that is known
unfoldable pub open_on : List ℕ → Bool → Device → Parsed
open_on t closed d = number_line 2 (open_formats d) t closed (open_with d)

-- `open` letter usable fixed, box on C, freeze core
unfoldable pub open_line : List ℕ → Bool → Parsed
open_line t closed = with_device (lettered (field_at t 1)) 1 (open_on t closed)

-- `event` id code(2) mask(2) allowed
unfoldable pub event_line : List ℕ → Bool → Parsed
event_line t closed =
    with_number (decimal_of (field_at t 1)) 1 (λ id.
    with_number (hex_of 2 (field_at t 2)) 2 (λ code.
    with_number (hex_of 2 (field_at t 3)) 3 (λ mask.
    with_number (decimal_of (field_at t 4)) 4 (λ allowed.
    ended t closed 5 (Add id (Event code mask (set_of allowed)))))))

-- `packet` id match(16) mask(16) allowed
unfoldable pub packet_line : List ℕ → Bool → Parsed
packet_line t closed =
    with_number (decimal_of (field_at t 1)) 1 (λ id.
    with_number (hex_of 16 (field_at t 2)) 2 (λ value.
    with_number (hex_of 16 (field_at t 3)) 3 (λ mask.
    with_number (decimal_of (field_at t 4)) 4 (λ allowed.
    ended t closed 5 (Add id (Packet value mask (set_of allowed)))))))

-- `offcore` id word(16) allowed
unfoldable pub offcore_line : List ℕ → Bool → Parsed
offcore_line t closed =
    with_number (decimal_of (field_at t 1)) 1 (λ id.
    with_number (hex_of 16 (field_at t 2)) 2 (λ word.
    with_number (decimal_of (field_at t 3)) 3 (λ allowed.
    ended t closed 4 (Add id (Offcore word (set_of allowed))))))

-- `latency` id type(4) first second
unfoldable pub latency_line : List ℕ → Bool → Parsed
latency_line t closed =
    with_number (decimal_of (field_at t 1)) 1 (λ id.
    with_number (hex_of 4 (field_at t 2)) 2 (λ types.
    with_number (decimal_of (field_at t 3)) 3 (λ first.
    with_number (decimal_of (field_at t 4)) 4 (λ second.
    ended t closed 5 (Add id (Latency types (set_of first) (set_of second)))))))

-- `drop` id
unfoldable pub drop_line : List ℕ → Bool → Parsed
drop_line t closed = with_number (decimal_of (field_at t 1)) 1 (λ id. ended t closed 2 (Drop id))

-- `turn`
unfoldable pub turn_line : List ℕ → Bool → Parsed
turn_line t closed = ended t closed 1 Turn

-- whether the first field is the verb
unfoldable pub has_verb : List ℕ → String → Bool
has_verb t verb = same_bytes_lem (field_at t 0) (bytes verb)

-- the verbs, each with how the text is read
unfoldable pub verbs : List ℕ → List (Row (List ℕ → Bool → Parsed))
verbs t =
    (has_verb t "open", open_line)
    ∷ (has_verb t "event", event_line)
    ∷ (has_verb t "packet", packet_line)
    ∷ (has_verb t "offcore", offcore_line)
    ∷ (has_verb t "latency", latency_line)
    ∷ (has_verb t "drop", drop_line)
    ∷ (has_verb t "turn", turn_line)
    ∷ []

-- the record of a text that is closed by a newline, or not
unfoldable pub record_of : List ℕ → Bool → Parsed
record_of t closed = elim (first_holding (verbs t)) [ None ↦ Err 0 | Some read ↦ read t closed ]
