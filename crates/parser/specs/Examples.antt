-- Document 02, order 9: requests by name in the grammar and beside it, and what each asks for.
use Rattle.std.specs.Prelude.{◌≡◌, List, [], ◌∷◌, ◌++◌, map, ℕ, Ok, Err}
use Prim.Native.String.{String}
use Rattle.requests.specs.declared.CounterSet.{CounterSet}
use Rattle.requests.specs.declared.Device.{Device}
use Rattle.requests.specs.declared.Device.TheVariants.{G, S, C, B}
use Rattle.requests.specs.declared.Request.TheVariants.{Event, Packet, Offcore}
use Rattle.grammar.specs.Text.{newline}
use Rattle.grammar.specs.Examples.{tabbed, typed}
use Rattle.grammar.specs.declared.Record.TheVariants.{Add, Turn}
use Rattle.grammar.specs.Parsed.{Parsed}
use Rattle.grammar.specs.declared.Line.{Line}
use Rattle.names.specs.Lists.{NameLists}
use Rattle.parser.specs.ParseWith.{parse_line_with}

abbrev set : ℕ → CounterSet
set n = record { 0 = n }

-- two lists, a device, a line, and what it asks for
pub record Example : Type 0 where
  pub lists : NameLists
  pub device : Device
  pub line : String
  pub parsed : Parsed

-- the lists of the order's page
abbrev good : NameLists
good = record {
  site = typed ("CYCLES G 3C 00" ∷ "STARVE C 0B 18" ∷ "CYCLES S 52 00" ∷ []);
  house = typed ("CYCLES S 52 00" ∷ "INSTR G C0 00" ∷ "ODD G C0 05" ∷ "STORES B CD 02" ∷ []);
}

-- a row of the house's that is not closed
abbrev house_damaged : NameLists
house_damaged = record { site = typed ("CYCLES G 3C 00" ∷ []); house = tabbed "INSTR G C0 00" }

-- a second row of the site's that is none
abbrev site_damaged : NameLists
site_damaged = record { site = typed ("CYCLES G 3C 00" ∷ "X Q 00 00" ∷ []); house = typed ("INSTR G C0 00" ∷ []) }

-- a line with good lists, and one with either damaged
abbrev on : Device → String → Parsed → Example
on d line p = record { lists = good; device = d; line = line; parsed = p }

abbrev site_off : String → Parsed → Example
site_off line p = record { lists = site_damaged; device = G; line = line; parsed = p }

abbrev house_off : String → Parsed → Example
house_off line p = record { lists = house_damaged; device = G; line = line; parsed = p }

abbrev pub examples : List Example
examples =
    on G "named 1 CYCLES 15" (Ok (Line.Named 1 (Event 0x3C 0x00 (set 15))))
    ∷ on G "named 2 INSTR 1" (Ok (Line.Named 2 (Event 0xC0 0x00 (set 1))))
    ∷ on G "named 3 ODD 15" (Ok (Line.Named 3 (Event 0xC0 0x05 (set 15))))
    ∷ on B "named 4 STORES 8" (Ok (Line.Named 4 (Event 0xCD 0x02 (set 8))))
    -- rows of other devices: packets on G, C and B, offcore on S, which they do not have
    ∷ on G "named 3 STARVE 15" (Ok (Line.Named 3 (Packet 0 0 (set 15))))
    ∷ on S "named 1 CYCLES 15" (Ok (Line.Named 1 (Offcore 0 (set 15))))
    ∷ on (C 7) "named 1 CYCLES 63" (Ok (Line.Named 1 (Packet 0 0 (set 63))))
    ∷ on B "named 1 INSTR 15" (Ok (Line.Named 1 (Packet 0 0 (set 15))))
    -- a row of the letter C serves every C-Box
    ∷ on (C 7) "named 1 STARVE 63" (Ok (Line.Named 1 (Event 0x0B 0x18 (set 63))))
    -- in neither list, and the beginning of a name
    ∷ on G "named 3 NOSUCH 15" (Ok (Line.Named 3 (Event 0xFF 0xFF (set 15))))
    ∷ on G "named 3 CYC 15" (Ok (Line.Named 3 (Event 0xFF 0xFF (set 15))))
    -- the numbers are not judged yet
    ∷ on G "named 0 CYCLES 99999" (Ok (Line.Named 0 (Event 0x3C 0x00 (set 99999))))
    -- names of 40 bytes and of 41, of none, of a lower-case letter and of a dot
    ∷ on G "named 1 0123456789_ABCDEFGHIJKLMNOPQRSTUVWXYZ_89 15" (Ok (Line.Named 1 (Event 0xFF 0xFF (set 15))))
    ∷ on G "named 1 0123456789_ABCDEFGHIJKLMNOPQRSTUVWXYZ_890 15" (Err 2)
    ∷ on G "named 1  15" (Err 2)
    ∷ on G "named 1 cYCLES 15" (Err 2)
    ∷ on G "named 1 CYCLES.P 15" (Err 2)
    -- a name for an id, hex, too few fields and too many
    ∷ on G "named CYCLES 1 15" (Err 1)
    ∷ on G "named 1 CYCLES F" (Err 3)
    ∷ on G "named 1 CYCLES" (Err 3)
    ∷ on G "named 1 CYCLES 15 0" (Err 4)
    ∷ on G "named 1" (Err 2)
    ∷ on G "named" (Err 1)
    ∷ on G "Named 1 CYCLES 15" (Err 0)
    -- the leftmost of several faults, and a line of more than 80 bytes
    ∷ on G "named X cYCLES F" (Err 1)
    ∷ on G "named 1 cYCLES F" (Err 2)
    ∷ on G "named 1 CYCLES 15 0000000000000000000000000000000000000000000000000000000000000000000" (Err 4)
    -- beside a damaged list, also where the name is found above the damage or in the other list
    ∷ site_off "named 1 CYCLES 15" (Err 0)
    ∷ site_off "named 1 INSTR 15" (Err 0)
    ∷ site_off "named 1 NOSUCH 15" (Err 0)
    ∷ house_off "named 1 CYCLES 15" (Err 0)
    ∷ house_off "named 1 INSTR 15" (Err 0)
    -- a line that is not in the grammar keeps its fault, and the other verbs do not look
    ∷ house_off "named 1 cYCLES 15" (Err 2)
    ∷ house_off "named 1 CYCLES" (Err 3)
    ∷ house_off "named 1 CYCLES 15 0" (Err 4)
    ∷ house_off "event 1 3C 00 15" (Ok (Line.Record (Add 1 (Event 0x3C 0x00 (set 15)))))
    ∷ house_off "turn" (Ok (Line.Record Turn))
    ∷ []

-- each is read so
abbrev pub Examples : Type 0
Examples =
    map (λ (e : Example). parse_line_with e.lists e.device (tabbed e.line ++ newline ∷ [])) examples
    ≡ map (λ (e : Example). e.parsed) examples
