-- Document 01, 'Lines': lines in the grammar and beside it, and what each is.
use Rattle.std.specs.Prelude.{◌≡◌, ℕ, eqb, Option, None, Some, Ok, Err}
use mathlib.Core.List.{List, [], ◌∷◌, ◌++◌, map, flat_map}
use Prim.Native.String.{String}
use Rattle.requests.specs.declared.CounterSet.{CounterSet}
use Rattle.requests.specs.declared.Device.{Device}
use Rattle.requests.specs.declared.Device.TheVariants.{G, S, C, B}
use Rattle.requests.specs.declared.Request.TheVariants.{Event, Packet, Offcore, Latency}
use Rattle.requests.specs.Choice.{pick}
use Rattle.grammar.specs.Text.{bytes, tab, newline}
use Rattle.grammar.specs.Parse.{parse_line}
use Rattle.grammar.specs.declared.Record.TheVariants.{Open, Add, Drop, Turn}
use Rattle.grammar.specs.Parsed.{Parsed}
use Rattle.grammar.specs.declared.Line.{Line}

-- a text as it is typed: a blank stands for a tab
unfoldable pub tabbed : String → List ℕ
tabbed text = map (λ (b : ℕ). pick (eqb b 32) tab b) (bytes text)

-- lines as they are typed, each closed by a newline
unfoldable pub typed : List String → List ℕ
typed lines = flat_map (λ (line : String). tabbed line ++ newline ∷ []) lines

-- a line, and what it is
pub record Example : Type 0 where
  pub line : List ℕ
  pub parsed : Parsed

-- a text closed by a newline
abbrev closed : String → Parsed → Example
closed text p = record { line = tabbed text ++ newline ∷ []; parsed = p }

abbrev set : ℕ → CounterSet
set n = record { 0 = n }

-- what opens a device with a usable set, fixed enables, freeze and a core
abbrev opens : Device → ℕ → ℕ → ℕ → Option ℕ → Parsed
opens d usable fixed freeze core = Ok (Line.Record (Open (record { device = d; usable = set usable; fixed = fixed; overflow = record { freeze = freeze; core = core } })))

abbrev pub examples : List Example
examples =
    closed "open G 15 7 0 -" (opens G 15 7 0 None)
    ∷ closed "open S 14 0 1 -" (opens S 14 0 1 None)
    ∷ closed "open S 15 0 1 2" (opens S 15 0 1 (Some 2))
    ∷ closed "open C 63 0 7 0 -" (opens (C 7) 63 0 0 None)
    ∷ closed "open C 1 0 0 0 7" (opens (C 0) 1 0 0 (Some 7))
    ∷ closed "open G 15 0 0 0" (opens G 15 0 0 (Some 0))
    ∷ closed "open B 15 7 0 -" (opens B 15 7 0 None)
    -- numbers that no device opens with: the grammar does not judge them
    ∷ closed "open S 0 99999 2 8" (opens S 0 99999 2 (Some 8))
    ∷ closed "open C 64 1 8 99999 99999" (opens (C 8) 64 1 99999 (Some 99999))
    ∷ closed "open C 63 0 10 0 -" (opens (C 10) 63 0 0 None)
    ∷ closed "event 1 C0 00 1" (Ok (Line.Record (Add 1 (Event 0xC0 0x00 (set 1)))))
    ∷ closed "packet 2 00000000000000A5 8000000000000000 8" (Ok (Line.Record (Add 2 (Packet 0xA5 0x8000000000000000 (set 8)))))
    ∷ closed "offcore 3 0000000000010001 15" (Ok (Line.Record (Add 3 (Offcore 0x10001 (set 15)))))
    ∷ closed "latency 65535 0001 4 8" (Ok (Line.Record (Add 65535 (Latency 0x0001 (set 4) (set 8)))))
    ∷ closed "drop 0" (Ok (Line.Record (Drop 0)))
    ∷ closed "turn" (Ok (Line.Record Turn))
    -- the number of the field at fault: the verb, a letter, a leading zero, six digits, lower case, a wrong width
    ∷ closed "" (Err 0)
    ∷ closed "Turn" (Err 0)
    ∷ closed "open D 15 0 0 -" (Err 1)
    ∷ closed "open GS 15 0 0 -" (Err 1)
    ∷ closed "open G 15 08 0 -" (Err 3)
    ∷ closed "open G 15 -1 0 -" (Err 3)
    ∷ closed "open C 63 0 07 0 -" (Err 4)
    -- `-` is a core and no freeze, and nothing else that is no decimal is one
    ∷ closed "open S 15 0 - 0" (Err 4)
    ∷ closed "open S 15 0 01 -" (Err 4)
    ∷ closed "open S 15 0 0 01" (Err 5)
    ∷ closed "open S 15 0 0 --" (Err 5)
    ∷ closed "open S 15 0 0 -1" (Err 5)
    ∷ closed "open S 15 0 0 100000" (Err 5)
    ∷ closed "open C 63 0 7 - 0" (Err 5)
    ∷ closed "open C 63 0 7 1 A" (Err 6)
    ∷ closed "drop 01" (Err 1)
    ∷ closed "drop 123456" (Err 1)
    ∷ closed "event 1 c0 00 1" (Err 2)
    ∷ closed "event 1 C0 0 1" (Err 3)
    -- too few fields, too many, and two tabs
    ∷ closed "event 1 C0" (Err 3)
    ∷ closed "open G 15" (Err 3)
    ∷ closed "open G 15 0" (Err 4)
    ∷ closed "open S 15 0 1" (Err 5)
    ∷ closed "open S 15 0 1 " (Err 5)
    ∷ closed "open C 63 0 0 -" (Err 5)
    ∷ closed "open C 63 0 7 0" (Err 6)
    ∷ closed "open G 15 0 0 - 0" (Err 6)
    ∷ closed "open S 15 0 7 0 -" (Err 6)
    ∷ closed "open C 63 0 7 0 - 0" (Err 7)
    ∷ closed "open B 15 0" (Err 4)
    ∷ closed "open B 15 0 7 0 -" (Err 6)
    ∷ closed "turn " (Err 1)
    ∷ closed "drop 1 2" (Err 2)
    ∷ closed "drop  1" (Err 1)
    -- "closed by a newline": none, and one with a carriage return before it
    ∷ record { line = tabbed "turn"; parsed = Err 1 }
    ∷ record { line = tabbed "event 2 C"; parsed = Err 2 }
    ∷ record { line = tabbed "event 2 C0"; parsed = Err 3 }
    ∷ record { line = tabbed "drop 5 6"; parsed = Err 2 }
    ∷ record { line = tabbed "drop 1" ++ 13 ∷ newline ∷ []; parsed = Err 1 }
    ∷ []

-- each is read so
abbrev pub Examples : Type 0
Examples = map (λ (e : Example). parse_line e.line) examples ≡ map (λ (e : Example). e.parsed) examples
