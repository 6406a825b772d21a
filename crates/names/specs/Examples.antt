-- Rows and lists in the grammar and beside it, and what a name finds in two lists.
use Rattle.std.specs.Prelude.{◌≡◌, Bool, true, false, List, [], ◌∷◌, ◌++◌, map, ℕ, Option, None, Some}
use Prim.Native.String.{String}
use Rattle.requests.specs.declared.Device.TheVariants.{G, S, C, B}
use Rattle.grammar.specs.Text.{bytes, newline}
use Rattle.grammar.specs.Examples.{tabbed, typed}
use Rattle.names.specs.Rows.{row_of}
use Rattle.names.specs.Lists.{NameLists, well_formed}
use Rattle.names.specs.LookUp.{row_named}
use Rattle.names.specs.Named.{named_field}
use Rattle.names.specs.declared.Row.{Row}

-- a row without its newline, and what it says
abbrev pub rows : List (String × Option Row)
rows =
    ("CYCLES G 3C 00", Some (record { device = G; code = 0x3C; mask = 0x00 }))
    ∷ ("A S 51 03", Some (record { device = S; code = 0x51; mask = 0x03 }))
    ∷ ("_ C 0B 07", Some (record { device = C 0; code = 0x0B; mask = 0x07 }))
    ∷ ("STORES B CD 02", Some (record { device = B; code = 0xCD; mask = 0x02 }))
    ∷ ("0123456789_ABCDEFGHIJKLMNOPQRSTUVWXYZ_89 G C0 00", Some (record { device = G; code = 0xC0; mask = 0x00 }))
    -- 41 bytes, none, a lower-case letter, a device that `open` does not know, lower-case hex, one digit, too few and too many fields
    ∷ ("0123456789_ABCDEFGHIJKLMNOPQRSTUVWXYZ_890 G C0 00", None)
    ∷ (" G C0 00", None)
    ∷ ("cycles G 3C 00", None)
    ∷ ("CYCLES X 3C 00", None)
    ∷ ("CYCLES G 3c 00", None)
    ∷ ("CYCLES G 3C 0", None)
    ∷ ("CYCLES G 3C", None)
    ∷ ("CYCLES G 3C 00 00", None)
    ∷ ("", None)
    ∷ []

abbrev site : List ℕ
site = typed ("CYCLES G 3C 00" ∷ "BYPASS S 51 03" ∷ "CYCLES S 52 00" ∷ [])

abbrev house : List ℕ
house = typed ("CYCLES S 52 00" ∷ "INSTR G C0 00" ∷ "ODD G C0 05" ∷ [])

abbrev page : NameLists
page = record { site = site; house = house }

-- a list, and whether it is well-formed
abbrev pub lists : List (List ℕ × Bool)
lists =
    ([], true)
    ∷ (site, true)
    ∷ (house, true)
    -- the last newline is missing, an empty row, a carriage return
    ∷ (tabbed "CYCLES G 3C 00", false)
    ∷ (house ++ newline ∷ [], false)
    ∷ (tabbed "CYCLES G 3C 00" ++ 13 ∷ newline ∷ [], false)
    ∷ []

-- no row in the site's list
abbrev house_alone : NameLists
house_alone = record { site = []; house = house }

-- a row of the house's that is not closed
abbrev unended : NameLists
unended = record { site = site; house = tabbed "ODD G C0 05" }

-- two lists, a name, and the row that is found
pub record Find : Type 0 where
  pub lists : NameLists
  pub name : String
  pub row : Option String

abbrev find : NameLists → String → Option String → Find
find n name row = record { lists = n; name = name; row = row }

abbrev pub finds : List Find
finds =
    find page "CYCLES" (Some "CYCLES G 3C 00")
    ∷ find page "BYPASS" (Some "BYPASS S 51 03")
    ∷ find page "INSTR" (Some "INSTR G C0 00")
    ∷ find page "ODD" (Some "ODD G C0 05")
    ∷ find page "CYC" None
    ∷ find page "CYCLES_" None
    ∷ find page "NOSUCH" None
    ∷ find page "" None
    ∷ find house_alone "CYCLES" (Some "CYCLES S 52 00")
    ∷ find unended "CYCLES" None
    ∷ []

-- a row as bytes
abbrev pub as_bytes : Option String → Option (List ℕ)
as_bytes None = None
as_bytes (Some t) = Some (tabbed t)

-- all are as they stand here
abbrev pub RowExamples : Type 0
RowExamples = map (λ (e : String × Option Row). row_of (tabbed e.0)) rows ≡ map (λ (e : String × Option Row). e.1) rows

abbrev pub ListExamples : Type 0
ListExamples = map (λ (e : List ℕ × Bool). well_formed e.0) lists ≡ map (λ (e : List ℕ × Bool). e.1) lists

abbrev pub FindExamples : Type 0
FindExamples = map (λ (e : Find). row_named e.lists (bytes e.name)) finds ≡ map (λ (e : Find). as_bytes e.row) finds

-- order 11: the fields verb, id, code, mask and allowed of an event, and those of the `named` line
abbrev pub FieldExamples : Type 0
FieldExamples = map named_field (0 ∷ 1 ∷ 2 ∷ 3 ∷ 4 ∷ []) ≡ 0 ∷ 1 ∷ 2 ∷ 2 ∷ 3 ∷ []
