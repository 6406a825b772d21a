-- Tries of order 9: whole inputs and outputs beside two lists of names, in one statement ranging over a table.
use Rattle.std.specs.Prelude.{◌≡◌, List, [], ◌∷◌, map, ℕ}
use Prim.Native.String.{String}
use Rattle.names.specs.Lists.{NameLists}
use Rattle.grammar.specs.Examples.{tabbed, typed}
use Rattle.streams.specs.Tries.{Try, outcome_with, expected}

-- two lists, and a try with them
pub record NameTry : Type 0 where
  pub lists : NameLists
  pub try : Try

-- the site's list, and the house's
abbrev site : List ℕ
site = typed ("CYCLES G 3C 00" ∷ "STARVE C 0B 18" ∷ "CYCLES S 52 00" ∷ [])

abbrev house : List ℕ
house = typed ("CYCLES S 52 00" ∷ "INSTR G C0 00" ∷ "ODD G C0 05" ∷ [])

-- both
abbrev good : NameLists
good = record { site = site; house = house }

-- a row of the house's that is not closed
abbrev unended : NameLists
unended = record { site = site; house = tabbed "INSTR G C0 00" }

-- a second row of the site's that is none
abbrev no_row : NameLists
no_row = record { site = typed ("CYCLES G 3C 00" ∷ "X Q 00 00" ∷ []); house = house }

-- masks of the S-Box that are not listed, and one that is
abbrev masks : NameLists
masks = record { site = typed ("NOTHING S 51 00" ∷ "ABOVE S 51 04" ∷ "HOME S 52 00" ∷ "CYCLES G 3C 00" ∷ []); house = [] }

-- an input with lists, its output, and the ids waiting afterwards
abbrev with_lists : NameLists → List String → List String → List ℕ → NameTry
with_lists n input output waiting = record { lists = n; try = record { input = input; output = output; waiting = waiting } }

-- the table
abbrev pub name_tries : List NameTry
name_tries =
    -- the order's page on G
    with_lists good
    ("open G 15 0 0 -"
    ∷ "named 1 CYCLES 15"
    ∷ "named 2 INSTR 1"
    ∷ "named 3 STARVE 15"
    ∷ "named 3 NOSUCH 15"
    ∷ "named 3 CYC 15"
    ∷ "named 3 ODD 15"
    ∷ "named 0 NOSUCH 15"
    ∷ "named 1 NOSUCH 15"
    ∷ "named 0 STARVE 15"
    ∷ "named 1 STARVE 15"
    ∷ "named 3 CYCLES 16"
    ∷ "named 3 CYCLES 0"
    ∷ "named 3 cycles 15"
    ∷ "named 3  15"
    ∷ [])
    ("ok" ∷ "ok" ∷ "ok" ∷ "no 7 0" ∷ "no 8 2" ∷ "no 8 2" ∷ "no 8 2" ∷ "no 4 1" ∷ "no 5 1" ∷ "no 4 1" ∷ "no 5 1" ∷ "no 10 3" ∷ "no 12 0" ∷ "no 1 2" ∷ "no 1 2" ∷ [])
    (1 ∷ 2 ∷ [])
    -- the site's topmost row decides on S, and a row of the letter C serves every C-Box
    ∷ with_lists good ("open S 15 0 0 -" ∷ "named 1 CYCLES 15" ∷ []) ("ok" ∷ "no 7 0" ∷ []) []
    ∷ with_lists good ("open C 63 0 7 0 -" ∷ "named 1 STARVE 63" ∷ "named 2 CYCLES 63" ∷ []) ("ok" ∷ "ok" ∷ "no 7 0" ∷ []) (1 ∷ [])
    -- before open 2, with a damaged list 1 before that, and other verbs do not look
    ∷ with_lists good ("named 1 CYCLES 15" ∷ "named 0 NOSUCH 99" ∷ []) ("no 2 0" ∷ "no 2 0" ∷ []) []
    ∷ with_lists unended
    ("named 1 CYCLES 15" ∷ "open G 15 0 0 -" ∷ "named 1 CYCLES 15" ∷ "event 1 3C 00 15" ∷ [])
    ("no 1 0" ∷ "ok" ∷ "no 1 0" ∷ "ok" ∷ [])
    (1 ∷ [])
    ∷ with_lists no_row
    ("named 0 CYCLES 99" ∷ "open G 15 0 0 -" ∷ "named 1 INSTR 15" ∷ "named 1 CYCLES 15" ∷ "event 1 3C 00 15" ∷ [])
    ("no 1 0" ∷ "ok" ∷ "no 1 0" ∷ "no 1 0" ∷ "ok" ∷ [])
    (1 ∷ [])
    -- "all later refusals included": 9 and 10 for the row's mask, 13 for a full queue, where 7 and 8 still come first
    ∷ with_lists masks
    ("open S 15 0 0 -"
    ∷ "named 1 NOTHING 15"
    ∷ "named 1 ABOVE 15"
    ∷ "named 1 NOTHING 16"
    ∷ "named 1 HOME 15"
    ∷ "named 2 HOME 15"
    ∷ "named 3 HOME 15"
    ∷ "named 4 HOME 15"
    ∷ "named 5 HOME 15"
    ∷ "named 6 HOME 15"
    ∷ "named 7 HOME 15"
    ∷ "named 8 HOME 15"
    ∷ "named 9 HOME 15"
    ∷ "named 10 HOME 15"
    ∷ "named 11 HOME 15"
    ∷ "named 12 HOME 15"
    ∷ "named 13 HOME 15"
    ∷ "named 14 HOME 15"
    ∷ "named 15 HOME 15"
    ∷ "named 16 HOME 15"
    ∷ "named 17 HOME 15"
    ∷ "named 17 CYCLES 15"
    ∷ "named 17 NOSUCH 15"
    ∷ [])
    ("ok"
    ∷ "no 9 2"
    ∷ "no 10 2"
    ∷ "no 10 3"
    ∷ "ok"
    ∷ "ok"
    ∷ "ok"
    ∷ "ok"
    ∷ "ok"
    ∷ "ok"
    ∷ "ok"
    ∷ "ok"
    ∷ "ok"
    ∷ "ok"
    ∷ "ok"
    ∷ "ok"
    ∷ "ok"
    ∷ "ok"
    ∷ "ok"
    ∷ "ok"
    ∷ "no 13 0"
    ∷ "no 7 0"
    ∷ "no 8 2"
    ∷ [])
    (1 ∷ 2 ∷ 3 ∷ 4 ∷ 5 ∷ 6 ∷ 7 ∷ 8 ∷ 9 ∷ 10 ∷ 11 ∷ 12 ∷ 13 ∷ 14 ∷ 15 ∷ 16 ∷ [])
    -- a turn writes what the event in numbers would
    ∷ with_lists good
    ("open G 15 0 0 -" ∷ "named 1 CYCLES 15" ∷ "turn" ∷ [])
    ("ok"
    ∷ "ok"
    ∷ "take 1 0 -"
    ∷ "set 038F 0000000000000000"
    ∷ "set 0186 0000000000000000"
    ∷ "set 0187 0000000000000000"
    ∷ "set 0188 0000000000000000"
    ∷ "set 0189 0000000000000000"
    ∷ "set 01A6 0000000000000000"
    ∷ "set 01A7 0000000000000000"
    ∷ "set 00C1 0000000000000000"
    ∷ "set 0186 000000000043003C"
    ∷ "set 038F 0000000000000001"
    ∷ "ok"
    ∷ [])
    (1 ∷ [])
    ∷ []

-- each input gives the output and leaves the ids waiting
abbrev pub NameTries : Type 0
NameTries = map (λ (t : NameTry). outcome_with t.lists t.try) name_tries ≡ map (λ (t : NameTry). expected t.try) name_tries
