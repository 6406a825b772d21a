-- Document 02, order 9: what a line asks for, with "a new line `named` id name allowed". Only that line looks at the lists.
use Rattle.std.specs.Prelude.{Bool, true, false, List, ℕ, length, ltb, Ok, Err}
use Rattle.requests.specs.Choice.{pick}
use Rattle.requests.specs.declared.CounterSet.{CounterSet}
use Rattle.requests.specs.declared.Device.{Device}
use Rattle.grammar.specs.Fields.{fields, field_at}
use Rattle.grammar.specs.Numbers.{decimal_of}
use Rattle.grammar.specs.Verbs.{with_number, is_whole, set_of, has_verb, record_of}
use Rattle.grammar.specs.Parse.{longest, too_long_lem, is_closed, text_length, text_of}
use Rattle.grammar.specs.Parsed.{Parsed}
use Rattle.grammar.specs.declared.Line.{Line}
use Rattle.names.specs.EventNames.{is_name}
use Rattle.names.specs.Lists.{NameLists, lists_formed}
use Rattle.names.specs.Named.{request_named}

-- a request by name is one add; "an ill-formed row in either list is refused with 1 before any search", which is told as field 0
unfoldable pub add_named : NameLists → Device → List ℕ → ℕ → CounterSet → Parsed
add_named n d name id a = pick (lists_formed n) (Ok (Line.Named id (request_named n name d a))) (Err 0)

-- what follows a name, or the field at fault
abbrev pub with_name : List ℕ → ℕ → Parsed → Parsed
with_name f k next = pick (is_name f) next (Err k)

-- `named` id name allowed
unfoldable pub named_line : NameLists → Device → List ℕ → Bool → Parsed
named_line n d t closed =
    with_number (decimal_of (field_at t 1)) 1 (λ id.
    with_name (field_at t 2) 2
    (with_number (decimal_of (field_at t 3)) 3 (λ allowed.
    pick (is_whole t closed 4) (add_named n d (field_at t 2) id (set_of allowed)) (Err 4))))

-- what a text asks for on a device: by the one verb that looks at the lists, or by those that do not
unfoldable pub record_with : NameLists → Device → List ℕ → Bool → Parsed
record_with n d t closed = pick (has_verb t "named") (named_line n d t closed) (record_of t closed)

-- the same of a text that is whole, or the first 80 bytes of a longer one
unfoldable pub parse_text_with : NameLists → Device → List ℕ → Bool → Bool → Parsed
parse_text_with n d t closed long = elim long [ true ↦ too_long_lem (record_with n d t closed) (length (fields t)) | false ↦ record_with n d t closed ]

-- what a line asks for on a device
unfoldable pub parse_line_with : NameLists → Device → List ℕ → Parsed
parse_line_with n d line = parse_text_with n d (text_of line) (is_closed line) (ltb longest (text_length line))
