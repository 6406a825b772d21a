-- The text of a record whose numbers fit: its fields are read back from it, and it has at most 80 bytes before its newline. Assumes nothing.
use Rattle.std.specs.Prelude.{Option, None, Some}
use mathlib.Core.Path.{◌≡◌, refl, sym, ◌∙◌}
use mathlib.Core.Bool.{Bool, true}
use mathlib.Core.List.{List, [], ◌∷◌, ◌++◌}
use Prim.Native.Nat.{ℕ, ◌+◌, ◌<◌, ◌≤◌}
use native.Mathlib.Omega.{arith}
use lib.ListN.{length}
use lib.Dec.{leb}
use borrow.Author.Tests.{leb-true, ne_eqb}
use Rattle.requests.specs.Choice.{both}
use Rattle.requests.proofs.DeviceNumbers.{numbers}
use Rattle.requests.proofs.Tests.{both_parts}
use Rattle.requests.specs.declared.CounterSet.{CounterSet}
use Rattle.requests.specs.declared.Device.{Device}
use Rattle.requests.specs.declared.Device.TheVariants.{G, S, C, B}
use Rattle.requests.specs.declared.Request.TheVariants.{Event, Packet, Offcore, Latency}
use Rattle.requests.specs.Devices.{letter_of, box_of}
use Rattle.grammar.specs.Text.{bytes, tab, hex_text, decimal_text, newline}
use Rattle.grammar.specs.Records.{box_fields, core_text, overflow_fields, open_fields, add_fields, record_fields, record_text, Decimal, Hex, CoreFits, OpenFits, Fits}
use Rattle.grammar.specs.Fields.{fields}
use Rattle.grammar.specs.declared.Record.{Record}
use Rattle.grammar.specs.declared.Record.TheVariants.{Open, Add, Drop, Turn}
use Rattle.grammar.proofs.Decimals.{decimal_reads, decimal_only}
use Rattle.grammar.proofs.Hexes.{hex_reads, hex_only}
use Rattle.grammar.proofs.Reading.{setup}
use Rattle.grammar.proofs.Tabs.{lacks, one_field_lem, numeral_field, Plain, Plains, none, more, Written, written}

-- a decimal is short, and one field
pub decimal_plain : (n : ℕ) → Decimal n → Plain 5 (decimal_text n)
decimal_plain n h =
    let told = decimal_only (decimal_text n) n (decimal_reads n h) in
    record { field = numeral_field 10 0 (decimal_text n) n (omega arith) told.3; short = told.2 }

-- hex
pub hex_plain : (w n : ℕ) → Hex w n → Plain w (hex_text w n)
hex_plain w n h =
    let told = hex_only w (hex_text w n) n (hex_reads w n h) in
    record { field = numeral_field 16 0 (hex_text w n) n (omega arith) told.3; short = omega (arith, told.2) }

-- a core
core_plain : (c : Option ℕ) → CoreFits c → Plain 5 (core_text c)
unfolding core_text bytes one_field_lem both lacks tab newline
core_plain None h = record { field = refl; short = omega arith }
core_plain (Some c) h = decimal_plain c h

-- a device's letter
pub letter_plain : (d : Device) → Plain 1 (letter_of d ∷ [])
unfolding one_field_lem both lacks tab newline
letter_plain d =
    let printed : 32 < letter_of d = (numbers d).letter_printed.0 in
    record { field = rw (ne_eqb (letter_of d) tab (λ e. omega arith), ne_eqb (letter_of d) newline (λ e. omega arith)); short = omega arith }

-- a record's text, of at most 80 bytes before its newline
pub record TextOf (r : Record) : Type 0 where
  pub text : List ℕ
  pub line : record_text r ≡ text ++ newline ∷ []
  pub parts : fields text ≡ record_fields r
  pub fits_line : length text ≤ 80

-- the verb is a field, and has at most 80 bytes with what follows it
brief : List ℕ → ℕ → Bool
brief word n = both (one_field_lem word) (leb (length word + n) 80)

-- so the text has
text_of : (r : Record) (word : List ℕ) (fs : List (List ℕ)) → record_fields r ≡ word ∷ fs → (n : ℕ) → Plains n fs → brief word n ≡ true → TextOf r
unfolding record_text brief
text_of r word fs e n plain small =
    let (field, short) = both_parts (one_field_lem word) (leb (length word + n) 80) small in
    let w : Written n word fs = written n word fs field plain in
    let size : length w.text ≤ 80 = omega (arith, w.size, leb-true (length word + n) 80 short) in
    record { text = w.text; line = rw e w.line; parts = w.parts ∙ sym e; fits_line = size }

-- what every open line ends with
overflow_plain : (z : ℕ) (c : Option ℕ) → Decimal z → CoreFits c → Plains 12 (decimal_text z ∷ core_text c ∷ [])
overflow_plain z c h k = more (decimal_plain z h) (more (core_plain c k) none)

-- that of an open line
open_written : (d : Device) (u : CounterSet) (f z : ℕ) (c : Option ℕ) → OpenFits (setup d u f z c) → TextOf (Open (setup d u f z c))
unfolding record_fields open_fields box_fields overflow_fields box_of bytes brief one_field_lem lacks tab newline both
open_written G u f z c h =
    text_of _ _ _ refl _ (more (letter_plain G) (more (decimal_plain u.0 h.0) (more (decimal_plain f h.1) (overflow_plain z c h.3 h.4)))) refl
open_written S u f z c h =
    text_of _ _ _ refl _ (more (letter_plain S) (more (decimal_plain u.0 h.0) (more (decimal_plain f h.1) (overflow_plain z c h.3 h.4)))) refl
open_written (C b) u f z c h =
    text_of _ _ _ refl _
    (more (letter_plain (C b)) (more (decimal_plain u.0 h.0) (more (decimal_plain f h.1) (more (decimal_plain b h.2) (overflow_plain z c h.3 h.4))))) refl
open_written B u f z c h =
    text_of _ _ _ refl _ (more (letter_plain B) (more (decimal_plain u.0 h.0) (more (decimal_plain f h.1) (overflow_plain z c h.3 h.4)))) refl

-- every record has one
pub record_written : (r : Record) → Fits r → TextOf r
unfolding record_fields add_fields bytes brief one_field_lem lacks tab newline both
record_written (Open s) h = open_written s.device s.usable s.fixed s.overflow.freeze s.overflow.core h
record_written (Add id (Event c m a)) h =
    text_of _ _ _ refl _ (more (decimal_plain id h.0) (more (hex_plain 2 c h.1) (more (hex_plain 2 m h.2) (more (decimal_plain a.0 h.3) none)))) refl
record_written (Add id (Packet x y a)) h =
    text_of _ _ _ refl _ (more (decimal_plain id h.0) (more (hex_plain 16 x h.1) (more (hex_plain 16 y h.2) (more (decimal_plain a.0 h.3) none)))) refl
record_written (Add id (Offcore w a)) h =
    text_of _ _ _ refl _ (more (decimal_plain id h.0) (more (hex_plain 16 w h.1) (more (decimal_plain a.0 h.2) none))) refl
record_written (Add id (Latency y a b)) h =
    text_of _ _ _ refl _ (more (decimal_plain id h.0) (more (hex_plain 4 y h.1) (more (decimal_plain a.0 h.2) (more (decimal_plain b.0 h.3) none)))) refl
record_written (Drop id) h = text_of _ _ _ refl _ (more (decimal_plain id h) none) refl
record_written Turn h = text_of _ _ _ refl _ none refl
