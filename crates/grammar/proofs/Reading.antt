-- A text whose fields are a record's, with its numbers in range, gives that record: the verb's row reads each number back. Assumes nothing.
use Rattle.std.specs.Prelude.{Option, Ok}
use mathlib.Core.Path.{◌≡◌, ◌∙◌}
use mathlib.Core.Bool.{true}
use mathlib.Core.List.{List}
use Prim.Native.Nat.{ℕ}
use Rattle.requests.specs.declared.CounterSet.{CounterSet}
use Rattle.requests.specs.declared.Device.{Device}
use Rattle.requests.specs.declared.Device.TheVariants.{G, S, C, B}
use Rattle.requests.specs.declared.Setup.{Setup}
use Rattle.requests.specs.declared.Request.TheVariants.{Event, Packet, Offcore, Latency}
use Rattle.requests.specs.Choice.{first_holding, both}
use Rattle.requests.specs.Devices.{box_of}
use Rattle.grammar.specs.Text.{bytes}
use Rattle.grammar.specs.Records.{OpenFits, box_fields, overflow_fields, open_fields, add_fields, record_fields, Fits}
use Rattle.grammar.specs.Fields.{fields, same_bytes_lem}
use Rattle.grammar.specs.Verbs.{line_from, open_formats, open_as, open_with, open_on, open_line, event_line, packet_line, offcore_line, latency_line, drop_line, turn_line, has_verb, verbs, record_of}
use Rattle.grammar.specs.declared.Record.{Record}
use Rattle.grammar.specs.declared.Record.TheVariants.{Open, Add, Drop, Turn}
use Rattle.grammar.specs.declared.Line.{Line}
use Rattle.grammar.proofs.Decimals.{decimal_reads}
use Rattle.grammar.proofs.Hexes.{hex_reads}
use Rattle.grammar.proofs.Cores.{core_reads, core_back}
use Rattle.grammar.proofs.LetterFields.{by_letter, letter_reads}
use Rattle.grammar.proofs.VerbRows.{read_by}

-- a setup of these numbers
abbrev pub setup : Device → CounterSet → ℕ → ℕ → Option ℕ → Setup
setup d u f z c = record { device = d; usable = u; fixed = f; overflow = record { freeze = z; core = c } }

-- the fields behind a device's letter are read back
device_read : (t : List ℕ) (d : Device) (u : CounterSet) (f z : ℕ) (c : Option ℕ) → OpenFits (setup d u f z c) → fields t ≡ open_fields (setup d u f z c)
    → open_on t true (by_letter d) ≡ Ok (Line.Record (Open (setup d u f z c)))
unfolding open_fields box_fields overflow_fields box_of open_on open_formats open_as open_with by_letter line_from both
device_read t G u f z c h e =
    rw (e, decimal_reads u.0 h.0, decimal_reads f h.1, decimal_reads z h.3, core_reads c h.4, core_back c)
device_read t S u f z c h e =
    rw (e, decimal_reads u.0 h.0, decimal_reads f h.1, decimal_reads z h.3, core_reads c h.4, core_back c)
device_read t (C b) u f z c h e =
    rw (e, decimal_reads u.0 h.0, decimal_reads f h.1, decimal_reads b h.2, decimal_reads z h.3, core_reads c h.4, core_back c)
device_read t B u f z c h e =
    rw (e, decimal_reads u.0 h.0, decimal_reads f h.1, decimal_reads z h.3, core_reads c h.4, core_back c)

-- the letter is, too
open_read : (t : List ℕ) (s : Setup) → OpenFits s → fields t ≡ open_fields s → open_line t true ≡ Ok (Line.Record (Open s))
unfolding open_fields open_line
open_read t s h e = rw (e, letter_reads s.device) (device_read t s.device s.usable s.fixed s.overflow.freeze s.overflow.core h e)

-- a record's fields are read as the record
pub fields_read : (t : List ℕ) (r : Record) → Fits r → fields t ≡ record_fields r → record_of t true ≡ Ok (Line.Record r)
unfolding verbs has_verb first_holding both same_bytes_lem bytes record_fields open_fields add_fields event_line packet_line offcore_line latency_line drop_line turn_line
fields_read t (Open s) h e = read_by t true open_line (rw e) ∙ open_read t s h e
fields_read t (Add id (Event c m a)) h e =
    read_by t true event_line (rw e) ∙ rw (e, decimal_reads id h.0, hex_reads 2 c h.1, hex_reads 2 m h.2, decimal_reads a.0 h.3)
fields_read t (Add id (Packet x y a)) h e =
    read_by t true packet_line (rw e) ∙ rw (e, decimal_reads id h.0, hex_reads 16 x h.1, hex_reads 16 y h.2, decimal_reads a.0 h.3)
fields_read t (Add id (Offcore w a)) h e = read_by t true offcore_line (rw e) ∙ rw (e, decimal_reads id h.0, hex_reads 16 w h.1, decimal_reads a.0 h.2)
fields_read t (Add id (Latency y a b)) h e =
    read_by t true latency_line (rw e) ∙ rw (e, decimal_reads id h.0, hex_reads 4 y h.1, decimal_reads a.0 h.2, decimal_reads b.0 h.3)
fields_read t (Drop id) h e = read_by t true drop_line (rw e) ∙ rw (e, decimal_reads id h)
fields_read t Turn h e = read_by t true turn_line (rw e) ∙ rw e
