-- A text is read as a record or has a field at fault, 0 to 7: no verb of a record asks for anything by name, and none has more fields. Assumes
-- nothing.
use Rattle.std.specs.Prelude.{Option, None, Some, Ok, Err}
use mathlib.Core.Path.{◌≡◌, refl}
use mathlib.Core.Bool.{Bool, true, false}
use mathlib.Core.List.{List, [], ◌∷◌}
use Prim.Native.Nat.{ℕ, suc, ◌+◌, ◌≤◌}
use native.Mathlib.Omega.{arith}
use lib.ListN.{length, take, set}
use Rattle.requests.specs.declared.Device.{Device}
use Rattle.requests.specs.declared.Device.TheVariants.{G, S, C, B}
use Rattle.requests.specs.declared.Request.TheVariants.{Event, Packet, Offcore, Latency}
use Rattle.requests.specs.Choice.{pick, first_holding}
use Rattle.grammar.specs.Fields.{field_at}
use Rattle.grammar.specs.Letters.{lettered}
use Rattle.grammar.specs.Numbers.{decimal_of, hex_of, core_number_of, number_of}
use Rattle.grammar.specs.Verbs.{with_number, with_device, ended, is_whole, set_of, Made, line_from, open_formats, open_with, open_on, open_line, event_line, packet_line, offcore_line, latency_line, drop_line, turn_line, verbs, record_of}
use Rattle.grammar.specs.Parse.{is_closed, text_length, parse_line}
use Rattle.grammar.specs.declared.Record.{Record}
use Rattle.grammar.specs.declared.Record.TheVariants.{Add, Drop, Turn}
use Rattle.grammar.specs.Parsed.{Parsed}
use Rattle.grammar.specs.declared.Line.{Line}
use Rattle.grammar.proofs.Formats.{Format, decimal, hex, core, Values, given, read_from}
use Rattle.grammar.proofs.ReadBack.{Rows, last, row, first_row}
use Rattle.grammar.proofs.LongLines.{long_lines}

-- a record, or a field at fault
pub data Settled : Parsed → Type 0 where
  asks : (r : Record) → Settled (Ok (Line.Record r))
  faulty : (k : ℕ) → k ≤ 7 → Settled (Err k)

number_settled : (x : Option ℕ) (k : ℕ) (next : ℕ → Parsed) → k ≤ 7 → ((n : ℕ) → Settled (next n)) → Settled (with_number x k next)
number_settled (Some n) k next l h = h n
number_settled None k next l h = faulty k l

ended_settled : (t : List ℕ) (closed : Bool) (n : ℕ) (r : Record) → n ≤ 7 → Settled (ended t closed n r)
ended_settled t closed n r l = go (is_whole t closed n)
  where
    go : (b : Bool) → Settled (pick b (Ok (Line.Record r)) (Err n))
    go true = asks r
    go false = faulty n l

line_settled : (ws t : List ℕ) (closed : Bool) (first i : ℕ) (values : List ℕ) (made : Made) → first + i + length ws ≤ 7
    → Settled (line_from ws t closed first i values made)
unfolding line_from
line_settled [] t closed first i values made l = ended_settled t closed (first + i) _ (omega arith)
line_settled (w ∷ ws) t closed first i values made l =
    number_settled (number_of w (field_at t (first + i))) (first + i) _ (omega arith) (λ n. line_settled ws t closed first (i + 1) (set values i n) made (omega arith))

formats_few : (d : Device) → 2 + length (open_formats d) ≤ 7
unfolding open_formats
formats_few G = omega arith
formats_few S = omega arith
formats_few (C b) = omega arith
formats_few B = omega arith

open_settled : (t : List ℕ) (closed : Bool) → Settled (open_line t closed)
unfolding open_line open_on
open_settled t closed = go (lettered (field_at t 1))
  where
    go : (o : Option Device) → Settled (with_device o 1 (open_on t closed))
    go (Some d) = line_settled (open_formats d) t closed 2 0 _ (open_with d) (omega (arith, formats_few d))
    go None = faulty 1 (omega arith)

given_settled : (f : Format) (x : List ℕ) (k : ℕ) (next : ℕ → Parsed) → k ≤ 7 → ((n : ℕ) → Settled (next n)) → Settled (given f x k next)
given_settled decimal x k next l h = number_settled (decimal_of x) k next l h
given_settled (hex w) x k next l h = number_settled (hex_of w x) k next l h
given_settled core x k next l h = number_settled (core_number_of x) k next l h

read_settled : (fs : List Format) (t : List ℕ) (closed : Bool) (k : ℕ) (made : Values fs → Record) → k + length fs ≤ 7 → Settled (read_from fs t closed k made)
read_settled [] t closed k made l = ended_settled t closed k (made tt) (omega arith)
read_settled (f ∷ fs) t closed k made l =
    given_settled f (field_at t k) k (λ x. read_from fs t closed (suc k) (λ v. made (x, v))) (omega arith) (λ x. read_settled fs t closed (suc k) (λ v. made (x, v)) (omega arith))

verbs_settled : (t : List ℕ) → Rows (λ read. (closed : Bool) → Settled (read t closed)) (verbs t)
unfolding verbs event_line packet_line offcore_line latency_line drop_line turn_line
verbs_settled t =
    row (λ _ closed. open_settled t closed)
    (row (λ _ closed. read_settled (decimal ∷ hex 2 ∷ hex 2 ∷ decimal ∷ []) t closed 1 (λ v. Add v.0 (Event v.1.0 v.1.1.0 (set_of v.1.1.1.0))) (omega arith))
    (row (λ _ closed. read_settled (decimal ∷ hex 16 ∷ hex 16 ∷ decimal ∷ []) t closed 1 (λ v. Add v.0 (Packet v.1.0 v.1.1.0 (set_of v.1.1.1.0))) (omega arith))
    (row (λ _ closed. read_settled (decimal ∷ hex 16 ∷ decimal ∷ []) t closed 1 (λ v. Add v.0 (Offcore v.1.0 (set_of v.1.1.0))) (omega arith))
    (row (λ _ closed. read_settled (decimal ∷ hex 4 ∷ decimal ∷ decimal ∷ []) t closed 1 (λ v. Add v.0 (Latency v.1.0 (set_of v.1.1.0) (set_of v.1.1.1.0))) (omega arith))
    (row (λ _ closed. read_settled (decimal ∷ []) t closed 1 (λ v. Drop v.0) (omega arith))
    (row (λ _ closed. read_settled [] t closed 1 (λ v. Turn) (omega arith))
    last))))))

pub record_settled : (t : List ℕ) (closed : Bool) → Settled (record_of t closed)
unfolding record_of
record_settled t closed = go (first_holding (verbs t)) refl
  where
    go : (o : Option (List ℕ → Bool → Parsed)) → first_holding (verbs t) ≡ o → Settled (elim o [ None ↦ Err 0 | Some read ↦ read t closed ])
    go None e = faulty 0 (omega arith)
    go (Some read) e = first_row (verbs_settled t) read e closed

pub line_is : (line : List ℕ) → Settled (parse_line line)
line_is line = rw (long_lines.whole line) (record_settled (take (text_length line) line) (is_closed line))
