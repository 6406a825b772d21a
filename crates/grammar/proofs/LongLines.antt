-- The first 80 bytes of a longer text have its first field at fault: no record has as many, by the widths of its fields. Assumes nothing.
use Rattle.std.specs.Prelude.{Option, None, Some, Err}
use mathlib.Core.Path.{◌≡◌, refl, ap, ◌∙◌}
use mathlib.Core.Bool.{Bool, true, false}
use mathlib.Core.List.{List, [], ◌∷◌}
use Prim.Native.Nat.{ℕ, suc, ◌+◌, ◌-◌, ◌≤◌, ◌<◌}
use Prim.Native.String.{String}
use native.Mathlib.Omega.{arith}
use native.Mathlib.Decide.{dec_lt}
use lib.Dec.{ltb}
use lib.ListN.{length, take}
use lib.Seq.{take_all, length-take-le}
use borrow.Author.Tests.{ne_eqb, lt-ltb, le-ltb}
use Rattle.requests.specs.declared.Device.{Device}
use Rattle.requests.specs.declared.Device.TheVariants.{G, S, C, B}
use Rattle.requests.specs.declared.Request.TheVariants.{Event, Packet, Offcore, Latency}
use Rattle.requests.specs.Choice.{pick, first_holding}
use Rattle.grammar.specs.Text.{bytes}
use Rattle.grammar.specs.Fields.{field_at, same_bytes_lem}
use Rattle.grammar.specs.Letters.{lettered}
use Rattle.grammar.specs.Numbers.{decimal_of, hex_of, core_number_of}
use Rattle.grammar.specs.Verbs.{with_number, with_device, set_of, line_from, open_formats, open_as, open_with, open_on, open_line, event_line, packet_line, offcore_line, latency_line, drop_line, turn_line, has_verb, verbs, record_of}
use Rattle.grammar.specs.Parse.{longest, too_long_lem, parse_text, is_closed, text_length, parse_line}
use Rattle.grammar.specs.LongLines.{LongLines}
use Rattle.grammar.specs.declared.Record.{Record}
use Rattle.grammar.specs.declared.Record.TheVariants.{Add, Drop, Turn}
use Rattle.grammar.specs.Parsed.{Parsed}
use Rattle.grammar.proofs.VerbRows.{read_by, no_verb}
use Rattle.grammar.proofs.WordLoops.{same_bytes}
use Rattle.grammar.proofs.Formats.{Format, decimal, hex, core, Values, given, read_from}
use Rattle.grammar.proofs.ReadBack.{Rows, last, row, first_row}
use Rattle.grammar.proofs.CutFields.{CutAt, cut_at, SameFault, Field, cut_field, cut_ends, First, endless, whole, first_field}

-- ---- how wide a field may be

number_both : (x : Option ℕ) (k : ℕ) (next next2 : ℕ → Parsed) → ((n : ℕ) → SameFault (next n) (next2 n)) → SameFault (with_number x k next) (with_number x k next2)
number_both (Some n) k next next2 h = h n
number_both None k next next2 h = record { at = k; one = refl; other = refl }

-- runs of different lengths are not equal
not_same : (x y : List ℕ) → length y < length x → same_bytes_lem x y ≡ false
not_same x y h = go (same_bytes_lem x y) refl
  where
    go : (b : Bool) → same_bytes_lem x y ≡ b → same_bytes_lem x y ≡ false
    go true e = let z : length x ≡ length y = ap length (same_bytes x y e) in absurd (omega arith)
    go false e = e

-- "at most 5 digits"
wide_decimal : (x : List ℕ) → 5 < length x → decimal_of x ≡ None
unfolding decimal_of
wide_decimal x h = rw (ne_eqb (length x) 0 (λ e. omega arith), lt-ltb 5 (length x) h)

-- "of the exact width"
wide_hex : (w : ℕ) (x : List ℕ) → w < length x → hex_of w x ≡ None
unfolding hex_of
wide_hex w x h = rw (ne_eqb (length x) w (λ e. omega arith))

wide_core : (x : List ℕ) → 5 < length x → core_number_of x ≡ None
unfolding core_number_of bytes
wide_core x h = rw (not_same x (bytes "-") (omega arith), wide_decimal x h)

-- the most bytes of a field
abbrev width_of : Format → ℕ
width_of decimal = 5
width_of (hex w) = w
width_of core = 5

pub decimal_field : (k : ℕ) → Field (λ x next. with_number (decimal_of x) k next) k 5
decimal_field k = record { wide = λ x next h. rw (wide_decimal x h); both = λ x next next2 h. number_both (decimal_of x) k next next2 h }

format_field : (f : Format) (k : ℕ) → Field (λ x next. given f x k next) k (width_of f)
format_field decimal k = decimal_field k
format_field (hex w) k = record { wide = λ x next h. rw (wide_hex w x h); both = λ x next next2 h. number_both (hex_of w x) k next next2 h }
format_field core k = record { wide = λ x next h. rw (wide_core x h); both = λ x next next2 h. number_both (core_number_of x) k next next2 h }

device_both : (o : Option Device) (k : ℕ) (next next2 : Device → Parsed) → ((d : Device) → SameFault (next d) (next2 d)) → SameFault (with_device o k next) (with_device o k next2)
device_both (Some d) k next next2 h = h d
device_both None k next next2 h = record { at = k; one = refl; other = refl }

letter_field : (k : ℕ) → Field (λ x next. with_device (lettered x) k next) k 1
unfolding lettered
letter_field k = record { wide = wide; both = λ x next next2 h. device_both (lettered x) k next next2 h }
  where
    wide : (x : List ℕ) (next : Device → Parsed) → 1 < length x → with_device (lettered x) k next ≡ Err k
    wide [] next h = let z : ⊥ = omega arith in absurd z
    wide (a ∷ []) next h = let z : ⊥ = omega arith in absurd z
    wide (a ∷ b ∷ x) next h = refl

-- ---- fields of given formats

-- the most bytes of fields, with the tabs before them
abbrev room_of : List Format → ℕ
room_of [] = 0
room_of (f ∷ fs) = width_of f + 1 + room_of fs

cut_read : (fs : List Format) (t p : List ℕ) (closed : Bool) (k : ℕ) (made : Values fs → Record) (n : ℕ) → CutAt t p k n → room_of fs < n
    → SameFault (read_from fs t closed k made) (read_from fs p closed k made)
cut_read [] t p closed k made n c h = let ends = cut_ends t p closed k n c in record { at = k; one = rw ends.0; other = rw ends.1 }
cut_read (f ∷ fs) t p closed k made n c h =
    cut_field (λ x next. given f x k next) t p k (width_of f) n (format_field f k) (omega arith)
    (λ v. read_from fs t closed (suc k) (λ u. made (v, u))) (λ v. read_from fs p closed (suc k) (λ u. made (v, u)))
    c (λ m l d v. cut_read fs t p closed (suc k) (λ u. made (v, u)) m d (omega arith))

-- ---- the verbs

-- no verb has more than seven letters
module _ (t : List ℕ) (h : 7 < length (field_at t 0)) where
  pub no_word : (word : String) → length (bytes word) ≤ 7 → has_verb t word ≡ false
  unfolding has_verb
  no_word word l = not_same (field_at t 0) (bytes word) (omega arith)

  verbless : first_holding (verbs t) ≡ None
  unfolding verbs first_holding bytes
  verbless =
      rw (
        no_word "open" (omega arith),
        no_word "event" (omega arith),
        no_word "packet" (omega arith),
        no_word "offcore" (omega arith),
        no_word "latency" (omega arith),
        no_word "drop" (omega arith),
        no_word "turn" (omega arith),
      )

-- the readers of the verbs, where the first field is whole
module _ (t p : List ℕ) (m : ℕ) (e : 80 ≡ length (field_at t 0) + (m + 1)) (c : CutAt t p 1 m) where
  pub verb_room : (word : String) → length (bytes word) ≤ 7 → has_verb t word ≡ true → 72 ≤ m
  unfolding has_verb
  verb_room word l verb = let is : length (field_at t 0) ≡ length (bytes word) = ap length (same_bytes (field_at t 0) (bytes word) verb) in omega arith

  verb_read : (word : String) → length (bytes word) ≤ 7 → (fs : List Format) → room_of fs < 72 → (made : Values fs → Record)
      → has_verb t word ≡ true → (closed : Bool) → SameFault (read_from fs t closed 1 made) (read_from fs p closed 1 made)
  verb_read word l fs few made verb closed = cut_read fs t p closed 1 made m c (omega (arith, verb_room word l verb))

  -- an open line behind its letter
  open_on_cut : (n : ℕ) → CutAt t p 2 n → 70 ≤ n → (closed : Bool) (d : Device) → SameFault (open_on t closed d) (open_on p closed d)
  unfolding open_on open_formats open_as open_with line_from
  open_on_cut n b h closed G =
      cut_read (decimal ∷ decimal ∷ decimal ∷ core ∷ []) t p closed 2 (λ v. open_with G v.0 v.1.0 v.1.1.0 v.1.1.1.0 0) n b (omega arith)
  open_on_cut n b h closed S =
      cut_read (decimal ∷ decimal ∷ decimal ∷ core ∷ []) t p closed 2 (λ v. open_with S v.0 v.1.0 v.1.1.0 v.1.1.1.0 0) n b (omega arith)
  open_on_cut n b h closed (C x) =
      cut_read (decimal ∷ decimal ∷ decimal ∷ decimal ∷ core ∷ []) t p closed 2
      (λ v. open_with (C x) v.0 v.1.0 v.1.1.0 v.1.1.1.0 v.1.1.1.1.0) n b (omega arith)
  open_on_cut n b h closed B =
      cut_read (decimal ∷ decimal ∷ decimal ∷ core ∷ []) t p closed 2 (λ v. open_with B v.0 v.1.0 v.1.1.0 v.1.1.1.0 0) n b (omega arith)

  open_cut : has_verb t "open" ≡ true → (closed : Bool) → SameFault (open_line t closed) (open_line p closed)
  unfolding open_line bytes
  open_cut verb closed =
      let room : 72 ≤ m = verb_room "open" (omega arith) verb in
      cut_field (λ x next. with_device (lettered x) 1 next) t p 1 1 m (letter_field 1) (omega arith) (open_on t closed) (open_on p closed)
      c (λ n l b d. open_on_cut n b (omega arith) closed d)

  verb_rows : Rows (λ read. (closed : Bool) → SameFault (read t closed) (read p closed)) (verbs t)
  unfolding verbs event_line packet_line offcore_line latency_line drop_line turn_line bytes
  verb_rows =
      row open_cut
      (row (verb_read "event" (omega arith) (decimal ∷ hex 2 ∷ hex 2 ∷ decimal ∷ []) (omega arith)
      (λ v. Add v.0 (Event v.1.0 v.1.1.0 (set_of v.1.1.1.0))))
      (row (verb_read "packet" (omega arith) (decimal ∷ hex 16 ∷ hex 16 ∷ decimal ∷ []) (omega arith)
      (λ v. Add v.0 (Packet v.1.0 v.1.1.0 (set_of v.1.1.1.0))))
      (row (verb_read "offcore" (omega arith) (decimal ∷ hex 16 ∷ decimal ∷ []) (omega arith)
      (λ v. Add v.0 (Offcore v.1.0 (set_of v.1.1.0))))
      (row (verb_read "latency" (omega arith) (decimal ∷ hex 4 ∷ decimal ∷ decimal ∷ []) (omega arith)
      (λ v. Add v.0 (Latency v.1.0 (set_of v.1.1.0) (set_of v.1.1.1.0))))
      (row (verb_read "drop" (omega arith) (decimal ∷ []) (omega arith) (λ v. Drop v.0))
      (row (verb_read "turn" (omega arith) [] (omega arith) (λ v. Turn))
      last))))))

  module _ (same : field_at p 0 ≡ field_at t 0) where
    same_verbs : verbs p ≡ verbs t
    unfolding verbs has_verb
    same_verbs = rw same

    whole_both : (closed : Bool) → SameFault (record_of t closed) (record_of p closed)
    whole_both closed = go (first_holding (verbs t)) refl
      where
        go : (o : Option (List ℕ → Bool → Parsed)) → first_holding (verbs t) ≡ o → SameFault (record_of t closed) (record_of p closed)
        go None q = record { at = 0; one = no_verb t closed q; other = no_verb p closed (ap first_holding same_verbs ∙ q) }
        go (Some read) q =
            let b : SameFault (read t closed) (read p closed) = first_row verb_rows read q closed in
            record { at = b.at; one = read_by t closed read q ∙ b.one; other = read_by p closed read (ap first_holding same_verbs ∙ q) ∙ b.other }

-- a text and its first 80 bytes
pub record_cut : (t p : List ℕ) (closed : Bool) → First t p 80 → SameFault (record_of t closed) (record_of p closed)
record_cut t p closed (endless h k) =
    record { at = 0; one = no_verb t closed (verbless t (omega arith)); other = no_verb p closed (verbless p (omega arith)) }
record_cut t p closed (whole same m e c) = whole_both t p m e c same closed

long_cut : (t : List ℕ) (closed : Bool) → 80 < length t → parse_text (take 80 t) closed true ≡ record_of t closed
unfolding parse_text too_long_lem
long_cut t closed h =
    let b : SameFault (record_of t closed) (record_of (take 80 t) closed) = record_cut t (take 80 t) closed (first_field t (take 80 t) 80 (cut_at t 80 h)) in
    rw (b.other, b.one)

pub text_size : (line : List ℕ) → text_length line ≤ length line
unfolding text_length
text_size line = go (is_closed line)
  where
    go : (b : Bool) → pick b (length line - 1) (length line) ≤ length line
    go true = omega arith
    go false = omega arith

by_length : (t : List ℕ) (n : ℕ) (closed : Bool) → length t ≡ n → Dec (80 < n) → parse_text (take 80 t) closed (ltb 80 n) ≡ record_of t closed
unfolding parse_text
by_length t n closed e (yes h) = rw (lt-ltb 80 n h) (long_cut t closed (omega arith))
by_length t n closed e (no h) = rw (le-ltb 80 n (omega arith), take_all 80 t (omega arith))

whole_line : (line : List ℕ) → parse_line line ≡ record_of (take (text_length line) line) (is_closed line)
unfolding parse_line longest
whole_line line =
    by_length (take (text_length line) line) (text_length line) (is_closed line) (length-take-le (text_length line) line (text_size line)) (dec_lt 80 (text_length line))

pub long_lines : LongLines
unfolding longest
long_lines = record { cut = long_cut; whole = whole_line }
