-- A text without its newline has the field at fault that it has where it is closed and too long: the one after its last, or one before that.
-- Assumes nothing.
use Rattle.std.specs.Prelude.{Option, None, Some, Ok, Err}
use mathlib.Core.Path.{◌≡◌, refl, ap}
use mathlib.Core.Bool.{Bool, true, false}
use mathlib.Core.List.{List, [], ◌∷◌}
use Prim.Native.Nat.{ℕ, suc, ◌+◌}
use lib.Dec.{eqb}
use lib.ListN.{length, set}
use borrow.Author.Tests.{eqb-true}
use Rattle.requests.specs.declared.Device.{Device}
use Rattle.requests.specs.declared.Request.TheVariants.{Event, Packet, Offcore, Latency}
use Rattle.requests.specs.Choice.{both, pick, first_holding}
use Rattle.grammar.specs.Fields.{fields, field_at}
use Rattle.grammar.specs.Letters.{lettered}
use Rattle.grammar.specs.Numbers.{decimal_of, hex_of, core_number_of, number_of}
use Rattle.grammar.specs.Verbs.{with_number, with_device, ended, set_of, Made, line_from, open_formats, open_with, open_on, open_line, event_line, packet_line, offcore_line, latency_line, drop_line, turn_line, verbs, record_of}
use Rattle.grammar.specs.Parse.{too_long_lem}
use Rattle.grammar.specs.declared.Record.{Record}
use Rattle.grammar.specs.declared.Record.TheVariants.{Add, Drop, Turn}
use Rattle.grammar.specs.Parsed.{Parsed}
use Rattle.grammar.specs.declared.Line.{Line}
use Rattle.grammar.proofs.Formats.{Format, decimal, hex, core, Values, given, read_from}
use Rattle.grammar.proofs.ReadBack.{Rows, last, row, first_row}

module _ (t : List ℕ) where
  -- the first is what the text is closed, and the second without its newline
  abbrev pub Unclosed : Parsed → Parsed → Type 0
  Unclosed a b = too_long_lem a (length (fields t)) ≡ b

  pub number_unclosed : (x : Option ℕ) (k : ℕ) (next next2 : ℕ → Parsed) → ((n : ℕ) → Unclosed (next n) (next2 n)) → Unclosed (with_number x k next) (with_number x k next2)
  unfolding too_long_lem
  number_unclosed (Some n) k next next2 h = h n
  number_unclosed None k next next2 h = refl

  -- the number of fields there are
  ended_unclosed : (n : ℕ) (r : Record) → Unclosed (ended t true n r) (ended t false n r)
  unfolding too_long_lem both
  ended_unclosed n r = go (eqb (length (fields t)) n) refl
    where
      go : (b : Bool) → eqb (length (fields t)) n ≡ b → too_long_lem (pick b (Ok (Line.Record r)) (Err n)) (length (fields t)) ≡ Err n
      go true e = ap Err (eqb-true (length (fields t)) n e)
      go false e = refl

  line_unclosed : (ws : List ℕ) (first i : ℕ) (values : List ℕ) (made : Made) → Unclosed (line_from ws t true first i values made) (line_from ws t false first i values made)
  unfolding line_from
  line_unclosed [] first i values made = ended_unclosed (first + i) _
  line_unclosed (w ∷ ws) first i values made =
      number_unclosed (number_of w (field_at t (first + i))) (first + i) _ _ (λ n. line_unclosed ws first (i + 1) (set values i n) made)

  open_unclosed : Unclosed (open_line t true) (open_line t false)
  unfolding open_line open_on too_long_lem
  open_unclosed = go (lettered (field_at t 1))
    where
      go : (o : Option Device) → Unclosed (with_device o 1 (open_on t true)) (with_device o 1 (open_on t false))
      go (Some d) = line_unclosed (open_formats d) 2 0 _ (open_with d)
      go None = refl

  given_unclosed : (f : Format) (x : List ℕ) (k : ℕ) (next next2 : ℕ → Parsed) → ((n : ℕ) → Unclosed (next n) (next2 n)) → Unclosed (given f x k next) (given f x k next2)
  given_unclosed decimal x k next next2 h = number_unclosed (decimal_of x) k next next2 h
  given_unclosed (hex w) x k next next2 h = number_unclosed (hex_of w x) k next next2 h
  given_unclosed core x k next next2 h = number_unclosed (core_number_of x) k next next2 h

  read_unclosed : (fs : List Format) (k : ℕ) (made : Values fs → Record) → Unclosed (read_from fs t true k made) (read_from fs t false k made)
  read_unclosed [] k made = ended_unclosed k (made tt)
  read_unclosed (f ∷ fs) k made =
      given_unclosed f (field_at t k) k (λ x. read_from fs t true (suc k) (λ v. made (x, v))) (λ x. read_from fs t false (suc k) (λ v. made (x, v)))
      (λ x. read_unclosed fs (suc k) (λ v. made (x, v)))

  verbs_unclosed : Rows (λ read. Unclosed (read t true) (read t false)) (verbs t)
  unfolding verbs event_line packet_line offcore_line latency_line drop_line turn_line
  verbs_unclosed =
      row (λ _. open_unclosed)
      (row (λ _. read_unclosed (decimal ∷ hex 2 ∷ hex 2 ∷ decimal ∷ []) 1 (λ v. Add v.0 (Event v.1.0 v.1.1.0 (set_of v.1.1.1.0))))
      (row (λ _. read_unclosed (decimal ∷ hex 16 ∷ hex 16 ∷ decimal ∷ []) 1 (λ v. Add v.0 (Packet v.1.0 v.1.1.0 (set_of v.1.1.1.0))))
      (row (λ _. read_unclosed (decimal ∷ hex 16 ∷ decimal ∷ []) 1 (λ v. Add v.0 (Offcore v.1.0 (set_of v.1.1.0))))
      (row (λ _. read_unclosed (decimal ∷ hex 4 ∷ decimal ∷ decimal ∷ []) 1 (λ v. Add v.0 (Latency v.1.0 (set_of v.1.1.0) (set_of v.1.1.1.0))))
      (row (λ _. read_unclosed (decimal ∷ []) 1 (λ v. Drop v.0))
      (row (λ _. read_unclosed [] 1 (λ v. Turn))
      last))))))

  pub record_unclosed : Unclosed (record_of t true) (record_of t false)
  unfolding record_of too_long_lem
  record_unclosed = go (first_holding (verbs t)) refl
    where
      go : (o : Option (List ℕ → Bool → Parsed)) → first_holding (verbs t) ≡ o
          → Unclosed (elim o [ None ↦ Err 0 | Some read ↦ read t true ]) (elim o [ None ↦ Err 0 | Some read ↦ read t false ])
      go None e = refl
      go (Some read) e = first_row verbs_unclosed read e
