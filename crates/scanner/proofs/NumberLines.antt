-- The numbers of a line are read one by one, at a place of their formats; the line of each verb that adds a request is what is made of them, and those of an
-- event or a latency request are in range. Assumes nothing.
use Rattle.std.specs.Prelude.{Option, None, Some}
use Rattle.std.specs.Option.{ok_or}
use Prim.Native.Nat.{ℕ, zero, suc, ◌+◌, ◌<◌, ◌≤◌}
use mathlib.Core.Path.{◌≡◌, refl, sym, ◌∙◌}
use mathlib.Core.Bool.{Bool, true, false}
use mathlib.Core.List.{List, [], ◌∷◌}
use mathlib.Core.Logic.{⊎_elim}
use native.Mathlib.Numerals.{add-one}
use native.Mathlib.Nat.{le_antisymm}
use native.Mathlib.Omega.{arith}
use lib.Dec.{eqb}
use lib.ListN.{length, get_or, set, drop, replicate, length-set, length-replicate, get_or-replicate}
use lib.Seq.{drop-cons, drop-length, get_or-set_same, get_or-set_other}
use Rattle.std.proofs.Common.{Result, Ok, Err}
use Rattle.std.proofs.lemmas.Bool.{cases_eq, cases_lt}
use Rattle.std.proofs.lemmas.List.{get_or_past}
use Rattle.requests.specs.Choice.{both}
use Rattle.requests.specs.declared.Device.{Device}
use Rattle.requests.specs.declared.Device.TheVariants.{G, S, C, B}
use Rattle.requests.specs.declared.Request.TheVariants.{Event, Packet, Offcore, Latency}
use Rattle.grammar.specs.Records.{Fits}
use Rattle.grammar.specs.Fields.{fields, field_at}
use Rattle.grammar.specs.Numbers.{number_of}
use Rattle.grammar.specs.Verbs.{set_of, event_line, packet_line, offcore_line, latency_line, open_formats, open_as, open_with, open_on, with_number, Made, line_from, number_line}
use Rattle.scanner.specs.declared.Format.{Format}
use Rattle.scanner.specs.Formats.{IsFormat}
use Rattle.scanner.specs.LineNumbers.{AreFormats, made_of, Numbered}
use Rattle.grammar.specs.declared.Record.{Record}
use Rattle.grammar.specs.declared.Record.TheVariants.{Add}
use Rattle.grammar.specs.declared.Line.{Line}
use Rattle.grammar.proofs.Formats.{decimal, hex, read_only}

-- a format among others
pub format_at : (fs : List Format) → AreFormats fs → (i : ℕ) (d : Format) → i < length fs → IsFormat (get_or fs i d)
format_at [] h i d l = let z : ⊥ = omega arith in absurd z
format_at (f ∷ fs) h zero d l = h.0
format_at (f ∷ fs) h (suc i) d l = format_at fs h.1 i d (omega arith)

-- values that are equal at each place make the same line, wherever the next number is set
same_values : (ws t : List ℕ) (closed : Bool) (first i : ℕ) (us vs : List ℕ) (made : Made) → ((k : ℕ) → get_or us k 0 ≡ get_or vs k 0)
    → i + length ws ≤ length us → i + length ws ≤ length vs → line_from ws t closed first i us made ≡ line_from ws t closed first i vs made
unfolding line_from
same_values [] t closed first i us vs made e a b = rw (e 0, e 1, e 2, e 3, e 4)
same_values (w ∷ ws) t closed first i us vs made e a b =
    go (number_of w (field_at t (first + i)))
    (λ n. same_values ws t closed first (i + 1) (set us i n) (set vs i n) made (set_in_both n) (rw length-set (omega arith)) (rw length-set (omega arith)))
  where
    set_in_both : (n k : ℕ) → get_or (set us i n) k 0 ≡ get_or (set vs i n) k 0
    set_in_both n k =
        ⊎_elim
        (λ s. rw (s, get_or-set_same us i n 0 (omega arith), get_or-set_same vs i n 0 (omega arith)))
        (λ o. get_or-set_other us i k n 0 o ∙ e k ∙ sym (get_or-set_other vs i k n 0 o))
        (cases_eq k i)

    go : (x : Option ℕ) → ((n : ℕ) → line_from ws t closed first (i + 1) (set us i n) made ≡ line_from ws t closed first (i + 1) (set vs i n) made)
        → with_number x (first + i) (λ n. line_from ws t closed first (i + 1) (set us i n) made)
        ≡ with_number x (first + i) (λ n. line_from ws t closed first (i + 1) (set vs i n) made)
    go (Some n) later = later n
    go None later = refl

-- the first i numbers are read: the line is what they and those that are left make
pub record ReadTo (first : ℕ) (ws t : List ℕ) (closed : Bool) (values : List ℕ) (i : ℕ) : Type 0 where
  pub within : i ≤ length ws
  pub keeps : (made : Made) → number_line first ws t closed made ≡ line_from (drop i ws) t closed first i values made

-- a field that spells no number is the one at fault
pub at_fault : (x : Option ℕ) (k n : ℕ) → ok_or x k ≡ Err n → (x ≡ None) × (n ≡ k)
at_fault (Some m) k n e = let z : ◌≡◌ {A = ℕ} 0 1 = cc in absurd (omega arith)
at_fault None k n e = (refl, cc)

-- zeros are zero, and past them too
zeros : (n k : ℕ) → get_or {A = ℕ} (replicate n 0) k 0 ≡ 0
zeros n k = ⊎_elim (λ l. get_or-replicate n k 0 0 l) (λ m. get_or_past (replicate n 0) k 0 (rw length-replicate m)) (cases_lt k n)

-- none is read
pub none_read : (first : ℕ) (ws t : List ℕ) (closed : Bool) (n : ℕ) → length ws ≡ n → n ≤ 5 → ReadTo first ws t closed (replicate n 0) 0
none_read first ws t closed n l few =
    record {
      within = omega arith;
      keeps = λ made. same_values ws t closed first 0 (replicate 5 0) (replicate n 0) made (λ k. zeros 5 k ∙ sym (zeros n k)) (omega arith) (rw length-replicate (omega arith));
    }

module _ {first : ℕ} {ws t : List ℕ} {closed : Bool} {values : List ℕ} {i : ℕ} (s : ReadTo first ws t closed values i) where
  -- the next one is read
  pub number_next : {n : ℕ} → i < length ws → number_of (get_or ws i 0) (field_at t (first + i)) ≡ Some n → ReadTo first ws t closed (set values i n) (i + 1)
  unfolding line_from
  number_next h e = record { within = omega arith; keeps = λ made. s.keeps made ∙ rw (drop-cons ws i 0 h, e, add-one) }

  -- or is none
  pub number_bad : i < length ws → number_of (get_or ws i 0) (field_at t (first + i)) ≡ None → Numbered first ws t closed (Err (first + i))
  unfolding line_from
  number_bad h e = record { tells = λ made. s.keeps made ∙ rw (drop-cons ws i 0 h, e) }

  -- all are read, and they are the whole line or not
  pub numbers_whole : length ws ≤ i → both closed (eqb (length (fields t)) (first + length ws)) ≡ true → Numbered first ws t closed (Ok values)
  unfolding line_from
  numbers_whole k e = record { tells = λ made. s.keeps made ∙ rw (le_antisymm s.within k, drop-length, e) }

  pub numbers_part : length ws ≤ i → both closed (eqb (length (fields t)) (first + length ws)) ≡ false → Numbered first ws t closed (Err (first + length ws))
  unfolding line_from
  numbers_part k e = record { tells = λ made. s.keeps made ∙ rw (le_antisymm s.within k, drop-length, e) }

-- each verb is what is made of its numbers
module _ {t : List ℕ} {closed : Bool} {r : Result (List ℕ) ℕ} where
  pub event_line_lem : Numbered 1 (0 ∷ 2 ∷ 2 ∷ 0 ∷ []) t closed r → event_line t closed ≡ made_of r (λ id code mask allowed none. Add id (Event code mask (set_of allowed)))
  unfolding event_line line_from
  event_line_lem n = n.tells _

  pub packet_line_lem : Numbered 1 (0 ∷ 16 ∷ 16 ∷ 0 ∷ []) t closed r → packet_line t closed ≡ made_of r (λ id value mask allowed none. Add id (Packet value mask (set_of allowed)))
  unfolding packet_line line_from
  packet_line_lem n = n.tells _

  pub offcore_line_lem : Numbered 1 (0 ∷ 16 ∷ 0 ∷ []) t closed r → offcore_line t closed ≡ made_of r (λ id word allowed none nor. Add id (Offcore word (set_of allowed)))
  unfolding offcore_line line_from
  offcore_line_lem n = n.tells _

  pub latency_line_lem : Numbered 1 (0 ∷ 4 ∷ 0 ∷ 0 ∷ []) t closed r → latency_line t closed ≡ made_of r (λ id types first second none. Add id (Latency types (set_of first) (set_of second)))
  unfolding latency_line line_from
  latency_line_lem n = n.tells _

  pub open_box : (b : ℕ) → Numbered 2 (0 ∷ 0 ∷ 0 ∷ 0 ∷ 17 ∷ []) t closed r
      → open_on t closed (C b) ≡ made_of r (λ usable fixed box freeze core. open_as (C box) usable fixed freeze core)
  unfolding open_on open_formats open_with
  open_box b n = n.tells _

  pub open_other : (d : Device) → ((b : ℕ) → d ≡ C b → ⊥) → Numbered 2 (0 ∷ 0 ∷ 0 ∷ 17 ∷ []) t closed r
      → open_on t closed d ≡ made_of r (λ usable fixed freeze core none. open_as d usable fixed freeze core)
  unfolding open_on open_formats open_with
  open_other G other n = n.tells _
  open_other S other n = n.tells _
  open_other (C b) other n = absurd (other b refl)
  open_other B other n = n.tells _

-- they are in range
module _ (t : List ℕ) (closed : Bool) (r : Record) where
  pub event_fits : event_line t closed ≡ Ok (Line.Record r) → Fits r
  unfolding event_line
  event_fits e =
      let rest = read_only (decimal ∷ hex 2 ∷ hex 2 ∷ decimal ∷ []) t closed 1 (λ v. Add v.0 (Event v.1.0 v.1.1.0 (set_of v.1.1.1.0))) r e in
      let h = rest.fit in
      rw rest.is (h.0, h.1.0, h.1.1.0, h.1.1.1.0)

  pub latency_fits_lem : latency_line t closed ≡ Ok (Line.Record r) → Fits r
  unfolding latency_line
  latency_fits_lem e =
      let rest = read_only (decimal ∷ hex 4 ∷ decimal ∷ decimal ∷ []) t closed 1 (λ v. Add v.0 (Latency v.1.0 (set_of v.1.1.0) (set_of v.1.1.1.0))) r e in
      let h = rest.fit in
      rw rest.is (h.0, h.1.0, h.1.1.0, h.1.1.1.0)
