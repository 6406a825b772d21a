-- A text that gives a record has that record's fields, with their numbers in range: each verb is read by formats, and the verbs by their table. Assumes nothing.
use Rattle.std.specs.Prelude.{Option, None, Some, Ok, Err}
use mathlib.Core.Path.{◌≡◌, refl, ap, ap₂, sym, ◌∙◌}
use mathlib.Core.Bool.{Bool, true, false}
use mathlib.Core.List.{List, [], ◌∷◌}
use Prim.Native.Nat.{ℕ}
use Prim.Native.String.{String}
use native.Mathlib.Omega.{arith}
use lib.ListN.{drop}
use lib.Seq.{drop-cons}
use Rattle.requests.specs.declared.Device.{Device}
use Rattle.requests.specs.declared.Device.TheVariants.{G, S, C, B}
use Rattle.requests.specs.declared.Request.TheVariants.{Event, Packet, Offcore, Latency}
use Rattle.requests.specs.Choice.{Row, first_holding}
use Rattle.requests.specs.Devices.{letter_of, box_of}
use Rattle.grammar.specs.Text.{bytes}
use Rattle.grammar.specs.Records.{box_fields, overflow_fields, open_fields, add_fields, record_fields, Fits}
use Rattle.grammar.specs.Fields.{fields, field_at}
use Rattle.grammar.specs.Verbs.{set_of, line_from, open_formats, open_as, open_with, open_on, open_line, event_line, packet_line, offcore_line, latency_line, drop_line, turn_line, has_verb, verbs, record_of}
use Rattle.grammar.specs.Letters.{lettered}
use Rattle.grammar.specs.declared.Record.{Record}
use Rattle.grammar.specs.declared.Record.TheVariants.{Add, Drop, Turn}
use Rattle.grammar.specs.Parsed.{Parsed}
use Rattle.grammar.specs.declared.Line.{Line}
use Rattle.grammar.proofs.Outcomes.{fault_not_line}
use Rattle.grammar.proofs.WordLoops.{same_bytes}
use Rattle.grammar.proofs.LetterFields.{lettered_only, device_only}
use Rattle.grammar.proofs.Formats.{Format, decimal, hex, core, Values, AllFit, texts, read_from, Rest, read_only}

-- what a record tells of the text that gives it
pub record Told (t : List ℕ) (closed : Bool) (r : Record) : Type 0 where
  pub newline_read : closed ≡ true
  pub fits : Fits r
  pub parts : fields t ≡ record_fields r

-- a verb that is read by formats tells so
module _ (word : String) (fs : List Format) (made : Values fs → Record) (fits : (v : Values fs) → AllFit fs v → Fits (made v))
    (same : (v : Values fs) → record_fields (made v) ≡ bytes word ∷ texts fs v) where
  verb_only : (t : List ℕ) → has_verb t word ≡ true → (closed : Bool) (r : Record) → read_from fs t closed 1 made ≡ Ok (Line.Record r) → Told t closed r
  unfolding has_verb
  verb_only t verb closed r e =
      let rest : Rest fs t closed 1 made r = read_only fs t closed 1 made r e in
      let first : field_at t 0 ≡ bytes word = same_bytes (field_at t 0) (bytes word) verb in
      let parts : fields t ≡ bytes word ∷ texts fs rest.values = drop-cons (fields t) 0 [] (omega (arith, rest.count)) ∙ ap₂ ◌∷◌ first rest.spells in
      record {
        newline_read = rest.newline_read;
        fits = rw rest.is (fits rest.values rest.fit);
        parts = parts ∙ sym (same rest.values) ∙ ap record_fields (sym rest.is);
      }

-- an open line does where the fields behind its letter are read by formats
module _ (d : Device) (fs : List Format) (made : Values fs → Record) (fits : (v : Values fs) → AllFit fs v → Fits (made v))
    (same : (v : Values fs) → record_fields (made v) ≡ bytes "open" ∷ (letter_of d ∷ []) ∷ texts fs v) where
  device_tells : (t : List ℕ) → has_verb t "open" ≡ true → field_at t 1 ≡ letter_of d ∷ [] → (closed : Bool) (r : Record)
      → read_from fs t closed 2 made ≡ Ok (Line.Record r) → Told t closed r
  unfolding has_verb
  device_tells t verb letter closed r e =
      let rest : Rest fs t closed 2 made r = read_only fs t closed 2 made r e in
      let behind : drop 1 (fields t) ≡ (letter_of d ∷ []) ∷ texts fs rest.values =
      drop-cons (fields t) 1 [] (omega (arith, rest.count)) ∙ ap₂ ◌∷◌ letter rest.spells in
      let first : field_at t 0 ≡ bytes "open" = same_bytes (field_at t 0) (bytes "open") verb in
      record {
        newline_read = rest.newline_read;
        fits = rw rest.is (fits rest.values rest.fit);
        parts = drop-cons (fields t) 0 [] (omega (arith, rest.count)) ∙ ap₂ ◌∷◌ first behind ∙ sym (same rest.values) ∙ ap record_fields (sym rest.is);
      }

-- each device's
open_on_tells : (d : Device) (t : List ℕ) → has_verb t "open" ≡ true → field_at t 1 ≡ letter_of d ∷ [] → (closed : Bool) (r : Record)
    → open_on t closed d ≡ Ok (Line.Record r) → Told t closed r
unfolding open_on open_formats open_as open_with line_from record_fields open_fields box_fields overflow_fields letter_of box_of
open_on_tells G =
    device_tells G (decimal ∷ decimal ∷ decimal ∷ core ∷ []) (λ v. open_with G v.0 v.1.0 v.1.1.0 v.1.1.1.0 0)
    (λ v h. (h.0, h.1.0, omega arith, h.1.1.0, h.1.1.1.0)) (λ v. refl)
open_on_tells S =
    device_tells S (decimal ∷ decimal ∷ decimal ∷ core ∷ []) (λ v. open_with S v.0 v.1.0 v.1.1.0 v.1.1.1.0 0)
    (λ v h. (h.0, h.1.0, omega arith, h.1.1.0, h.1.1.1.0)) (λ v. refl)
open_on_tells (C b) =
    device_tells (C b) (decimal ∷ decimal ∷ decimal ∷ decimal ∷ core ∷ [])
    (λ v. open_with (C b) v.0 v.1.0 v.1.1.0 v.1.1.1.0 v.1.1.1.1.0)
    (λ v h. (h.0, h.1.0, h.1.1.0, h.1.1.1.0, h.1.1.1.1.0)) (λ v. refl)
open_on_tells B =
    device_tells B (decimal ∷ decimal ∷ decimal ∷ core ∷ []) (λ v. open_with B v.0 v.1.0 v.1.1.0 v.1.1.1.0 0)
    (λ v h. (h.0, h.1.0, omega arith, h.1.1.0, h.1.1.1.0)) (λ v. refl)

open_tells : (t : List ℕ) → has_verb t "open" ≡ true → (closed : Bool) (r : Record) → open_line t closed ≡ Ok (Line.Record r) → Told t closed r
unfolding open_line
open_tells t verb closed r e =
    let (d, letter, rest) = device_only (lettered (field_at t 1)) 1 (open_on t closed) r e in
    open_on_tells d t verb (lettered_only (field_at t 1) d letter) closed r rest

-- what every row of a table has that holds
pub data Rows {A : Type 0} (P : A → Type 0) : List (Row A) → Type 0 where
  last : Rows P []
  row : {b : Bool} {a : A} {rows : List (Row A)} → (b ≡ true → P a) → Rows P rows → Rows P ((b, a) ∷ rows)

-- the first one has it
pub first_row : {A : Type 0} {P : A → Type 0} {rows : List (Row A)} → Rows P rows → (a : A) → first_holding rows ≡ Some a → P a
unfolding first_holding
first_row last a e = let z : ◌≡◌ {A = ℕ} 0 1 = cc in absurd (omega arith)
first_row {P = P} (row {b = true} {a = b} p ps) a e = let is : b ≡ a = cc in rw is at (p refl)
first_row (row {b = false} p ps) a e = first_row ps a e

-- each verb tells so
verb_rows : (t : List ℕ) → Rows (λ read. (closed : Bool) (r : Record) → read t closed ≡ Ok (Line.Record r) → Told t closed r) (verbs t)
unfolding verbs event_line packet_line offcore_line latency_line drop_line turn_line record_fields add_fields
verb_rows t =
    row (open_tells t)
    (row (verb_only "event" (decimal ∷ hex 2 ∷ hex 2 ∷ decimal ∷ [])
    (λ v. Add v.0 (Event v.1.0 v.1.1.0 (set_of v.1.1.1.0))) (λ v h. four h) (λ v. refl) t)
    (row (verb_only "packet" (decimal ∷ hex 16 ∷ hex 16 ∷ decimal ∷ [])
    (λ v. Add v.0 (Packet v.1.0 v.1.1.0 (set_of v.1.1.1.0))) (λ v h. four h) (λ v. refl) t)
    (row (verb_only "offcore" (decimal ∷ hex 16 ∷ decimal ∷ [])
    (λ v. Add v.0 (Offcore v.1.0 (set_of v.1.1.0))) (λ v h. (h.0, h.1.0, h.1.1.0)) (λ v. refl) t)
    (row (verb_only "latency" (decimal ∷ hex 4 ∷ decimal ∷ decimal ∷ [])
    (λ v. Add v.0 (Latency v.1.0 (set_of v.1.1.0) (set_of v.1.1.1.0))) (λ v h. four h) (λ v. refl) t)
    (row (verb_only "drop" (decimal ∷ []) (λ v. Drop v.0) (λ v h. h.0) (λ v. refl) t)
    (row (verb_only "turn" [] (λ v. Turn) (λ v h. tt) (λ v. refl) t)
    last))))))
  where
    four : {A B C D : Type 0} → A × (B × (C × (D × Unit {0}))) → A × B × C × D
    four h = (h.0, h.1.0, h.1.1.0, h.1.1.1.0)

-- a text that gives a record has its fields
pub record_tells : (t : List ℕ) (closed : Bool) (r : Record) → record_of t closed ≡ Ok (Line.Record r) → Told t closed r
unfolding record_of
record_tells t closed r e = go (first_holding (verbs t)) refl e
  where
    go : (o : Option (List ℕ → Bool → Parsed)) → first_holding (verbs t) ≡ o → ◌≡◌ {A = Parsed} (elim o [ None ↦ Err 0 | Some read ↦ read t closed ]) (Ok (Line.Record r)) → Told t closed r
    go None p q = absurd (fault_not_line 0 r q)
    go (Some read) p q = first_row (verb_rows t) read p closed r q
