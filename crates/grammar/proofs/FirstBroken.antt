-- The field at fault is the first that breaks the grammar: the fields before it begin a record, made of the numbers read and of 0 for the others, and
-- no record goes on with it, for that record would have it at fault too. Assumes nothing.
use Rattle.std.proofs.lemmas.Option.{none-some}
use Rattle.std.specs.Prelude.{Option, None, Some, Err}
use mathlib.Core.Path.{◌≡◌, refl, ap, ap₂, sym, ◌∙◌}
use mathlib.Core.Bool.{Bool, true}
use mathlib.Core.List.{List, [], ◌∷◌}
use Prim.Native.Nat.{ℕ, suc, ◌≤◌, ◌<◌}
use Prim.Native.String.{String}
use native.Mathlib.Omega.{arith}
use native.Mathlib.Decide.{dec_lt}
use lib.ListN.{length, get_or, take, drop, length-take}
use lib.Seq.{drop-cons, get_or-take, take-take}
use Rattle.requests.specs.declared.Device.{Device}
use Rattle.requests.specs.declared.Device.TheVariants.{G, S, C, B}
use Rattle.requests.specs.declared.Request.TheVariants.{Event, Packet, Offcore, Latency}
use Rattle.requests.specs.Choice.{first_holding}
use Rattle.requests.specs.Devices.{letter_of, box_of}
use Rattle.grammar.specs.Text.{bytes}
use Rattle.grammar.specs.Records.{box_fields, overflow_fields, open_fields, add_fields, record_fields, Fits}
use Rattle.grammar.specs.Fields.{fields, field_at}
use Rattle.grammar.specs.Letters.{lettered}
use Rattle.grammar.specs.Verbs.{with_device, set_of, line_from, open_formats, open_as, open_with, open_on, open_line, event_line, packet_line, offcore_line, latency_line, drop_line, turn_line, has_verb, verbs, record_of}
use Rattle.grammar.specs.Grammar.{IsText}
use Rattle.grammar.specs.Parse.{is_closed, text_length, parse_line}
use Rattle.grammar.specs.FirstBroken.{line_fields, BeginsRecord, FirstBroken}
use Rattle.grammar.specs.declared.Record.{Record}
use Rattle.grammar.specs.declared.Record.TheVariants.{Add, Drop, Turn}
use Rattle.grammar.specs.Parsed.{Parsed}
use Rattle.grammar.proofs.Outcomes.{fault_not_line}
use Rattle.grammar.proofs.WordLoops.{same_bytes}
use Rattle.grammar.proofs.LetterFields.{lettered_only}
use Rattle.grammar.proofs.VerbRows.{read_by, no_verb}
use Rattle.grammar.proofs.Tabs.{some_field}
use Rattle.grammar.proofs.Texts.{TextOf, record_written}
use Rattle.grammar.proofs.Reading.{fields_read}
use Rattle.grammar.proofs.ReadBack.{Rows, last, row, first_row}
use Rattle.grammar.proofs.GrammarHolds.{grammar}
use Rattle.grammar.proofs.LongLines.{long_lines}
use Rattle.grammar.proofs.Formats.{Format, decimal, hex, core, Values, AllFit, texts, read_from}
use Rattle.grammar.proofs.BrokenFields.{Agree, AllHaveDigits, present, zeros_fit, Till, read_till}

-- what a field at fault tells of the text: the fields before it are a record's, and a text that agrees up to it has it at fault too
pub record Tells (read : List ℕ → Bool → Parsed) (t : List ℕ) (k : ℕ) : Type 0 where
  pub till : k ≤ length (fields t)
  pub begins : BeginsRecord (fields t) k
  pub same : (p : List ℕ) (closed : Bool) → Agree t p k → read p closed ≡ Err k

-- a text has a field
pub some_fields : (t : List ℕ) → 1 ≤ length (fields t)
some_fields t = let (f, fs, e) = some_field t in rw e (omega arith)

-- as many fields, by another count
as_many : (fs gs : List (List ℕ)) (k n : ℕ) → k ≡ n → take n fs ≡ take n gs → take k fs ≡ take k gs
as_many fs gs k n is e = rw is e

-- a verb that is read by formats tells so
module _ (word : String) (fs : List Format) (digits : AllHaveDigits fs) (made : Values fs → Record) (fits : (v : Values fs) → AllFit fs v → Fits (made v))
    (same : (v : Values fs) → record_fields (made v) ≡ bytes word ∷ texts fs v) where
  verb_fault : (t : List ℕ) → has_verb t word ≡ true → (closed : Bool) (k : ℕ) → read_from fs t closed 1 made ≡ Err k
      → Tells (λ p c. read_from fs p c 1 made) t k
  unfolding has_verb
  verb_fault t verb closed k e =
      let h : Till fs t 1 k made = read_till fs digits t closed 1 made k (some_fields t) e in
      let first : field_at t 0 ≡ bytes word = same_bytes (field_at t 0) (bytes word) verb in
      let is : k ≡ suc h.count = omega (arith, h.is) in
      let parts : take (suc h.count) (record_fields (made h.values)) ≡ take (suc h.count) (fields t) =
      ap (take (suc h.count)) (same h.values) ∙ ap₂ ◌∷◌ (sym first) h.spells
      ∙ ap (take (suc h.count)) (sym (drop-cons (fields t) 0 [] (some_fields t))) in
      record {
        till = h.till;
        begins = record { of = made h.values; fits = fits h.values h.fit; same = as_many _ _ k _ is parts };
        same = h.same;
      }

-- an open line does where the fields behind its letter are read by formats
module _ (d : Device) (fs : List Format) (digits : AllHaveDigits fs) (made : Values fs → Record) (fits : (v : Values fs) → AllFit fs v → Fits (made v))
    (same : (v : Values fs) → record_fields (made v) ≡ bytes "open" ∷ (letter_of d ∷ []) ∷ texts fs v) where
  device_fault : (t : List ℕ) → has_verb t "open" ≡ true → 1 < length (fields t) → field_at t 1 ≡ letter_of d ∷ [] → (closed : Bool) (k : ℕ)
      → read_from fs t closed 2 made ≡ Err k → (2 ≤ k) × Tells (λ p c. read_from fs p c 2 made) t k
  unfolding has_verb
  device_fault t verb two letter closed k e =
      let h : Till fs t 2 k made = read_till fs digits t closed 2 made k two e in
      let first : field_at t 0 ≡ bytes "open" = same_bytes (field_at t 0) (bytes "open") verb in
      let is : k ≡ suc (suc h.count) = omega (arith, h.is) in
      let behind : fields t ≡ bytes "open" ∷ (letter_of d ∷ []) ∷ drop 2 (fields t) =
      drop-cons (fields t) 0 [] (some_fields t) ∙ ap₂ ◌∷◌ first (drop-cons (fields t) 1 [] two ∙ ap (λ (f : List ℕ). f ∷ drop 2 (fields t)) letter) in
      let parts : take (suc (suc h.count)) (record_fields (made h.values)) ≡ take (suc (suc h.count)) (fields t) =
      ap (take (suc (suc h.count))) (same h.values) ∙ ap (λ (gs : List (List ℕ)). bytes "open" ∷ (letter_of d ∷ []) ∷ gs) h.spells
      ∙ ap (take (suc (suc h.count))) (sym behind) in (
        omega (arith, h.is),
        record {
          till = h.till;
          begins = record { of = made h.values; fits = fits h.values h.fit; same = as_many _ _ k _ is parts };
          same = h.same;
        },
      )

-- each device's
open_on_fault : (d : Device) (t : List ℕ) → has_verb t "open" ≡ true → 1 < length (fields t) → field_at t 1 ≡ letter_of d ∷ [] → (closed : Bool) (k : ℕ)
    → open_on t closed d ≡ Err k → (2 ≤ k) × Tells (λ p c. open_on p c d) t k
unfolding open_on open_formats open_as open_with line_from record_fields open_fields box_fields overflow_fields letter_of box_of
open_on_fault G =
    device_fault G (decimal ∷ decimal ∷ decimal ∷ core ∷ []) (tt, (tt, (tt, (tt, tt))))
    (λ v. open_with G v.0 v.1.0 v.1.1.0 v.1.1.1.0 0)
    (λ v h. (h.0, h.1.0, omega arith, h.1.1.0, h.1.1.1.0)) (λ v. refl)
open_on_fault S =
    device_fault S (decimal ∷ decimal ∷ decimal ∷ core ∷ []) (tt, (tt, (tt, (tt, tt))))
    (λ v. open_with S v.0 v.1.0 v.1.1.0 v.1.1.1.0 0)
    (λ v h. (h.0, h.1.0, omega arith, h.1.1.0, h.1.1.1.0)) (λ v. refl)
open_on_fault (C b) =
    device_fault (C b) (decimal ∷ decimal ∷ decimal ∷ decimal ∷ core ∷ []) (tt, (tt, (tt, (tt, (tt, tt)))))
    (λ v. open_with (C b) v.0 v.1.0 v.1.1.0 v.1.1.1.0 v.1.1.1.1.0)
    (λ v h. (h.0, h.1.0, h.1.1.0, h.1.1.1.0, h.1.1.1.1.0)) (λ v. refl)
open_on_fault B =
    device_fault B (decimal ∷ decimal ∷ decimal ∷ core ∷ []) (tt, (tt, (tt, (tt, tt))))
    (λ v. open_with B v.0 v.1.0 v.1.1.0 v.1.1.1.0 0)
    (λ v h. (h.0, h.1.0, omega arith, h.1.1.0, h.1.1.1.0)) (λ v. refl)

-- a record of `open`, whatever its letter
an_open : (t : List ℕ) → has_verb t "open" ≡ true → BeginsRecord (fields t) 1
unfolding open_as record_fields open_fields box_fields overflow_fields box_of has_verb
an_open t verb =
    record {
      of = open_as G 0 0 0 0;
      fits = (omega arith, omega arith, omega arith, omega arith, (zeros_fit (core ∷ [])).0);
      same =
          ap (λ (f : List ℕ). f ∷ []) (sym (same_bytes (field_at t 0) (bytes "open") verb))
          ∙ ap (take 1) (sym (drop-cons (fields t) 0 [] (some_fields t)));
    }

no_letter : lettered [] ≡ None
unfolding lettered
no_letter = refl

open_fault : (t : List ℕ) → has_verb t "open" ≡ true → (closed : Bool) (k : ℕ) → open_line t closed ≡ Err k → Tells open_line t k
unfolding open_line
open_fault t verb closed k e = go (lettered (field_at t 1)) refl e
  where
    go : (o : Option Device) → lettered (field_at t 1) ≡ o → with_device o 1 (open_on t closed) ≡ Err k → Tells open_line t k
    go None p q =
        let is : 1 ≡ k = cc in
        rw (← is) (record { till = some_fields t; begins = an_open t verb; same = λ u c a. rw (a.alike 1 (omega arith), p) })
    go (Some d) p q =
        let two : 1 < length (fields t) = present lettered t 1 (λ z. none-some d (sym no_letter ∙ sym z ∙ p)) in
        let (behind, h) = open_on_fault d t verb two (lettered_only (field_at t 1) d p) closed k q in
        record { till = h.till; begins = h.begins; same = λ u c a. rw (a.alike 1 (omega arith), p) (h.same u c a) }

-- each verb tells so
verb_rows : (t : List ℕ) → Rows (λ read. (closed : Bool) (k : ℕ) → read t closed ≡ Err k → Tells read t k) (verbs t)
unfolding verbs event_line packet_line offcore_line latency_line drop_line turn_line record_fields add_fields
verb_rows t =
    row (open_fault t)
    (row (verb_fault "event" (decimal ∷ hex 2 ∷ hex 2 ∷ decimal ∷ []) (tt, (omega arith, (omega arith, (tt, tt))))
    (λ v. Add v.0 (Event v.1.0 v.1.1.0 (set_of v.1.1.1.0))) (λ v h. four h) (λ v. refl) t)
    (row (verb_fault "packet" (decimal ∷ hex 16 ∷ hex 16 ∷ decimal ∷ []) (tt, (omega arith, (omega arith, (tt, tt))))
    (λ v. Add v.0 (Packet v.1.0 v.1.1.0 (set_of v.1.1.1.0))) (λ v h. four h) (λ v. refl) t)
    (row (verb_fault "offcore" (decimal ∷ hex 16 ∷ decimal ∷ []) (tt, (omega arith, (tt, tt)))
    (λ v. Add v.0 (Offcore v.1.0 (set_of v.1.1.0))) (λ v h. (h.0, h.1.0, h.1.1.0)) (λ v. refl) t)
    (row (verb_fault "latency" (decimal ∷ hex 4 ∷ decimal ∷ decimal ∷ []) (tt, (omega arith, (tt, (tt, tt))))
    (λ v. Add v.0 (Latency v.1.0 (set_of v.1.1.0) (set_of v.1.1.1.0))) (λ v h. four h) (λ v. refl) t)
    (row (verb_fault "drop" (decimal ∷ []) (tt, tt) (λ v. Drop v.0) (λ v h. h.0) (λ v. refl) t)
    (row (verb_fault "turn" [] tt (λ v. Turn) (λ v h. tt) (λ v. refl) t)
    last))))))
  where
    four : {A B C D : Type 0} → A × (B × (C × (D × Unit {0}))) → A × B × C × D
    four h = (h.0, h.1.0, h.1.1.0, h.1.1.1.0)

-- the verbs go by the first field
same_verbs : (t p : List ℕ) → field_at p 0 ≡ field_at t 0 → verbs p ≡ verbs t
unfolding verbs has_verb
same_verbs t p same = rw same

-- every text does
pub text_fault : (t : List ℕ) (closed : Bool) (k : ℕ) → record_of t closed ≡ Err k → Tells record_of t k
text_fault t closed k e = go (first_holding (verbs t)) refl
  where
    alike : (p : List ℕ) → Agree t p k → verbs p ≡ verbs t
    alike p a = same_verbs t p (a.alike 0 (omega arith))

    go : (o : Option (List ℕ → Bool → Parsed)) → first_holding (verbs t) ≡ o → Tells record_of t k
    go None p =
        let no_such : Err 0 ≡ Err k = sym (no_verb t closed p) ∙ e in
        let is : 0 ≡ k = cc in
        record {
          till = omega arith;
          begins = rw (← is) (record { of = Turn; fits = tt; same = refl });
          same = λ u c a. no_verb u c (ap first_holding (alike u a) ∙ p) ∙ no_such;
        }
    go (Some read) p =
        let h : Tells read t k = first_row (verb_rows t) read p closed k (sym (read_by t closed read p) ∙ e) in
        record { till = h.till; begins = h.begins; same = λ u c a. read_by u c read (ap first_holding (alike u a) ∙ p) ∙ h.same u c a }

-- ---- the statement

-- texts with the same first fields
pub agree : (t p : List ℕ) (k : ℕ) → k < length (fields t) → take (suc k) (fields p) ≡ take (suc k) (fields t) → Agree t p k
agree t p k h e =
    record {
      alike = λ i l. sym (get_or-take (suc k) (fields p) i [] (omega arith)) ∙ ap (λ (fs : List (List ℕ)). get_or fs i []) e ∙ get_or-take (suc k) (fields t) i [] (omega arith);
      one = h;
      other = omega (arith, ap length e, length-take (suc k) (fields p), length-take (suc k) (fields t));
    }

-- no record goes on with the field at fault
pub goes_on : (t : List ℕ) (closed : Bool) (k : ℕ) → record_of t closed ≡ Err k → k < length (fields t) → ¬ BeginsRecord (fields t) (suc k)
goes_on t closed k e h b =
    let w : TextOf b.of = record_written b.of b.fits in
    let a : Agree t w.text k = agree t w.text k h (ap (take (suc k)) w.parts ∙ b.same) in
    fault_not_line k b.of (sym ((text_fault t closed k e).same w.text true a) ∙ fields_read w.text b.of b.fits w.parts)

-- fewer fields begin the same record
fewer : (fs : List (List ℕ)) (j k : ℕ) → j ≤ k → BeginsRecord fs k → BeginsRecord fs j
fewer fs j k h b =
    record {
      of = b.of;
      fits = b.fits;
      same = sym (take-take j k (record_fields b.of) h) ∙ ap (take j) b.same ∙ take-take j k fs h;
    }

module _ (line : List ℕ) where
  read_whole : (k : ℕ) → parse_line line ≡ Err k → record_of (take (text_length line) line) (is_closed line) ≡ Err k
  read_whole k e = sym (long_lines.whole line) ∙ e

  told : (k : ℕ) → parse_line line ≡ Err k → Tells record_of (take (text_length line) line) k
  told k e = text_fault (take (text_length line) line) (is_closed line) k (read_whole k e)

  broken : (k : ℕ) → parse_line line ≡ Err k → k < length (line_fields line) → ¬ BeginsRecord (line_fields line) (suc k)
  broken k e = goes_on (take (text_length line) line) (is_closed line) k (read_whole k e)

  stops : parse_line line ≡ Err (length (line_fields line)) → is_closed line ≡ true → (r : Record) → Fits r → ¬ (record_fields r ≡ line_fields line)
  stops e closed r fits parts =
      fault_not_line (length (line_fields line)) r
      (sym (read_whole (length (line_fields line)) e) ∙ ap (record_of (take (text_length line) line)) closed ∙ fields_read (take (text_length line) line) r fits (sym parts))

  only : ((r : Record) → ¬ IsText line r) → (k : ℕ) → k ≤ length (line_fields line) → BeginsRecord (line_fields line) k
      → (k < length (line_fields line) → ¬ BeginsRecord (line_fields line) (suc k)) → parse_line line ≡ Err k
  only no_text k within good wrong = let (j, e) = grammar.other line no_text in go j e (dec_lt j k) (dec_lt k j)
    where
      go : (j : ℕ) → parse_line line ≡ Err j → Dec (j < k) → Dec (k < j) → parse_line line ≡ Err k
      go j e (yes h) d = absurd (broken j e (omega arith) (fewer (line_fields line) (suc j) k h good))
      go j e (no h) (yes l) = absurd (wrong (omega (arith, (told j e).till)) (fewer (line_fields line) (suc k) j l (told j e).begins))
      go j e (no h) (no l) = e ∙ ap Err (omega arith)

pub first_broken : FirstBroken
first_broken =
    record {
      within = λ line k e. (told line k e).till;
      good = λ line k e. (told line k e).begins;
      broken = broken;
      stops = stops;
      only = only;
    }
