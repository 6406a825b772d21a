-- The field at fault is the first that breaks the grammar: the fields before it begin a record or a request by name, and neither goes on with it, for
-- it would have it at fault too. Assumes nothing.
use Rattle.std.specs.Prelude.{Option, None, Some, Ok, Err}
use mathlib.Core.Path.{◌≡◌, refl, ap, sym, ◌∙◌}
use mathlib.Core.Bool.{Bool, true, false, true≢false}
use mathlib.Core.List.{List, [], ◌∷◌, ◌++◌}
use Prim.Native.Nat.{ℕ, suc, ◌≤◌, ◌<◌}
use native.Mathlib.Omega.{arith}
use native.Mathlib.Decide.{dec_lt}
use lib.ListN.{length, take}
use lib.Seq.{take-suc, take-take}
use Rattle.requests.specs.Choice.{both}
use Rattle.requests.specs.declared.CounterSet.{CounterSet}
use Rattle.requests.specs.declared.Device.{Device}
use Rattle.requests.specs.declared.Device.TheVariants.{G}
use Rattle.requests.specs.declared.Request.{Request}
use Rattle.grammar.specs.Text.{bytes}
use Rattle.grammar.specs.Fields.{fields, field_at}
use Rattle.grammar.specs.Numbers.{decimal_of}
use Rattle.grammar.specs.Records.{record_fields, Fits}
use Rattle.grammar.specs.Verbs.{is_whole, set_of, has_verb, record_of}
use Rattle.grammar.specs.Parse.{is_closed, text_length}
use Rattle.grammar.specs.FirstBroken.{line_fields}
use Rattle.grammar.specs.declared.Record.{Record}
use Rattle.grammar.specs.Parsed.{Parsed}
use Rattle.grammar.specs.declared.Line.{Line}
use Rattle.grammar.proofs.Outcomes.{bad_not_value, fault_not_line}
use Rattle.grammar.proofs.Decimals.{decimal_only}
use Rattle.grammar.proofs.WordLoops.{same_bytes}
use Rattle.grammar.proofs.Texts as records
use Rattle.grammar.proofs.Reading.{fields_read}
use Rattle.grammar.proofs.BrokenFields.{Agree, more_fields, decimal_missing, present}
use Rattle.grammar.proofs.FirstBroken.{Tells, some_fields, text_fault, agree}
use Rattle.names.specs.EventNames.{name_byte, name_bytes, longest_name, is_name, IsName}
use Rattle.names.specs.Lists.{NameLists}
use Rattle.names.specs.RowGrammar.{list_text, empty, AreLists}
use Rattle.names.specs.Named.{request_named}
use Rattle.names.proofs.NameBytes.{names_tested}
use Rattle.names.proofs.GrammarHolds.{list_grammar}
use Rattle.parser.specs.NamedText.{named_fields, NamedFits, Outside}
use Rattle.parser.specs.ParseWith.{add_named, named_line, record_with, parse_line_with}
use Rattle.parser.specs.FirstBroken.{Begins, as_record, as_named, FirstBroken}
use Rattle.parser.proofs.NamedReading.{TextOf, named_written, said_verb, said_line}
use Rattle.parser.proofs.VerbsRead.{named_no_record, asked_record, asked_named, add_formed}
use Rattle.parser.proofs.ParsedLines.{parsed_lines, other_lines}
use Rattle.parser.proofs.LongLines.{long_lines}

-- ---- a request by name

-- a name
a_name : IsName (bytes "A")
unfolding bytes is_name longest_name name_bytes name_byte both
a_name = names_tested.passed (bytes "A") refl

no_name : is_name [] ≡ false
unfolding is_name
no_name = refl

-- the first fields of a text that has as many
module _ (t : List ℕ) where
  abbrev f : ℕ → List ℕ
  f k = field_at t k

  first_1 : take 1 (fields t) ≡ f 0 ∷ []
  first_1 = take-suc (fields t) 0 [] (some_fields t)

  first_2 : 1 < length (fields t) → take 2 (fields t) ≡ f 0 ∷ f 1 ∷ []
  first_2 h = take-suc (fields t) 1 [] h ∙ ap (λ (fs : List (List ℕ)). fs ++ f 1 ∷ []) first_1

  first_3 : 2 < length (fields t) → take 3 (fields t) ≡ f 0 ∷ f 1 ∷ f 2 ∷ []
  first_3 h = take-suc (fields t) 2 [] h ∙ ap (λ (fs : List (List ℕ)). fs ++ f 2 ∷ []) (first_2 (omega arith))

  first_4 : 3 < length (fields t) → take 4 (fields t) ≡ f 0 ∷ f 1 ∷ f 2 ∷ f 3 ∷ []
  first_4 h = take-suc (fields t) 3 [] h ∙ ap (λ (fs : List (List ℕ)). fs ++ f 3 ∷ []) (first_3 (omega arith))

-- fields that begin a request by name
begins_named : (fs : List (List ℕ)) (k id : ℕ) (name : List ℕ) (a : CounterSet) → NamedFits id name a → take k (named_fields id name a) ≡ take k fs → Begins fs k
begins_named fs k id name a fits same = as_named (record { id = id; name = name; allowed = a; fits = fits; same = same })

-- what a field at fault tells of the text
record TellsWith (read : List ℕ → Bool → Parsed) (t : List ℕ) (k : ℕ) : Type 0 where
  till : k ≤ length (fields t)
  begins : Begins (fields t) k
  same : (p : List ℕ) (closed : Bool) → Agree t p k → read p closed ≡ Err k

fault_not_named : (k id : ℕ) (r : Request) → Err k ≡ Ok (Line.Named id r) → ⊥
fault_not_named k id r e = let z : ◌≡◌ {A = ℕ} 0 1 = cc in omega arith

module _ (n : NameLists) (l : AreLists n) (d : Device) where
  added : (name : List ℕ) (id : ℕ) (a : CounterSet) → add_named n d name id a ≡ Ok (Line.Named id (request_named n name d a))
  added name id a = add_formed n d name id a (list_grammar.both_formed n l)

  named_fault : (t : List ℕ) → has_verb t "named" ≡ true → (closed : Bool) (k : ℕ) → named_line n d t closed ≡ Err k → TellsWith (named_line n d) t k
  unfolding has_verb named_line
  named_fault t verb closed k e = go (decimal_of (field_at t 1)) refl (is_name (field_at t 2)) refl (decimal_of (field_at t 3)) refl (is_whole t closed 4) refl
    where
      word : field_at t 0 ≡ bytes "named"
      word = same_bytes (field_at t 0) (bytes "named") verb

      there : (j x : ℕ) → decimal_of (field_at t j) ≡ Some x → j < length (fields t)
      there j x p = present decimal_of t j (λ z. bad_not_value x (sym decimal_missing ∙ sym z ∙ p))

      name_there : is_name (field_at t 2) ≡ true → 2 < length (fields t)
      name_there q = present is_name t 2 (λ z. true≢false (sym q ∙ z ∙ no_name))

      go : (x : Option ℕ) → decimal_of (field_at t 1) ≡ x → (b : Bool) → is_name (field_at t 2) ≡ b → (y : Option ℕ) → decimal_of (field_at t 3) ≡ y
          → (w : Bool) → is_whole t closed 4 ≡ w → TellsWith (named_line n d) t k
      go None p b q y r w u =
          let at : Err 1 ≡ Err k = rw p at e in
          let is : 1 ≡ k = cc in
          rw (← is) (record {
            till = some_fields t;
            begins = begins_named (fields t) _ 0 (bytes "A") (set_of 0) (omega arith, a_name, omega arith) (sym (first_1 t ∙ rw word));
            same = λ m c a. rw (a.alike 1 (omega arith), p);
          })
      go (Some id) p false q y r w u =
          let at : Err 2 ≡ Err k = rw (p, q) at e in
          let is : 2 ≡ k = cc in
          let first = decimal_only (field_at t 1) id p in
          rw (← is) (record {
            till = there 1 id p;
            begins = begins_named (fields t) _ id (bytes "A") (set_of 0) (first.0, a_name, omega arith) (sym (first_2 t (there 1 id p) ∙ rw (word, first.1)));
            same = λ m c a. rw (a.alike 1 (omega arith), a.alike 2 (omega arith), p, q);
          })
      go (Some id) p true q None r w u =
          let at : Err 3 ≡ Err k = rw (p, q, r) at e in
          let is : 3 ≡ k = cc in
          let first = decimal_only (field_at t 1) id p in
          rw (← is) (record {
            till = name_there q;
            begins = begins_named (fields t) _ id (field_at t 2) (set_of 0) (first.0, names_tested.passed (field_at t 2) q, omega arith) (sym (first_3 t (name_there q) ∙ rw (word, first.1)));
            same = λ m c a. rw (a.alike 1 (omega arith), a.alike 2 (omega arith), a.alike 3 (omega arith), p, q, r);
          })
      go (Some id) p true q (Some v) r false u =
          let at : Err 4 ≡ Err k = rw (p, q, r, u) at e in
          let is : 4 ≡ k = cc in
          let first = decimal_only (field_at t 1) id p in
          let last = decimal_only (field_at t 3) v r in
          rw (← is) (record {
            till = there 3 v r;
            begins = begins_named (fields t) _ id (field_at t 2) (set_of v) (first.0, names_tested.passed (field_at t 2) q, last.0) (sym (first_4 t (there 3 v r) ∙ rw (word, first.1, last.1)));
            same = λ m c a. rw (a.alike 1 (omega arith), a.alike 2 (omega arith), a.alike 3 (omega arith), p, q, r, more_fields m c 4 a.other);
          })
      go (Some id) p true q (Some v) r true u =
          let at : add_named n d (field_at t 2) id (set_of v) ≡ Err k = rw (p, q, r, u) at e in
          absurd (fault_not_named k id (request_named n (field_at t 2) d (set_of v)) (sym at ∙ added (field_at t 2) id (set_of v)))

  -- ---- every text

  same_verb : (t p : List ℕ) (b : Bool) → field_at p 0 ≡ field_at t 0 → has_verb t "named" ≡ b → has_verb p "named" ≡ b
  unfolding has_verb
  same_verb t p b same e = rw same e

  with_fault : (t : List ℕ) (closed : Bool) (k : ℕ) → record_with n d t closed ≡ Err k → TellsWith (record_with n d) t k
  with_fault t closed k e = go (has_verb t "named") refl
    where
      go : (b : Bool) → has_verb t "named" ≡ b → TellsWith (record_with n d) t k
      go true v =
          let h : TellsWith (named_line n d) t k = named_fault t v closed k (sym (asked_named n d t closed v) ∙ e) in
          record {
            till = h.till;
            begins = h.begins;
            same = λ p c a. asked_named n d p c (same_verb t p true (a.alike 0 (omega arith)) v) ∙ h.same p c a;
          }
      go false v =
          let h : Tells record_of t k = text_fault t closed k (sym (asked_record n d t closed v) ∙ e) in
          record {
            till = h.till;
            begins = as_record h.begins;
            same = λ p c a. asked_record n d p c (same_verb t p false (a.alike 0 (omega arith)) v) ∙ h.same p c a;
          }

  -- a record's fields are read as the record here too
  with_record : (t : List ℕ) (r : Record) → Fits r → fields t ≡ record_fields r → record_with n d t true ≡ Ok (Line.Record r)
  with_record t r fits e = go (has_verb t "named") refl
    where
      go : (b : Bool) → has_verb t "named" ≡ b → record_with n d t true ≡ Ok (Line.Record r)
      go true v = absurd (fault_not_line 0 r (sym (named_no_record t true v) ∙ fields_read t r fits e))
      go false v = asked_record n d t true v ∙ fields_read t r fits e

  -- nothing goes on with the field at fault
  goes_on : (t : List ℕ) (closed : Bool) (k : ℕ) → record_with n d t closed ≡ Err k → k < length (fields t) → ¬ Begins (fields t) (suc k)
  goes_on t closed k e h (as_record b) =
      let w : records.TextOf b.of = records.record_written b.of b.fits in
      let a : Agree t w.text k = agree t w.text k h (ap (take (suc k)) w.parts ∙ b.same) in
      fault_not_line k b.of (sym ((with_fault t closed k e).same w.text true a) ∙ with_record w.text b.of b.fits w.parts)
  goes_on t closed k e h (as_named b) =
      let w : TextOf b.id b.name b.allowed = named_written b.id b.name b.allowed b.fits in
      let a : Agree t w.text k = agree t w.text k h (ap (take (suc k)) w.says.parts ∙ b.same) in
      let asks : record_with n d w.text true ≡ Ok (Line.Named b.id (request_named n b.name d b.allowed)) =
      asked_named n d w.text true (said_verb n d w.text b.id b.name b.allowed w.says)
      ∙ said_line n d w.text b.id b.name b.allowed w.says ∙ added b.name b.id b.allowed in
      fault_not_named k b.id _ (sym ((with_fault t closed k e).same w.text true a) ∙ asks)

-- ---- the statement

outside : (n : NameLists) (d : Device) (line : List ℕ) (k : ℕ) → AreLists n → parse_line_with n d line ≡ Err k → Outside line
outside n d line k l e =
    record {
      no_record = λ r is. fault_not_line k r (sym e ∙ parsed_lines.record_line n d line r is);
      no_name = λ id name a is. fault_not_named k id (request_named n name d a) (sym e ∙ parsed_lines.named_line_lem n d line id name a is l);
    }

-- lists without a row
no_rows : NameLists
no_rows = record { site = []; house = [] }

no_rows_lists : AreLists no_rows
unfolding no_rows list_text
no_rows_lists = (record { rows = []; fit = empty; is = refl }, record { rows = []; fit = empty; is = refl })

-- fewer fields begin the same
fewer_same : (fs gs : List (List ℕ)) (j k : ℕ) → j ≤ k → take k gs ≡ take k fs → take j gs ≡ take j fs
fewer_same fs gs j k h e = sym (take-take j k gs h) ∙ ap (take j) e ∙ take-take j k fs h

fewer : (fs : List (List ℕ)) (j k : ℕ) → j ≤ k → Begins fs k → Begins fs j
fewer fs j k h (as_record b) = as_record (record { of = b.of; fits = b.fits; same = fewer_same fs _ j k h b.same })
fewer fs j k h (as_named b) = begins_named fs j b.id b.name b.allowed b.fits (fewer_same fs _ j k h b.same)

-- a line outside the grammar has its field at fault beside lists without a row, too
module _ (line : List ℕ) (out : Outside line) where
  read_whole : (n : NameLists) (d : Device) (k : ℕ) → parse_line_with n d line ≡ Err k
      → record_with no_rows G (take (text_length line) line) (is_closed line) ≡ Err k
  read_whole n d k e =
      let (j, f) = other_lines line out in
      let both_at : Err j ≡ Err k = sym (f n d) ∙ e in
      sym (long_lines.whole no_rows G line) ∙ f no_rows G ∙ both_at

  told : (n : NameLists) (d : Device) (k : ℕ) → parse_line_with n d line ≡ Err k → TellsWith (record_with no_rows G) (take (text_length line) line) k
  told n d k e = with_fault no_rows no_rows_lists G (take (text_length line) line) (is_closed line) k (read_whole n d k e)

  broken : (n : NameLists) (d : Device) (k : ℕ) → parse_line_with n d line ≡ Err k → k < length (line_fields line) → ¬ Begins (line_fields line) (suc k)
  broken n d k e = goes_on no_rows no_rows_lists G (take (text_length line) line) (is_closed line) k (read_whole n d k e)

  only : (n : NameLists) (d : Device) (k : ℕ) → k ≤ length (line_fields line) → Begins (line_fields line) k
      → (k < length (line_fields line) → ¬ Begins (line_fields line) (suc k)) → parse_line_with n d line ≡ Err k
  only n d k within good wrong = let (j, f) = other_lines line out in go j (f n d) (dec_lt j k) (dec_lt k j)
    where
      go : (j : ℕ) → parse_line_with n d line ≡ Err j → Dec (j < k) → Dec (k < j) → parse_line_with n d line ≡ Err k
      go j e (yes h) c = absurd (broken n d j e (omega arith) (fewer (line_fields line) (suc j) k h good))
      go j e (no h) (yes l) = absurd (wrong (omega (arith, (told n d j e).till)) (fewer (line_fields line) (suc k) j l (told n d j e).begins))
      go j e (no h) (no l) = e ∙ ap Err (omega arith)

pub first_broken : FirstBroken
first_broken =
    record {
      outside = outside;
      within = λ n d line k out e. (told line out n d k e).till;
      good = λ n d line k out e. (told line out n d k e).begins;
      broken = λ n d line k out. broken line out n d k;
      only = λ n d line k out. only line out n d k;
    }
