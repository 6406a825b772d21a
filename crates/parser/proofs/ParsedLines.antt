-- What a line asks for, whatever its bytes and the lists, by the grammar of records and that of requests by name. Assumes nothing.
use Rattle.std.proofs.lemmas.Option.{none-some}
use Rattle.std.specs.Prelude.{None, Some, Ok, Err}
use mathlib.Core.Path.{◌≡◌, refl, ap, sym, ◌∙◌}
use mathlib.Core.Bool.{Bool, true, false}
use mathlib.Mathlib.Data.Bool.Basic.{eq-false_of_not-eq-true}
use mathlib.Core.List.{List}
use Prim.Native.Nat.{ℕ, ◌≤◌}
use native.Mathlib.Omega.{arith}
use lib.Dec.{ltb}
use lib.ListN.{length, take}
use lib.Seq.{length-take-le}
use borrow.Author.Tests.{ltb-true, ltb-false}
use Rattle.requests.specs.Devices.{letter_of}
use Rattle.requests.specs.Refusals.{number_of, answer_for, answer_number}
use Rattle.requests.specs.declared.CounterSet.{CounterSet}
use Rattle.requests.specs.declared.Device.{Device}
use Rattle.requests.specs.declared.Request.{Request}
use Rattle.requests.specs.declared.Request.TheVariants.{Event}
use Rattle.grammar.specs.Text.{bytes}
use Rattle.grammar.specs.Fields.{fields, field_at}
use Rattle.grammar.specs.Verbs.{has_verb}
use Rattle.grammar.specs.Parse.{longest, is_closed, text_length, text_of, parse_line, parsed_refusal}
use Rattle.grammar.specs.Records.{record_text, AddFits}
use Rattle.grammar.specs.Grammar.{IsText}
use Rattle.grammar.specs.declared.Record.{Record}
use Rattle.grammar.specs.declared.Record.TheVariants.{Add}
use Rattle.grammar.specs.Parsed.{Parsed}
use Rattle.grammar.specs.declared.Line.{Line}
use Rattle.grammar.proofs.Closings.{Closed, closed_text, closed_only}
use Rattle.grammar.proofs.GrammarHolds.{grammar}
use Rattle.grammar.proofs.LineEnds.{text_within}
use Rattle.grammar.proofs.Outcomes.{fault_not_line}
use Rattle.grammar.proofs.Settled as settled
use Rattle.grammar.proofs.Settled.{Settled, line_is}
use Rattle.grammar.proofs.WordLoops.{same_bytes}
use Rattle.names.specs.Lists.{NameLists, lists_formed}
use Rattle.names.specs.Named.{request_named}
use Rattle.names.specs.NamedRequests.{Finds}
use Rattle.names.specs.RowGrammar.{AreLists}
use Rattle.names.specs.declared.Row.{Row}
use Rattle.names.proofs.GrammarHolds.{row_grammar, list_grammar}
use Rattle.names.proofs.Requesting.{named_requests, request_fits}
use Rattle.names.proofs.RowTexts.{same_before}
use Rattle.names.proofs.Searching.{lists_bad}
use Rattle.parser.specs.NamedText.{IsNamed, Outside}
use Rattle.parser.specs.ParseWith.{add_named, named_line, record_with, parse_text_with, parse_line_with}
use Rattle.parser.specs.ParsedLines.{ByName, number_for, ParsedLines}
use Rattle.parser.proofs.NamedReading.{Says, said_text, said_verb, said_line, TextOf, named_written, Read, says, faulty, named_read}
use Rattle.parser.proofs.VerbsRead.{asked_named, add_formed, add_refused}
use Rattle.parser.proofs.LineVerbs.{other_line, fault_long, named_not_record, Verb, named, other, verb_of}

-- ---- a request by name

module _ (n : NameLists) (d : Device) (line : List ℕ) (id : ℕ) (name : List ℕ) (a : CounterSet) (is : IsNamed line id name a) where
  by_name : parse_line_with n d line ≡ add_named n d name id a
  unfolding parse_line_with parse_text_with
  by_name =
      let w : TextOf id name a = named_written id name a is.0 in
      let c : Closed w.text = closed_text w.text (omega (arith, w.short)) in
      let says : Says w.text id name a = w.says in
      rw (is.1, w.line, c.text, c.closed, c.short)
      (asked_named n d w.text true (said_verb n d w.text id name a says) ∙ said_line n d w.text id name a says)

  named_line_lem : AreLists n → parse_line_with n d line ≡ Ok (Line.Named id (request_named n name d a))
  named_line_lem l = by_name ∙ add_formed n d name id a (list_grammar.both_formed n l)

  ill_formed : ¬ AreLists n → parse_line_with n d line ≡ Err 0
  ill_formed l = by_name ∙ add_refused n d name id a (eq-false_of_not-eq-true (λ w. l (list_grammar.both_only n w)))

-- ---- what a line with the verb is

-- the first 80 bytes of a longer line are no request by name
module _ (line : List ℕ) (id : ℕ) (a : CounterSet) (s : Says (text_of line) id (field_at (text_of line) 2) a) where
  not_long : text_length line ≤ 80
  unfolding longest
  not_long = go (ltb 80 (text_length line)) refl
    where
      go : (long : Bool) → ltb 80 (text_length line) ≡ long → text_length line ≤ 80
      go false l = ltb-false 80 (text_length line) l
      go true l =
          let w : TextOf id (field_at (text_of line) 2) a = named_written id (field_at (text_of line) 2) a s.fit in
          let same : text_of line ≡ w.text = same_before (text_of line) w.text (said_text s ∙ w.line) in
          let whole : length (text_of line) ≡ 80 = length-take-le 80 (take (text_length line) line)
          (let long = ltb-true 80 (text_length line) l in let within = length-take-le (text_length line) line (text_within line) in omega arith) in
          let z : ⊥ = omega (arith, w.short, ap length same) in
          absurd z

  is_named : is_closed line ≡ true → IsNamed line id (field_at (text_of line) 2) a
  is_named shut = (s.fit, closed_only line shut not_long ∙ said_text s)

module _ (line : List ℕ) (verb : has_verb (text_of line) "named" ≡ true) where
  -- one with a field at fault has it whatever the lists and the device
  faulty_line : (k : ℕ) → ((n : NameLists) (d : Device) → named_line n d (text_of line) (is_closed line) ≡ Err k)
      → (n : NameLists) (d : Device) → parse_line_with n d line ≡ Err k
  unfolding parse_line_with parse_text_with
  faulty_line k f n d = go (ltb longest (text_length line))
    where
      at_fault : record_with n d (text_of line) (is_closed line) ≡ Err k
      at_fault = asked_named n d (text_of line) (is_closed line) verb ∙ f n d

      go : (long : Bool) → parse_text_with n d (text_of line) (is_closed line) long ≡ Err k
      go true = rw at_fault (fault_long k (length (fields (text_of line))))
      go false = at_fault

-- ---- every line

pub other_lines : (line : List ℕ) → Outside line → (k : ℕ) × ((n : NameLists) (d : Device) → parse_line_with n d line ≡ Err k)
other_lines line out = go (verb_of line)
  where
    read : has_verb (text_of line) "named" ≡ true → Read (text_of line) (is_closed line) → (k : ℕ) × ((n : NameLists) (d : Device) → parse_line_with n d line ≡ Err k)
    read verb (says id a shut s) = absurd (out.no_name id (field_at (text_of line) 2) a (is_named line id a s shut))
    read verb (faulty k f) = (k, faulty_line line verb k f)

    go : Verb line → (k : ℕ) × ((n : NameLists) (d : Device) → parse_line_with n d line ≡ Err k)
    go (named e) = read e (named_read (text_of line) (is_closed line) e)
    go (other e) = let (k, f) = grammar.other line out.no_record in (k, λ n d. other_line n d line e ∙ f)

-- a request by name asks for no record, and a line without the verb for nothing by name
fault_not_named : (k id : ℕ) (r : Request) → Err k ≡ Ok (Line.Named id r) → ⊥
fault_not_named k id r e = let z : ◌≡◌ {A = ℕ} 0 1 = cc in omega arith

record_not_named : (line : List ℕ) (id : ℕ) (r : Request) → parse_line line ≡ Ok (Line.Named id r) → ⊥
record_not_named line id r e = go (line_is line) e
  where
    go : {p : Parsed} → Settled p → p ≡ Ok (Line.Named id r) → ⊥
    go (settled.asks q) f = let z : ◌≡◌ {A = ℕ} 0 1 = cc in omega arith
    go (settled.faulty k l) f = fault_not_named k id r f

named_asks : (n : NameLists) (d : Device) (line : List ℕ) (id : ℕ) (a : CounterSet) → IsNamed line id (field_at (text_of line) 2) a → (r : Record)
    → parse_line_with n d line ≡ Ok (Line.Record r) → ⊥
named_asks n d line id a is r e = go (lists_formed n) refl
  where
    name : List ℕ
    name = field_at (text_of line) 2

    go : (b : Bool) → lists_formed n ≡ b → ⊥
    go true w =
        let same : Ok (Line.Named id (request_named n name d a)) ≡ Ok (Line.Record r) = sym (by_name n d line id name a is ∙ add_formed n d name id a w) ∙ e in
        let z : ◌≡◌ {A = ℕ} 0 1 = cc in
        omega arith
    go false w = fault_not_line 0 r (sym (by_name n d line id name a is ∙ add_refused n d name id a w) ∙ e)

module _ (n : NameLists) (d : Device) (line : List ℕ) (r : Record) where
  record_lines : IsText line r → parse_line_with n d line ≡ Ok (Line.Record r)
  record_lines is = go (verb_of line)
    where
      go : Verb line → parse_line_with n d line ≡ Ok (Line.Record r)
      go (named e) = absurd (fault_not_line 0 r (sym (named_not_record line e) ∙ grammar.parsed line r is))
      go (other e) = other_line n d line e ∙ grammar.parsed line r is

  -- a line that asks for a record is its text
  only : parse_line_with n d line ≡ Ok (Line.Record r) → IsText line r
  only e = go (verb_of line)
    where
      read : has_verb (text_of line) "named" ≡ true → Read (text_of line) (is_closed line) → IsText line r
      read verb (says id a shut s) = absurd (named_asks n d line id a (is_named line id a s shut) r e)
      read verb (faulty k f) = absurd (fault_not_line k r (sym (faulty_line line verb k f n d) ∙ e))

      go : Verb line → IsText line r
      go (named v) = read v (named_read (text_of line) (is_closed line) v)
      go (other v) = grammar.only line r (sym (other_line n d line v) ∙ e)

module _ (n : NameLists) (d : Device) (line : List ℕ) (id : ℕ) (r : Request) where
  -- a request by name that asks for this one
  asks_by_name : (i : ℕ) (a : CounterSet) → IsNamed line i (field_at (text_of line) 2) a → parse_line_with n d line ≡ Ok (Line.Named id r) → ByName n d line id r
  asks_by_name i a is e = go (lists_formed n) refl
    where
      go : (b : Bool) → lists_formed n ≡ b → ByName n d line id r
      go true w =
          let l : AreLists n = list_grammar.both_only n w in
          let same : Ok (Line.Named id r) ≡ Ok (Line.Named i (request_named n (field_at (text_of line) 2) d a)) = sym e ∙ named_line_lem n d line i (field_at (text_of line) 2) a is l in
          let id_is : id ≡ i = cc in
          record { name = field_at (text_of line) 2; allowed = a; text = rw id_is is; lists = l; is = cc }
      go false w = absurd (fault_not_named 0 id r (sym (by_name n d line i (field_at (text_of line) 2) a is ∙ add_refused n d (field_at (text_of line) 2) i a w) ∙ e))

  only_named : parse_line_with n d line ≡ Ok (Line.Named id r) → ByName n d line id r
  only_named e = go (verb_of line)
    where
      read : has_verb (text_of line) "named" ≡ true → Read (text_of line) (is_closed line) → ByName n d line id r
      read verb (says i a shut s) = asks_by_name i a (is_named line i a s shut) e
      read verb (faulty k f) = absurd (fault_not_named k id r (sym (faulty_line line verb k f n d) ∙ e))

      go : Verb line → ByName n d line id r
      go (named v) = read v (named_read (text_of line) (is_closed line) v)
      go (other v) = absurd (record_not_named line id r (sym (other_line n d line v) ∙ e))

  named_fits : parse_line_with n d line ≡ Ok (Line.Named id r) → AddFits id r
  named_fits e = let b = only_named e in rw b.is (request_fits n b.name d id b.allowed b.text.0.0 b.text.0.2)

-- ---- on another device

-- a line asks for the same on two devices, or by name for two adds of one id
pub data Both (x y : Parsed) : Type 0 where
  same : x ≡ y → Both x y
  adds : (id : ℕ) (r q : Request) → x ≡ Ok (Line.Named id r) → y ≡ Ok (Line.Named id q) → Both x y

module _ (n : NameLists) (d e : Device) where
  name_both : (name : List ℕ) (id : ℕ) (a : CounterSet) → Both (add_named n d name id a) (add_named n e name id a)
  name_both name id a = go (lists_formed n) refl
    where
      go : (b : Bool) → lists_formed n ≡ b → Both (add_named n d name id a) (add_named n e name id a)
      go true w = adds id (request_named n name d a) (request_named n name e a) (add_formed n d name id a w) (add_formed n e name id a w)
      go false w = same (add_refused n d name id a w ∙ sym (add_refused n e name id a w))

  pub on_both : (line : List ℕ) → Both (parse_line_with n d line) (parse_line_with n e line)
  on_both line = go (verb_of line)
    where
      read : has_verb (text_of line) "named" ≡ true → Read (text_of line) (is_closed line) → Both (parse_line_with n d line) (parse_line_with n e line)
      read verb (says id a shut s) =
          let is = is_named line id a s shut in
          rw (by_name n d line id (field_at (text_of line) 2) a is, by_name n e line id (field_at (text_of line) 2) a is) (name_both (field_at (text_of line) 2) id a)
      read verb (faulty k f) = same (faulty_line line verb k f n d ∙ sym (faulty_line line verb k f n e))

      go : Verb line → Both (parse_line_with n d line) (parse_line_with n e line)
      go (named v) = read v (named_read (text_of line) (is_closed line) v)
      go (other v) = same (other_line n d line v ∙ sym (other_line n e line v))

-- ---- as the same request typed in numbers

-- lists in which a name finds a row are well-formed
finding_lists : (n : NameLists) (name : List ℕ) (row : Row) → Finds n name row → AreLists n
finding_lists n name row f = list_grammar.both_only n (go (lists_formed n) refl)
  where
    go : (b : Bool) → lists_formed n ≡ b → b ≡ true
    go true w = refl
    go false w = absurd (none-some f.text (sym (lists_bad n name w) ∙ f.at))

typed : (n : NameLists) (d : Device) (line : List ℕ) (id : ℕ) (name : List ℕ) (a : CounterSet) (row : Row) → IsNamed line id name a → Finds n name row
    → letter_of row.device ≡ letter_of d → (parse_line_with n d line ≡ Ok (Line.Named id (Event row.code row.mask a)))
    × (parse_line_with n d (record_text (Add id (Event row.code row.mask a))) ≡ Ok (Line.Record (Add id (Event row.code row.mask a))))
typed n d line id name a row is f here =
    let fit = (row_grammar.only f.text row f.says).0 in (
      named_line_lem n d line id name a is (finding_lists n name row f) ∙ ap (λ (r : Request). Ok (Line.Named id r)) (named_requests.found n name row d a f here),
      record_lines n d _ (Add id (Event row.code row.mask a)) ((is.0.0, fit.code_fits, fit.mask_fits, is.0.2), refl),
    )

unnamed : (n : NameLists) (d : Device) (line : List ℕ) → ¬ (field_at (text_of line) 0 ≡ bytes "named") → parse_line_with n d line ≡ parse_line line
unfolding has_verb
unnamed n d line differs = other_line n d line (eq-false_of_not-eq-true (λ e. differs (same_bytes (field_at (text_of line) 0) (bytes "named") e)))

-- ---- the number

module _ (n : NameLists) (d : Device) (line : List ℕ) where
  line_number : (r : Record) → parse_line_with n d line ≡ Ok (Line.Record r) → number_for n d line ≡ None
  unfolding answer_for answer_number parsed_refusal
  line_number r e = rw e

  name_number : (id : ℕ) (r : Request) → parse_line_with n d line ≡ Ok (Line.Named id r) → number_for n d line ≡ None
  unfolding answer_for answer_number parsed_refusal
  name_number id r e = rw e

  fault_number : (k : ℕ) → parse_line_with n d line ≡ Err k → number_for n d line ≡ Some 1
  unfolding number_of answer_for answer_number parsed_refusal
  fault_number k e = rw e

  asked_by_name : (id : ℕ) (r : Request) → ByName n d line id r → parse_line_with n d line ≡ Ok (Line.Named id r)
  asked_by_name id r b = named_line_lem n d line id b.name b.allowed b.text b.lists ∙ ap (λ (r : Request). Ok (Line.Named id r)) (sym b.is)

pub parsed_lines : ParsedLines
parsed_lines =
    record {
      unnamed = unnamed;
      record_line = record_lines;
      named_line_lem = named_line_lem;
      ill_formed = ill_formed;
      other = other_lines;
      only = only;
      only_named = only_named;
      fits = λ n d line r e. (only n d line r e).0;
      named_fits = named_fits;
      in_grammar = λ n d line r h. line_number n d line r (record_lines n d line r h);
      by_name = λ n d line id r h. name_number n d line id r (asked_by_name n d line id r h);
      outside = λ n d line out. let (k, f) = other_lines line out in fault_number n d line k (f n d);
      list_at_fault = λ n d line id name a is l. fault_number n d line 0 (ill_formed n d line id name a is l);
      typed = typed;
    }
