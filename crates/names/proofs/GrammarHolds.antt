-- A row is formed exactly when it is a row's text, and a list exactly when it is the texts of rows. Assumes nothing.
use Rattle.std.proofs.lemmas.Option.{same_Some}
use Rattle.std.specs.Prelude.{Option, None, Some}
use Prim.Native.Nat.{ℕ}
use mathlib.Core.Path.{◌≡◌, refl, ap, ap₂, sym, ◌∙◌}
use mathlib.Core.Bool.{Bool, true, false, true≢false}
use mathlib.Core.List.{List, [], ◌∷◌, ◌++◌, append_assoc}
use native.Mathlib.Omega.{arith}
use lib.Dec.{eqb}
use lib.ListN.{length, get_or}
use borrow.Author.Tests.{eqb-true}
use Rattle.requests.specs.declared.Device.{Device}
use Rattle.requests.specs.declared.Device.TheVariants.{G, S, C, B}
use Rattle.requests.specs.Choice.{both, pick}
use Rattle.requests.specs.Devices.{letter_of, box_of}
use Rattle.requests.proofs.DeviceNumbers.{numbers}
use Rattle.requests.proofs.Tests.{both_parts, true_both}
use Rattle.grammar.specs.Text.{newline, hex_text, line_of}
use Rattle.grammar.specs.Fields.{fields, field_at}
use Rattle.grammar.specs.Numbers.{hex_of}
use Rattle.grammar.specs.Letters.{lettered}
use Rattle.grammar.proofs.Hexes.{hex_reads, hex_only}
use Rattle.grammar.proofs.LetterFields.{by_letter, letter_reads, lettered_only}
use Rattle.grammar.proofs.Tabs as tabs
use Rattle.names.specs.EventNames.{is_name}
use Rattle.names.specs.Rows.{with_device, with_number, numbers_on, row_of, is_formed}
use Rattle.names.specs.Lists.{row_texts, is_ended, all_formed, well_formed}
use Rattle.names.specs.RowGrammar.{NamedRow, RowFits, row_line, list_text, AllFit, empty, more, IsList, RowGrammar, ListGrammar}
use Rattle.names.specs.declared.Row.{Row}
use Rattle.names.proofs.Joined.{joined, first_line, ended_after, ended_joined}
use Rattle.names.proofs.RowReading.{row_numbers}
use Rattle.names.proofs.Searching.{both_formed, formed_both}
use Rattle.names.proofs.NameBytes.{names_tested}
use Rattle.names.proofs.RowTexts.{rest, row_written, same_before}

-- a bad row is not formed
bad_not_formed : (r : Row) → None ≡ Some r → ⊥
bad_not_formed r e = let z : ◌≡◌ {A = ℕ} 0 1 = cc in omega arith

-- a device's own letter, where it has no box
own_letter : (d : Device) → box_of d ≡ 0 → lettered (letter_of d ∷ []) ≡ Some d
unfolding lettered
own_letter d e = (numbers d).letter_names 0 (sym e)

-- the fields of a row's text
fields_formed : (n : NamedRow) (t : List ℕ) → RowFits n → fields t ≡ n.name ∷ rest n → row_of t ≡ Some n.row
unfolding numbers_on
fields_formed n t h e =
    row_numbers t (ap length e) (rw e (names_tested.passes n.name h.named)) n.row.device (rw e (own_letter n.row.device h.no_box))
    ∙ rw (e, hex_reads 2 n.row.code h.code_fits, hex_reads 2 n.row.mask h.mask_fits)

text_formed : (n : NamedRow) (t : List ℕ) → RowFits n → t ++ newline ∷ [] ≡ row_line n → (row_of t ≡ Some n.row) × (field_at t 0 ≡ n.name)
unfolding row_line
text_formed n t h e =
    let w = row_written n h in
    let parts : fields t ≡ n.name ∷ rest n = ap fields (same_before t w.text (e ∙ w.line)) ∙ w.parts in
    (fields_formed n t h parts, ap (λ (fs : List (List ℕ)). get_or fs 0 []) parts)

-- four fields
pub four : (fs : List (List ℕ)) → length fs ≡ 4 → fs ≡ get_or fs 0 [] ∷ get_or fs 1 [] ∷ get_or fs 2 [] ∷ get_or fs 3 [] ∷ []
four [] e = let z : ⊥ = omega arith in absurd z
four (a ∷ []) e = let z : ⊥ = omega arith in absurd z
four (a ∷ b ∷ []) e = let z : ⊥ = omega arith in absurd z
four (a ∷ b ∷ d ∷ []) e = let z : ⊥ = omega arith in absurd z
four (a ∷ b ∷ d ∷ f ∷ []) e = refl
four (a ∷ b ∷ d ∷ f ∷ g ∷ fs) e = let z : ⊥ = omega arith in absurd z

-- a letter tells no box
no_box_by_letter : (d : Device) → box_of (by_letter d) ≡ 0
unfolding box_of by_letter
no_box_by_letter G = refl
no_box_by_letter S = refl
no_box_by_letter (C b) = refl
no_box_by_letter B = refl

letter_box : (f : List ℕ) (d : Device) → lettered f ≡ Some d → box_of d ≡ 0
letter_box f d e =
    let same : d ≡ by_letter d = same_Some d (by_letter d) (sym e ∙ ap lettered (lettered_only f d e) ∙ letter_reads d) in
    ap box_of same ∙ no_box_by_letter d

-- what a formed row tells of its fields
number_only : (x : Option ℕ) (next : ℕ → Option Row) (r : Row) → with_number x next ≡ Some r → (n : ℕ) × (x ≡ Some n) × (next n ≡ Some r)
number_only (Some n) next r e = (n, refl, e)
number_only None next r e = absurd (bad_not_formed r e)

device_only : (x : Option Device) (next : Device → Option Row) (r : Row) → with_device x next ≡ Some r → (d : Device) × (x ≡ Some d) × (next d ≡ Some r)
device_only (Some d) next r e = (d, refl, e)
device_only None next r e = absurd (bad_not_formed r e)

pick_only : (b : Bool) (x : Option Row) (r : Row) → pick b x None ≡ Some r → (b ≡ true) × (x ≡ Some r)
pick_only true x r e = (refl, e)
pick_only false x r e = absurd (bad_not_formed r e)

formed_is : (d : Device) (code mask : ℕ) (r : Row) → Some (record { device = d; code = code; mask = mask }) ≡ Some r → r ≡ record { device = d; code = code; mask = mask }
formed_is d code mask r e = cc

text_only : (t : List ℕ) (r : Row) → row_of t ≡ Some r
    → RowFits (record { name = field_at t 0; row = r }) × (t ++ newline ∷ [] ≡ row_line (record { name = field_at t 0; row = r }))
unfolding row_of numbers_on row_line
text_only t r e =
    let (tests, told) = pick_only (both (eqb (length (fields t)) 4) (is_name (field_at t 0))) (with_device (lettered (field_at t 1)) (numbers_on t)) r e in
    let (count, named) = both_parts (eqb (length (fields t)) 4) (is_name (field_at t 0)) tests in
    let (d, known, numbers) = device_only (lettered (field_at t 1)) (numbers_on t) r told in
    let (code, coded, later) = number_only (hex_of 2 (field_at t 2)) _ r numbers in
    let (mask, masked, last) = number_only (hex_of 2 (field_at t 3)) _ r later in
    let first = hex_only 2 (field_at t 2) code coded in
    let second = hex_only 2 (field_at t 3) mask masked in
    let parts : fields t ≡ field_at t 0 ∷ (letter_of d ∷ []) ∷ hex_text 2 code ∷ hex_text 2 mask ∷ [] =
    four (fields t) (eqb-true (length (fields t)) 4 count)
    ∙ ap (λ (fs : List (List ℕ)). field_at t 0 ∷ fs) (ap₂ ◌∷◌ (lettered_only (field_at t 1) d known) (ap₂ ◌∷◌ first.1 (ap (λ (f : List ℕ). f ∷ []) second.1))) in
    rw (formed_is d code mask r last)
    (record { named = names_tested.passed (field_at t 0) named; no_box = letter_box (field_at t 1) d known; code_fits = first.0; mask_fits = second.0 }, sym (tabs.line_of_fields t) ∙ ap line_of parts)

pub row_grammar : RowGrammar
row_grammar = record { formed = text_formed; only = text_only }

-- rows that fit make a well-formed list
list_rows : (ns : List NamedRow) → AllFit ns → (is_ended (list_text ns) ≡ true) × (all_formed (row_texts (list_text ns)) ≡ true)
unfolding list_text is_ended all_formed row_texts row_line
list_rows [] empty = (refl, refl)
list_rows (n ∷ ns) (more h hs) =
    let (ended, formed) = list_rows ns hs in
    let w = row_written n h in
    let this : is_formed (row_of w.text) ≡ true = ap is_formed (text_formed n w.text h (sym w.line)).0 in
    let text : row_line n ++ list_text ns ≡ w.text ++ newline ∷ list_text ns = rw (w.line, append_assoc) in
    rw (text, ended_after w.text (list_text ns), first_line w.text (list_text ns) w.one_line)
    (ended, true_both (is_formed (row_of w.text)) (all_formed (row_texts (list_text ns))) this formed)

list_formed : (list : List ℕ) → IsList list → well_formed list ≡ true
unfolding well_formed
list_formed list l =
    let (ended, formed) = list_rows l.rows l.fit in
    rw l.is (true_both (is_ended (list_text l.rows)) (all_formed (row_texts (list_text l.rows))) ended formed)

-- formed rows, joined, are the text of rows that fit
some_row : (x : Option Row) → is_formed x ≡ true → (r : Row) × (x ≡ Some r)
some_row (Some r) e = (r, refl)
some_row None e = absurd (true≢false (sym e))

rows_only : (ts : List (List ℕ)) → all_formed ts ≡ true → (ns : List NamedRow) × AllFit ns × (joined ts ≡ list_text ns)
unfolding all_formed list_text
rows_only [] e = ([], empty, refl)
rows_only (t ∷ ts) e =
    let (first, others) = both_parts (is_formed (row_of t)) (all_formed ts) e in
    let (r, is) = some_row (row_of t) first in
    let (fits, text) = text_only t r is in
    let (ns, all, rest) = rows_only ts others in
    (record { name = field_at t 0; row = r } ∷ ns, more fits all, rw (← text, ← rest, append_assoc))

list_only : (list : List ℕ) → well_formed list ≡ true → IsList list
unfolding well_formed
list_only list e =
    let (ended, formed) = both_parts (is_ended list) (all_formed (row_texts list)) e in
    let (ns, all, text) = rows_only (row_texts list) formed in
    record { rows = ns; fit = all; is = ended_joined list ended ∙ text }

pub list_grammar : ListGrammar
list_grammar =
    record {
      formed = list_formed;
      only = list_only;
      both_formed = λ n l. formed_both n (list_formed n.site l.0) (list_formed n.house l.1);
      both_only = λ n w. let (s, h) = both_formed n w in (list_only n.site s, list_only n.house h);
    }
