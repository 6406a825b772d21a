-- The first 80 bytes of a longer text have its first field at fault, by the widths of the fields, names of at most 40 bytes among them. A text
-- without its newline is read as one that is closed and too long. Assumes nothing.
use Rattle.std.specs.Prelude.{Option, None, Some, Ok, Err}
use mathlib.Core.Path.{◌≡◌, refl, ap, sym, ◌∙◌}
use mathlib.Core.Bool.{Bool, true, false, false≢true}
use mathlib.Core.List.{List}
use Prim.Native.Nat.{ℕ, ◌+◌, ◌≤◌, ◌<◌}
use native.Mathlib.Omega.{arith}
use native.Mathlib.Decide.{dec_lt}
use lib.Dec.{ltb, eqb}
use lib.ListN.{length, take}
use lib.Seq.{take_all, length-take-le}
use borrow.Author.Tests.{ne_eqb, lt-ltb, le-ltb, eqb-true}
use Rattle.requests.specs.Choice.{both, pick}
use Rattle.requests.specs.declared.Device.{Device}
use Rattle.grammar.specs.Text.{bytes}
use Rattle.grammar.specs.Fields.{fields, field_at}
use Rattle.grammar.specs.Numbers.{decimal_of}
use Rattle.grammar.specs.Verbs.{with_number, is_whole, set_of, has_verb, record_of}
use Rattle.grammar.specs.Parse.{longest, too_long_lem, is_closed, text_length}
use Rattle.grammar.specs.Parsed.{Parsed}
use Rattle.grammar.specs.declared.Line.{Line}
use Rattle.grammar.proofs.CutFields.{CutAt, cut_at, SameFault, Field, cut_field, cut_ends, First, endless, whole, first_field}
use Rattle.grammar.proofs.LongLines.{decimal_field, no_word, verb_room, record_cut, text_size}
use Rattle.grammar.proofs.ReadBack.{record_tells}
use Rattle.grammar.proofs.Settled as settled
use Rattle.grammar.proofs.Settled.{Settled, record_settled}
use Rattle.grammar.proofs.Unclosed.{number_unclosed, record_unclosed}
use Rattle.names.specs.EventNames.{longest_name, is_name}
use Rattle.names.specs.Lists.{NameLists, lists_formed}
use Rattle.names.specs.Named.{request_named}
use Rattle.parser.specs.ParseWith.{add_named, with_name, named_line, record_with, parse_text_with, parse_line_with}
use Rattle.parser.specs.LongLines.{LongLines}
use Rattle.parser.proofs.NamedReading.{Read, says, faulty, named_read}
use Rattle.parser.proofs.VerbsRead.{asked_record, asked_named, add_formed}

-- ---- a request by name

-- "1 to 40 bytes"
wide_name : (x : List ℕ) → 40 < length x → is_name x ≡ false
unfolding is_name longest_name
wide_name x h = rw (ne_eqb (length x) 0 (λ e. omega arith), lt-ltb 40 (length x) h)

name_both : (b : Bool) (k : ℕ) (next next2 : Parsed) → SameFault next next2 → SameFault (pick b next (Err k)) (pick b next2 (Err k))
name_both true k next next2 h = h
name_both false k next next2 h = record { at = k; one = refl; other = refl }

name_field : (k : ℕ) → Field {A = Unit {0}} (λ x next. with_name x k (next tt)) k 40
name_field k = record { wide = λ x next h. rw (wide_name x h); both = λ x next next2 h. name_both (is_name x) k (next tt) (next2 tt) (h tt) }

-- what is asked for by the fields behind the id, and behind the name
module _ (n : NameLists) (d : Device) (closed : Bool) where
  abbrev ended_named : List ℕ → ℕ → ℕ → Parsed
  ended_named t id allowed = pick (is_whole t closed 4) (add_named n d (field_at t 2) id (set_of allowed)) (Err 4)

  abbrev behind_name : List ℕ → ℕ → Parsed
  behind_name t id = with_number (decimal_of (field_at t 3)) 3 (ended_named t id)

  abbrev behind_id : List ℕ → ℕ → Parsed
  behind_id t id = with_name (field_at t 2) 2 (behind_name t id)

  module _ (t p : List ℕ) where
    allowed_cut : (id m : ℕ) → CutAt t p 3 m → 5 < m → SameFault (behind_name t id) (behind_name p id)
    allowed_cut id m c h =
        cut_field (λ x next. with_number (decimal_of x) 3 next) t p 3 5 m (decimal_field 3) h (ended_named t id) (ended_named p id) c
        (λ k l b a. let ends = cut_ends t p closed 4 k b in record { at = 4; one = rw ends.0; other = rw ends.1 })

    name_cut : (id m : ℕ) → CutAt t p 2 m → 46 < m → SameFault (behind_id t id) (behind_id p id)
    name_cut id m c h =
        cut_field {A = Unit {0}} (λ x next. with_name x 2 (next tt)) t p 2 40 m (name_field 2) (omega arith) (λ u. behind_name t id) (λ u. behind_name p id) c
        (λ k l b u. allowed_cut id k b (omega arith))

    named_cut : (m : ℕ) → CutAt t p 1 m → 52 < m → SameFault (named_line n d t closed) (named_line n d p closed)
    unfolding named_line
    named_cut m c h =
        cut_field (λ x next. with_number (decimal_of x) 1 next) t p 1 5 m (decimal_field 1) (omega arith) (behind_id t) (behind_id p) c
        (λ k l b id. name_cut id k b (omega arith))

    -- ---- a text and its first 80 bytes

    other_cut : has_verb t "named" ≡ false → has_verb p "named" ≡ false → First t p 80 → SameFault (record_with n d t closed) (record_with n d p closed)
    other_cut a b f =
        let r : SameFault (record_of t closed) (record_of p closed) = record_cut t p closed f in
        record { at = r.at; one = asked_record n d t closed a ∙ r.one; other = asked_record n d p closed b ∙ r.other }

    verb_cut : (b : Bool) → has_verb t "named" ≡ b → has_verb p "named" ≡ b → (m : ℕ) → 80 ≡ length (field_at t 0) + (m + 1) → CutAt t p 1 m → First t p 80
        → SameFault (record_with n d t closed) (record_with n d p closed)
    unfolding bytes
    verb_cut true a b m e c f =
        let r : SameFault (named_line n d t closed) (named_line n d p closed) = named_cut m c (omega (arith, verb_room t p m e c "named" (omega arith) a)) in
        record { at = r.at; one = asked_named n d t closed a ∙ r.one; other = asked_named n d p closed b ∙ r.other }
    verb_cut false a b m e c f = other_cut a b f

    with_cut : First t p 80 → SameFault (record_with n d t closed) (record_with n d p closed)
    unfolding has_verb bytes
    with_cut (endless h k) = other_cut (no_word t (omega arith) "named" (omega arith)) (no_word p (omega arith) "named" (omega arith)) (endless h k)
    with_cut (whole same m e c) = verb_cut (has_verb t "named") refl (rw same) m e c (whole same m e c)

module _ (n : NameLists) (d : Device) where
  long_cut : (t : List ℕ) (closed : Bool) → 80 < length t → parse_text_with n d (take 80 t) closed true ≡ record_with n d t closed
  unfolding parse_text_with too_long_lem
  long_cut t closed h =
      let b : SameFault (record_with n d t closed) (record_with n d (take 80 t) closed) = with_cut n d closed t (take 80 t) (first_field t (take 80 t) 80 (cut_at t 80 h)) in
      rw (b.other, b.one)

  by_length : (t : List ℕ) (k : ℕ) (closed : Bool) → length t ≡ k → Dec (80 < k) → parse_text_with n d (take 80 t) closed (ltb 80 k) ≡ record_with n d t closed
  unfolding parse_text_with
  by_length t k closed e (yes h) = rw (lt-ltb 80 k h) (long_cut t closed (omega arith))
  by_length t k closed e (no h) = rw (le-ltb 80 k (omega arith), take_all 80 t (omega arith))

  whole_line : (line : List ℕ) → parse_line_with n d line ≡ record_with n d (take (text_length line) line) (is_closed line)
  unfolding parse_line_with longest
  whole_line line =
      by_length (take (text_length line) line) (text_length line) (is_closed line) (length-take-le (text_length line) line (text_size line)) (dec_lt 80 (text_length line))

-- ---- a text without its newline

unclosed_record : (t : List ℕ) → (k : ℕ) × (record_of t false ≡ Err k)
unclosed_record t = go (record_settled t false) refl
  where
    go : {p : Parsed} → Settled p → record_of t false ≡ p → (k : ℕ) × (record_of t false ≡ Err k)
    go (settled.asks r) e = absurd (false≢true (record_tells t false r e).newline_read)
    go (settled.faulty k l) e = (k, e)

unclosed_with : (t : List ℕ) → (k : ℕ) × ((n : NameLists) (d : Device) → record_with n d t false ≡ Err k)
unclosed_with t = go (has_verb t "named") refl
  where
    read : has_verb t "named" ≡ true → Read t false → (k : ℕ) × ((n : NameLists) (d : Device) → record_with n d t false ≡ Err k)
    read verb (says id a shut s) = absurd (false≢true shut)
    read verb (faulty k f) = (k, λ n d. asked_named n d t false verb ∙ f n d)

    go : (b : Bool) → has_verb t "named" ≡ b → (k : ℕ) × ((n : NameLists) (d : Device) → record_with n d t false ≡ Err k)
    go true e = read e (named_read t false e)
    go false e = let (k, f) = unclosed_record t in (k, λ n d. asked_record n d t false e ∙ f)

unclosed : (t : List ℕ) (long : Bool) → (k : ℕ) × ((n : NameLists) (d : Device) → parse_text_with n d t false long ≡ Err k)
unfolding parse_text_with too_long_lem
unclosed t true = let (k, f) = unclosed_with t in (k, λ n d. rw (f n d))
unclosed t false = unclosed_with t

-- it is read as one that is closed and too long, beside well-formed lists
module _ (n : NameLists) (d : Device) (formed : lists_formed n ≡ true) (t : List ℕ) where
  named_unclosed : too_long_lem (named_line n d t true) (length (fields t)) ≡ named_line n d t false
  unfolding named_line too_long_lem both
  named_unclosed =
      number_unclosed t (decimal_of (field_at t 1)) 1 (behind_id n d true t) (behind_id n d false t) (λ id.
      by_name (is_name (field_at t 2)) id)
    where
      ends : (id a : ℕ) → too_long_lem (ended_named n d true t id a) (length (fields t)) ≡ ended_named n d false t id a
      ends id a = go (eqb (length (fields t)) 4) refl
        where
          go : (b : Bool) → eqb (length (fields t)) 4 ≡ b
              → too_long_lem (pick b (add_named n d (field_at t 2) id (set_of a)) (Err 4)) (length (fields t)) ≡ Err 4
          go true e = rw (add_formed n d (field_at t 2) id (set_of a) formed) (ap Err (eqb-true (length (fields t)) 4 e))
          go false e = refl

      by_name : (b : Bool) (id : ℕ) → too_long_lem (pick b (behind_name n d true t id) (Err 2)) (length (fields t)) ≡ pick b (behind_name n d false t id) (Err 2)
      by_name true id = number_unclosed t (decimal_of (field_at t 3)) 3 (ended_named n d true t id) (ended_named n d false t id) (ends id)
      by_name false id = refl

  with_unclosed : too_long_lem (record_with n d t true) (length (fields t)) ≡ record_with n d t false
  unfolding record_with
  with_unclosed = go (has_verb t "named")
    where
      go : (b : Bool) → too_long_lem (pick b (named_line n d t true) (record_of t true)) (length (fields t)) ≡ pick b (named_line n d t false) (record_of t false)
      go true = named_unclosed
      go false = record_unclosed t

  pub as_too_long : (long : Bool) → parse_text_with n d t true true ≡ parse_text_with n d t false long
  unfolding parse_text_with too_long_lem
  as_too_long true = with_unclosed ∙ (let (k, f) = unclosed_with t in rw (f n d))
  as_too_long false = with_unclosed

-- ---- no line has more than eight fields in the grammar

within_record : (t : List ℕ) (closed : Bool) (k : ℕ) → record_of t closed ≡ Err k → k ≤ 7
within_record t closed k e = go (record_settled t closed) e
  where
    go : {p : Parsed} → Settled p → p ≡ Err k → k ≤ 7
    go (settled.asks r) f = let z : ◌≡◌ {A = ℕ} 0 1 = cc in absurd (omega arith)
    go (settled.faulty j l) f = let is : j ≡ k = cc in omega arith

within_named : (t : List ℕ) (closed : Bool) (n : NameLists) (d : Device) (k : ℕ) → named_line n d t closed ≡ Err k → k ≤ 7
unfolding named_line add_named
within_named t closed n d k e = go (decimal_of (field_at t 1)) (is_name (field_at t 2)) (decimal_of (field_at t 3)) (is_whole t closed 4) (lists_formed n) e
  where
    at : (j : ℕ) → j ≤ 7 → ◌≡◌ {A = Parsed} (Err j) (Err k) → k ≤ 7
    at j l f = let is : j ≡ k = cc in omega arith

    go : (x : Option ℕ) (b : Bool) (y : Option ℕ) (w f : Bool)
        → with_number x 1 (λ id. pick b (with_number y 3 (λ a. pick w (pick f (Ok (Line.Named id (request_named n (field_at t 2) d (set_of a)))) (Err 0)) (Err 4))) (Err 2)) ≡ Err k
        → k ≤ 7
    go None b y w f e = at 1 (omega arith) e
    go (Some id) false y w f e = at 2 (omega arith) e
    go (Some id) true None w f e = at 3 (omega arith) e
    go (Some id) true (Some a) false f e = at 4 (omega arith) e
    go (Some id) true (Some a) true false e = at 0 (omega arith) e
    go (Some id) true (Some a) true true e = let z : ◌≡◌ {A = ℕ} 0 1 = cc in absurd (omega arith)

within : (n : NameLists) (d : Device) (line : List ℕ) (k : ℕ) → parse_line_with n d line ≡ Err k → k ≤ 7
within n d line k e = go (has_verb t "named") refl
  where
    t : List ℕ
    t = take (text_length line) line

    read : record_with n d t (is_closed line) ≡ Err k
    read = sym (whole_line n d line) ∙ e

    go : (b : Bool) → has_verb t "named" ≡ b → k ≤ 7
    go true v = within_named t (is_closed line) n d k (sym (asked_named n d t (is_closed line) v) ∙ read)
    go false v = within_record t (is_closed line) k (sym (asked_record n d t (is_closed line) v) ∙ read)

pub long_lines : LongLines
unfolding longest
long_lines = record { cut = long_cut; whole = whole_line; unclosed = unclosed; within = within }
