-- A line is read as its text before the newline; a line that is read as a record is such a text and a newline. Assumes nothing.
use Rattle.std.specs.Prelude.{Ok, Err}
use mathlib.Core.Path.{◌≡◌, refl, ap, sym, ◌∙◌}
use mathlib.Core.Bool.{Bool, true, false, true≢false}
use mathlib.Core.List.{List, [], ◌∷◌, ◌++◌}
use Prim.Native.Nat.{ℕ, ◌-◌, ◌≤◌}
use native.Mathlib.Omega.{arith}
use lib.Dec.{ltb}
use lib.ListN.{length, get_or, take, length-take}
use lib.Seq.{take_all, take_at, take-suc, take-length, get_or_at}
use borrow.Author.Tests.{eq-eqb, le-ltb, ltb-false, eqb-true}
use Rattle.grammar.specs.Text.{newline}
use Rattle.grammar.specs.Fields.{fields}
use Rattle.grammar.specs.Verbs.{record_of}
use Rattle.grammar.specs.Parse.{longest, too_long_lem, parse_text, is_closed, text_length, text_of, parse_line}
use Rattle.grammar.specs.declared.Record.{Record}
use Rattle.grammar.specs.Parsed.{Parsed}
use Rattle.grammar.specs.declared.Line.{Line}
use Rattle.grammar.proofs.Outcomes.{fault_not_line}
use Rattle.grammar.proofs.Numerals.{length_last}

-- a newline closes
ends_closed : (t : List ℕ) → is_closed (t ++ newline ∷ []) ≡ true
unfolding is_closed
ends_closed t =
    let last : length (t ++ newline ∷ []) - 1 ≡ length t = omega (arith, length_last t newline) in
    eq-eqb _ newline (ap (λ (k : ℕ). get_or (t ++ newline ∷ []) k 0) last ∙ get_or_at t newline [] 0 (length t) refl)

-- it is not counted
closed_length : (line : List ℕ) → is_closed line ≡ true → text_length line ≡ length line - 1
unfolding text_length
closed_length line c = rw c

-- what is read of a text of at most 80 bytes and a newline
pub record Closed (t : List ℕ) : Type 0 where
  pub text : text_of (t ++ newline ∷ []) ≡ t
  pub closed : is_closed (t ++ newline ∷ []) ≡ true
  pub short : ltb longest (text_length (t ++ newline ∷ [])) ≡ false

pub closed_text : (t : List ℕ) → length t ≤ 80 → Closed t
unfolding longest
closed_text t h =
    let size : text_length (t ++ newline ∷ []) ≡ length t = omega (arith, closed_length (t ++ newline ∷ []) (ends_closed t), length_last t newline) in
    record {
      text = rw (size, take_at t (newline ∷ []) (length t) refl) (take_all 80 t h);
      closed = ends_closed t;
      short = rw size (le-ltb 80 (length t) h);
    }

-- it is read as the text
pub closed_reads : (t : List ℕ) → length t ≤ 80 → parse_line (t ++ newline ∷ []) ≡ record_of t true
unfolding parse_line parse_text
closed_reads t h = let c = closed_text t h in rw (c.text, c.closed, c.short)

-- a line that is too long is no record
too_long_none : (p : Parsed) (n : ℕ) (r : Record) → too_long_lem p n ≡ Ok (Line.Record r) → ⊥
unfolding too_long_lem
too_long_none (Ok asked) n r e = fault_not_line n r e
too_long_none (Err k) n r e = fault_not_line _ r e

-- so a line that is read as a record is not too long
pub record_only : (line : List ℕ) (r : Record) → parse_line line ≡ Ok (Line.Record r) → (text_length line ≤ 80) × (record_of (text_of line) (is_closed line) ≡ Ok (Line.Record r))
unfolding parse_line parse_text longest
record_only line r e = go (ltb longest (text_length line)) refl e
  where
    go : (long : Bool) → ltb longest (text_length line) ≡ long → parse_text (text_of line) (is_closed line) long ≡ Ok (Line.Record r)
        → (text_length line ≤ 80) × (record_of (text_of line) (is_closed line) ≡ Ok (Line.Record r))
    go false l p = (ltb-false longest (text_length line) l, p)
    go true l p = absurd (too_long_none (record_of (text_of line) (is_closed line)) (length (fields (text_of line))) r p)

-- a line with a newline at the end is what stands before it, and the newline
last_newline : (line : List ℕ) → is_closed line ≡ true → line ≡ take (length line - 1) line ++ newline ∷ []
unfolding is_closed newline
last_newline [] c = absurd (true≢false (sym c))
last_newline (b ∷ line) c =
    let before : length (b ∷ line) - 1 ≡ length line = omega arith in
    let last : get_or (b ∷ line) (length line) 0 ≡ newline = eqb-true _ newline (rw before at c) in
    rw (before, ← last) (sym (take-length (b ∷ line)) ∙ take-suc (b ∷ line) (length line) 0 (omega arith))

-- a closed line within the limit is its text and a newline
pub closed_only : (line : List ℕ) → is_closed line ≡ true → text_length line ≤ 80 → line ≡ text_of line ++ newline ∷ []
unfolding longest
closed_only line c h =
    let size : text_length line ≡ length line - 1 = closed_length line c in
    let whole : text_of line ≡ take (length line - 1) line = rw size (take_all 80 (take (length line - 1) line) (simp length-take (omega arith))) in
    last_newline line c ∙ ap (λ (t : List ℕ). t ++ newline ∷ []) (sym whole)
