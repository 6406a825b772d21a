-- A text that is read format by format, and gives a record, has exactly the fields that the record's values spell. Assumes nothing.
use Rattle.std.specs.Prelude.{Option, None, Some, Ok, Err}
use mathlib.Core.Path.{◌≡◌, refl, ap₂, ◌∙◌}
use mathlib.Core.Bool.{Bool, true, false}
use mathlib.Core.List.{List, [], ◌∷◌}
use Prim.Native.Nat.{ℕ, suc, ◌+◌}
use native.Mathlib.Omega.{arith}
use lib.Dec.{eqb}
use lib.ListN.{length, drop, drop_of_length-le}
use lib.Seq.{drop-cons}
use borrow.Author.Tests.{eqb-true}
use Rattle.requests.specs.Choice.{pick, both}
use Rattle.requests.proofs.Tests.{both_parts}
use Rattle.grammar.specs.Text.{hex_text, decimal_text}
use Rattle.grammar.specs.Records.{core_text, Decimal, Hex, CoreFits}
use Rattle.grammar.specs.Fields.{fields, field_at}
use Rattle.grammar.specs.Numbers.{decimal_of, hex_of, core_number_of, core_of}
use Rattle.grammar.specs.Verbs.{with_number, ended}
use Rattle.grammar.specs.declared.Record.{Record}
use Rattle.grammar.specs.Parsed.{Parsed}
use Rattle.grammar.specs.declared.Line.{Line}
use Rattle.grammar.proofs.Outcomes.{fault_not_line}
use Rattle.grammar.proofs.Decimals.{decimal_only}
use Rattle.grammar.proofs.Hexes.{hex_only}
use Rattle.grammar.proofs.Cores.{core_only}

-- how a field is spelled
pub data Format : Type 0 where
  decimal : Format
  hex : ℕ → Format
  core : Format

-- what number fits it
abbrev pub Fit : Format → ℕ → Type 0
Fit decimal n = Decimal n
Fit (hex w) n = Hex w n
Fit core n = CoreFits (core_of n)

-- the number's text
abbrev pub spelled : Format → ℕ → List ℕ
spelled decimal n = decimal_text n
spelled (hex w) n = hex_text w n
spelled core n = core_text (core_of n)

-- what follows it, or the field at fault
abbrev pub given : Format → List ℕ → ℕ → (ℕ → Parsed) → Parsed
given decimal x k next = with_number (decimal_of x) k next
given (hex w) x k next = with_number (hex_of w x) k next
given core x k next = with_number (core_number_of x) k next

-- what fields of these formats hold
abbrev pub Values : List Format → Type 0
Values [] = Unit {0}
Values (f ∷ fs) = ℕ × Values fs

-- all of it fits
abbrev pub AllFit : (fs : List Format) → Values fs → Type 0
AllFit [] v = Unit {0}
AllFit (f ∷ fs) v = Fit f v.0 × AllFit fs v.1

-- their texts
abbrev pub texts : (fs : List Format) → Values fs → List (List ℕ)
texts [] v = []
texts (f ∷ fs) v = spelled f v.0 ∷ texts fs v.1

-- the record that the fields from k on give
abbrev pub read_from : (fs : List Format) → List ℕ → Bool → ℕ → (Values fs → Record) → Parsed
read_from [] t closed k made = ended t closed k (made tt)
read_from (f ∷ fs) t closed k made = given f (field_at t k) k (λ x. read_from fs t closed (suc k) (λ v. made (x, v)))

-- a number was there
number_only : (x : Option ℕ) (k : ℕ) (next : ℕ → Parsed) (r : Record) → with_number x k next ≡ Ok (Line.Record r) → (n : ℕ) × (x ≡ Some n) × (next n ≡ Ok (Line.Record r))
number_only (Some n) k next r e = (n, refl, e)
number_only None k next r e = absurd (fault_not_line k r e)

-- a field that is read is the text of what it holds
given_only : (f : Format) (x : List ℕ) (k : ℕ) (next : ℕ → Parsed) (r : Record) → given f x k next ≡ Ok (Line.Record r)
    → (v : ℕ) × Fit f v × (x ≡ spelled f v) × (next v ≡ Ok (Line.Record r))
given_only decimal x k next r e =
    let (n, value, rest) = number_only (decimal_of x) k next r e in
    let told = decimal_only x n value in
    (n, told.0, told.1, rest)
given_only (hex w) x k next r e =
    let (n, value, rest) = number_only (hex_of w x) k next r e in
    let told = hex_only w x n value in
    (n, told.0, told.1, rest)
given_only core x k next r e =
    let (n, value, rest) = number_only (core_number_of x) k next r e in
    let told = core_only x n value in
    (n, told.0, told.1, rest)

-- nothing follows
ended_only : (t : List ℕ) (closed : Bool) (n : ℕ) (s r : Record) → ended t closed n s ≡ Ok (Line.Record r) → (closed ≡ true) × (length (fields t) ≡ n) × (r ≡ s)
ended_only t closed n s r e = go (both closed (eqb (length (fields t)) n)) refl e
  where
    go : (b : Bool) → both closed (eqb (length (fields t)) n) ≡ b → pick b (Ok (Line.Record s)) (Err n) ≡ Ok (Line.Record r)
        → (closed ≡ true) × (length (fields t) ≡ n) × (r ≡ s)
    go true p q = let (c, l) = both_parts closed (eqb (length (fields t)) n) p in (c, eqb-true (length (fields t)) n l, (cc))
    go false p q = absurd (fault_not_line n r q)

-- what a record says of the fields from k on
pub record Rest (fs : List Format) (t : List ℕ) (closed : Bool) (k : ℕ) (made : Values fs → Record) (r : Record) : Type 0 where
  pub values : Values fs
  pub fit : AllFit fs values
  pub is : r ≡ made values
  pub newline_read : closed ≡ true
  pub count : length (fields t) ≡ k + length fs
  pub spells : drop k (fields t) ≡ texts fs values

-- a record that is given says so
pub read_only : (fs : List Format) (t : List ℕ) (closed : Bool) (k : ℕ) (made : Values fs → Record) (r : Record) → read_from fs t closed k made ≡ Ok (Line.Record r)
    → Rest fs t closed k made r
read_only [] t closed k made r e =
    let (c, l, is) = ended_only t closed k (made tt) r e in
    record { values = tt; fit = tt; is = is; newline_read = c; count = omega arith; spells = drop_of_length-le (fields t) {i = k} (omega arith) }
read_only (f ∷ fs) t closed k made r e =
    let (x, fits, spelling, next) = given_only f (field_at t k) k (λ x. read_from fs t closed (suc k) (λ v. made (x, v))) r e in
    let rest : Rest fs t closed (suc k) (λ v. made (x, v)) r = read_only fs t closed (suc k) (λ v. made (x, v)) r next in
    record {
      values = (x, rest.values);
      fit = (fits, rest.fit);
      is = rest.is;
      newline_read = rest.newline_read;
      count = omega (arith, rest.count);
      spells = drop-cons (fields t) k [] (omega (arith, rest.count)) ∙ ap₂ ◌∷◌ spelling rest.spells;
    }
