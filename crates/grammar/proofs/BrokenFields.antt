-- Fields that are read format by format up to one at fault: those before it spell values that fit, and whatever follows it, it is at fault. Assumes
-- nothing.
use Rattle.std.specs.Prelude.{Option, None, Some, Ok, Err}
use mathlib.Core.Path.{◌≡◌, refl, ap, ap₂, sym, ◌∙◌}
use mathlib.Core.Bool.{Bool, true, false}
use mathlib.Core.List.{List, [], ◌∷◌}
use Prim.Native.Nat.{ℕ, suc, ◌+◌, ◌≤◌, ◌<◌}
use native.Mathlib.Omega.{arith}
use native.Mathlib.Decide.{dec_lt}
use native.Mathlib.Nat.{pow-le-pow_right}
use lib.ListN.{length, take, drop, get_or-eq_default}
use lib.Seq.{drop-cons}
use borrow.Author.Tests.{ne_eqb}
use Rattle.requests.specs.Choice.{pick, both}
use Rattle.grammar.specs.Text.{bytes}
use Rattle.grammar.specs.Fields.{fields, field_at, same_bytes_lem}
use Rattle.grammar.specs.Numbers.{decimal_of, hex_of, core_number_of, core_of}
use Rattle.grammar.specs.Verbs.{with_number, is_whole}
use Rattle.grammar.specs.declared.Record.{Record}
use Rattle.grammar.specs.Parsed.{Parsed}
use Rattle.grammar.specs.declared.Line.{Line}
use Rattle.grammar.proofs.Outcomes.{bad_not_value, fault_not_line}
use Rattle.grammar.proofs.Decimals.{decimal_only}
use Rattle.grammar.proofs.Hexes.{hex_only}
use Rattle.grammar.proofs.Cores.{core_only}
use Rattle.grammar.proofs.Formats.{Format, decimal, hex, core, Fit, spelled, given, Values, AllFit, texts, read_from}

-- the fields of p are those of t up to field k, which both have
pub record Agree (t p : List ℕ) (k : ℕ) : Type 0 where
  pub alike : (i : ℕ) → i ≤ k → field_at p i ≡ field_at t i
  pub one : k < length (fields t)
  pub other : k < length (fields p)

-- ---- the end of a record

pub ended_fault : (b : Bool) (n : ℕ) (r : Parsed) (k : ℕ) → ¬ (r ≡ Err k) → pick b r (Err n) ≡ Err k → n ≡ k
ended_fault true n r k other e = absurd (other e)
ended_fault false n r k other e = cc

-- a text with more fields is no record of n
pub more_fields : (p : List ℕ) (closed : Bool) (n : ℕ) → n < length (fields p) → is_whole p closed n ≡ false
unfolding both
more_fields p true n h = ne_eqb (length (fields p)) n (λ e. omega arith)
more_fields p false n h = refl

-- ---- a field of a format

abbrev number_in : Format → List ℕ → Option ℕ
number_in decimal x = decimal_of x
number_in (hex w) x = hex_of w x
number_in core x = core_number_of x

given_is : (f : Format) (x : List ℕ) (k : ℕ) (next : ℕ → Parsed) → given f x k next ≡ with_number (number_in f x) k next
given_is decimal x k next = refl
given_is (hex w) x k next = refl
given_is core x k next = refl

number_told : (f : Format) (x : List ℕ) (n : ℕ) → number_in f x ≡ Some n → Fit f n × (x ≡ spelled f n)
number_told decimal x n e = let told = decimal_only x n e in (told.0, told.1)
number_told (hex w) x n e = let told = hex_only w x n e in (told.0, told.1)
number_told core x n e = let told = core_only x n e in (told.0, told.1)

-- formats of at least one byte
abbrev pub HasDigits : Format → Type 0
HasDigits decimal = Unit {0}
HasDigits (hex w) = 0 < w
HasDigits core = Unit {0}

abbrev pub AllHaveDigits : List Format → Type 0
AllHaveDigits [] = Unit {0}
AllHaveDigits (f ∷ fs) = HasDigits f × AllHaveDigits fs

-- a field that is missing is none
pub decimal_missing : decimal_of [] ≡ None
unfolding decimal_of
decimal_missing = refl

missing : (f : Format) → HasDigits f → number_in f [] ≡ None
unfolding hex_of core_number_of same_bytes_lem bytes
missing decimal h = decimal_missing
missing (hex w) h = rw (ne_eqb 0 w (λ e. omega arith))
missing core h = rw decimal_missing

-- a field that is read as something is there
pub present : {A : Type 0} (read : List ℕ → A) (t : List ℕ) (j : ℕ) → ¬ (read (field_at t j) ≡ read []) → j < length (fields t)
present read t j differs = go (dec_lt j (length (fields t)))
  where
    go : Dec (j < length (fields t)) → j < length (fields t)
    go (yes h) = h
    go (no h) = absurd (differs (ap read (get_or-eq_default (fields t) [] {n = j} (omega arith))))

-- 0 fits every format
zero_fits : (f : Format) → Fit f 0
unfolding core_of
zero_fits decimal = omega arith
zero_fits (hex w) = pow-le-pow_right {n = 16} (omega arith) {i = 0} {j = w} (omega arith)
zero_fits core = tt

abbrev pub zeros : (fs : List Format) → Values fs
zeros [] = tt
zeros (f ∷ fs) = (0, zeros fs)

pub zeros_fit : (fs : List Format) → AllFit fs (zeros fs)
zeros_fit [] = tt
zeros_fit (f ∷ fs) = (zero_fits f, zeros_fit fs)

-- ---- fields of formats from field j on, the one at fault k

pub record Till (fs : List Format) (t : List ℕ) (j k : ℕ) (made : Values fs → Record) : Type 0 where
  pub values : Values fs
  pub fit : AllFit fs values
  pub count : ℕ
  pub is : k ≡ j + count
  pub till : k ≤ length (fields t)
  pub spells : take count (texts fs values) ≡ take count (drop j (fields t))
  pub same : (p : List ℕ) (closed : Bool) → Agree t p k → read_from fs p closed j made ≡ Err k

line_not_fault : (r : Record) (k : ℕ) → ¬ (Ok (Line.Record r) ≡ Err k)
line_not_fault r k e = fault_not_line k r (sym e)

pub read_till : (fs : List Format) → AllHaveDigits fs → (t : List ℕ) (closed : Bool) (j : ℕ) (made : Values fs → Record) (k : ℕ) → j ≤ length (fields t)
    → read_from fs t closed j made ≡ Err k → Till fs t j k made
read_till [] some t closed j made k h e =
    let is : j ≡ k = ended_fault (is_whole t closed j) j (Ok (Line.Record (made tt))) k (line_not_fault (made tt) k) e in
    record {
      values = tt;
      fit = tt;
      count = 0;
      is = omega arith;
      till = omega arith;
      spells = refl;
      same = λ p c a. rw (more_fields p c j (omega (arith, a.other))) (ap Err is);
    }
read_till (f ∷ fs) some t closed j made k h e =
    go (number_in f (field_at t j)) refl (sym (given_is f (field_at t j) j _) ∙ e) (λ x l q. read_till fs some.1 t closed (suc j) (λ v. made (x, v)) k l q)
  where
    next : List ℕ → Bool → ℕ → Parsed
    next p c x = read_from fs p c (suc j) (λ v. made (x, v))

    go : (x : Option ℕ) → number_in f (field_at t j) ≡ x → with_number x j (next t closed) ≡ Err k
        → ((x : ℕ) → suc j ≤ length (fields t) → next t closed x ≡ Err k → Till fs t (suc j) k (λ v. made (x, v))) → Till (f ∷ fs) t j k made
    go None p q ih =
        let is : j ≡ k = cc in
        record {
          values = zeros (f ∷ fs);
          fit = zeros_fit (f ∷ fs);
          count = 0;
          is = omega arith;
          till = omega arith;
          spells = refl;
          same = λ u c a. given_is f (field_at u j) j (next u c) ∙ rw (a.alike j (omega arith), p) (ap Err is);
        }
    go (Some x) p q ih =
        let there : j < length (fields t) = present (number_in f) t j (λ z. bad_not_value x (sym (missing f some.0) ∙ sym z ∙ p)) in
        let rest : Till fs t (suc j) k (λ v. made (x, v)) = ih x there q in
        let told = number_told f (field_at t j) x p in
        record {
          values = (x, rest.values);
          fit = (told.0, rest.fit);
          count = suc rest.count;
          is = omega (arith, rest.is);
          till = rest.till;
          spells = ap₂ ◌∷◌ (sym told.1) rest.spells ∙ ap (take (suc rest.count)) (sym (drop-cons (fields t) j [] there));
          same = λ u c a. given_is f (field_at u j) j (next u c) ∙ rw (a.alike j (omega (arith, rest.is)), p) (rest.same u c a);
        }
