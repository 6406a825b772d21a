-- The test of a name says what the order says of one, both ways; and a name may be a field of a line. Assumes nothing.
use Prim.Native.Nat.{ℕ, ◌<◌, ◌≤◌}
use mathlib.Core.Path.{◌≡◌, refl, ap, sym, ◌∙◌}
use mathlib.Core.Bool.{Bool, true, false, not, true≢false}
use mathlib.Core.Logic.{⊎_elim}
use mathlib.Core.List.Memᴰ
use mathlib.Core.List.{List, [], ◌∷◌, Memᴰ}
use native.Mathlib.Omega.{arith}
use lib.Dec.{eqb, ltb}
use lib.ListN.{length}
use borrow.Author.Tests.{eqb-true, eqb-false, ltb-true, ltb-false, ne_eqb, le-ltb}
use Rattle.requests.specs.Choice.{both, either, every, pick}
use Rattle.requests.proofs.Tests.{both_parts, true_both, either_cases, every_at}
use Rattle.grammar.specs.Text.{bytes, tab, newline}
use Rattle.names.specs.EventNames.{name_byte, name_bytes, longest_name, is_name, NameByte, IsName}
use Rattle.names.specs.NamesTested.{NamesTested}
use Rattle.grammar.proofs.Tabs.{lacks, one_field_lem}

-- what the test says of a name
record Passed (f : List ℕ) : Type 0 where
  some : 0 < length f
  short : length f ≤ 40
  all : name_bytes f ≡ true

name_parts : (f : List ℕ) → is_name f ≡ true → Passed f
unfolding is_name longest_name
name_parts f e = go (eqb (length f) 0) refl (ltb longest_name (length f)) refl e
  where
    go : (z : Bool) → eqb (length f) 0 ≡ z → (l : Bool) → ltb longest_name (length f) ≡ l → pick z false (pick l false (name_bytes f)) ≡ true → Passed f
    go true p l q h = absurd (true≢false (sym h))
    go false p true q h = absurd (true≢false (sym h))
    go false p false q h = record { some = let n = eqb-false (length f) 0 p in omega arith; short = ltb-false longest_name (length f) q; all = h }

-- a byte that is not a name's
other_byte : (b d : ℕ) → name_byte d ≡ false → name_byte b ≡ true → eqb b d ≡ false
other_byte b d out inside = ne_eqb b d (λ e. true≢false (sym inside ∙ ap name_byte e ∙ out))

-- a name lacks such a byte
name_lacks : (x : ℕ) → name_byte x ≡ false → (f : List ℕ) → name_bytes f ≡ true → lacks x f ≡ true
unfolding name_bytes lacks
name_lacks x out [] h = refl
name_lacks x out (b ∷ f) h =
    let (first, others) = both_parts (name_byte b) (name_bytes f) h in
    rw (other_byte b x out first) (name_lacks x out f others)

-- so it is one field of a line
pub name_field : (f : List ℕ) → is_name f ≡ true → one_field_lem f ≡ true
unfolding one_field_lem name_byte tab newline
name_field f h = let all = (name_parts f h).all in true_both _ _ (name_lacks tab refl f all) (name_lacks newline refl f all)

-- ---- in the order's words

-- a byte that passes is below 96
byte_low : (b : ℕ) → name_byte b ≡ true → b < 96
unfolding name_byte
byte_low b e = go (ltb b 48) refl (ltb b 58) refl (ltb b 65) refl (ltb b 91) refl e
  where
    go : (p : Bool) → ltb b 48 ≡ p → (q : Bool) → ltb b 58 ≡ q → (r : Bool) → ltb b 65 ≡ r → (s : Bool) → ltb b 91 ≡ s
        → pick p false (pick q true (pick r false (pick s true (eqb b 95)))) ≡ true → b < 96
    go true f q g r h s k e = absurd (true≢false (sym e))
    go false f true g r h s k e = let n = ltb-true b 58 g in omega arith
    go false f false g true h s k e = absurd (true≢false (sym e))
    go false f false g false h true k e = let n = ltb-true b 91 k in omega arith
    go false f false g false h false k e = let n = eqb-true b 95 e in omega arith

-- the bytes of names
abbrev allowed : List ℕ
allowed = bytes "ABCDEFGHIJKLMNOPQRSTUVWXYZ0123456789_"

-- whether a byte is among others
is_in : ℕ → List ℕ → Bool
is_in b [] = false
is_in b (a ∷ l) = either (eqb b a) (is_in b l)

in_member : (b : ℕ) (l : List ℕ) → is_in b l ≡ true → Memᴰ b l
unfolding is_in
in_member b [] e = absurd (true≢false (sym e))
in_member b (a ∷ l) e = ⊎_elim (λ h. Memᴰ.head (eqb-true b a h)) (λ t. Memᴰ.tail (in_member b l t)) (either_cases (eqb b a) (is_in b l) e)

-- every byte below 96 that passes is among them ..
below_96 : every 96 (λ b. either (not (name_byte b)) (is_in b allowed)) ≡ true
unfolding every name_byte bytes is_in either both
below_96 = refl

byte_passed : (b : ℕ) → name_byte b ≡ true → NameByte b
unfolding is_in either
byte_passed b e =
    let test : either (not (name_byte b)) (is_in b allowed) ≡ true = every_at 96 (λ k. either (not (name_byte k)) (is_in k allowed)) below_96 b (byte_low b e) in
    in_member b allowed (rw e at test)

-- .. and they all pass
all_pass : name_bytes allowed ≡ true
unfolding name_bytes name_byte bytes both
all_pass = refl

member_passes : (f : List ℕ) → name_bytes f ≡ true → (b : ℕ) → Memᴰ b f → name_byte b ≡ true
unfolding name_bytes
member_passes [] h b m = absurd (Memᴰ.not-nil m)
member_passes (a ∷ f) h b m =
    let (first, others) = both_parts (name_byte a) (name_bytes f) h in
    ⊎_elim (λ e. rw e first) (λ l. member_passes f others b l) (Memᴰ.cases_cons m)

byte_passes : (b : ℕ) → NameByte b → name_byte b ≡ true
byte_passes b m = member_passes allowed all_pass b m

bytes_passes : (f : List ℕ) → ((b : ℕ) → Memᴰ b f → NameByte b) → name_bytes f ≡ true
unfolding name_bytes
bytes_passes [] h = refl
bytes_passes (a ∷ f) h = true_both _ _ (byte_passes a (h a (Memᴰ.head refl))) (bytes_passes f (λ b m. h b (Memᴰ.tail m)))

passed : (name : List ℕ) → is_name name ≡ true → IsName name
passed name e =
    let n = name_parts name e in
    record { some_byte = omega (arith, n.some); at_most_40 = n.short; name_bytes_lem = λ b m. byte_passed b (member_passes name n.all b m) }

passes : (name : List ℕ) → IsName name → is_name name ≡ true
unfolding is_name longest_name
passes name n =
    rw (ne_eqb (length name) 0 (λ e. omega (arith, n.some_byte)), le-ltb 40 (length name) n.at_most_40) (bytes_passes name n.name_bytes_lem)

pub names_tested : NamesTested
names_tested = record { passed = passed; passes = passes }
