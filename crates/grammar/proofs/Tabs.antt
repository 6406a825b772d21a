-- Fields without tabs and newlines, written as a line, are the fields of its text, which is one line; and a text is its fields written as a line.
-- Assumes nothing.
use Rattle.std.specs.Prelude.{Some}
use mathlib.Core.Path.{◌≡◌, refl, ap, sym, ◌∙◌}
use mathlib.Core.Bool.{Bool, true, false, true≢false}
use mathlib.Core.List.{List, [], ◌∷◌, ◌++◌, append_assoc}
use Prim.Native.Nat.{ℕ, ◌+◌, ◌*◌, ◌<◌, ◌≤◌}
use native.Mathlib.Omega.{arith}
use lib.Dec.{ltb, eqb}
use lib.ListN.{length, length-append}
use borrow.Author.Tests.{ltb-true, eqb-true, ne_eqb}
use Rattle.requests.specs.Choice.{pick, both}
use Rattle.requests.proofs.Tests.{both_parts, true_both}
use Rattle.grammar.specs.Text.{tab, newline, line_of}
use Rattle.grammar.specs.Fields.{onto, fields}
use Rattle.grammar.specs.Numbers.{digit_of, number_from}
use Rattle.grammar.proofs.Outcomes.{read_where}

-- whether a run of bytes lacks the byte x
unfoldable pub lacks : ℕ → List ℕ → Bool
lacks x [] = true
lacks x (b ∷ f) = pick (eqb b x) false (lacks x f)

module _ (x : ℕ) where
  -- a numeral lacks what is no digit
  pub numeral_lacks : digit_of x ≡ 16 → (base n : ℕ) (f : List ℕ) (m : ℕ) → base ≤ 16 → number_from base n f ≡ Some m → lacks x f ≡ true
  unfolding number_from lacks
  numeral_lacks none base n [] m most e = refl
  numeral_lacks none base n (b ∷ f) m most e =
      let (digit, value) = read_where (ltb (digit_of b) base) (number_from base (n * base + digit_of b) f) m e in
      rw (ne_eqb b x (other (ltb-true (digit_of b) base digit))) (numeral_lacks none base (n * base + digit_of b) f m most value)
    where
      other : digit_of b < base → ¬ (b ≡ x)
      other h is = let below : digit_of x < base = rw is at h in omega arith

  -- a first byte and others, none of them x
  pub record Lacking (b : ℕ) (f : List ℕ) : Type 0 where
    pub first : eqb b x ≡ false
    pub others : lacks x f ≡ true

  -- a run that lacks it lacks it at every place
  pub lacks_parts : (b : ℕ) (f : List ℕ) → lacks x (b ∷ f) ≡ true → Lacking b f
  unfolding lacks
  lacks_parts b f e = go (eqb b x) refl e
    where
      go : (t : Bool) → eqb b x ≡ t → pick t false (lacks x f) ≡ true → Lacking b f
      go true p q = absurd (true≢false (sym q))
      go false p q = record { first = p; others = q }

  -- two runs that lack it
  lacks_append : (f g : List ℕ) → lacks x f ≡ true → lacks x g ≡ true → lacks x (f ++ g) ≡ true
  unfolding lacks
  lacks_append [] g h k = k
  lacks_append (b ∷ f) g h k = let s : Lacking b f = lacks_parts b f h in rw s.first (lacks_append f g s.others k)

-- a field without a tab is one field alone
pub one_field : (f : List ℕ) → lacks tab f ≡ true → fields f ≡ f ∷ []
unfolding fields
one_field [] h = refl
one_field (b ∷ f) h = let s : Lacking tab b f = lacks_parts tab b f h in rw (s.first, one_field f s.others)

-- and the first one before a tab
pub first_field : (f t : List ℕ) → lacks tab f ≡ true → fields (f ++ tab ∷ t) ≡ f ∷ fields t
unfolding fields tab
first_field [] t h = refl
first_field (b ∷ f) t h = let s : Lacking tab b f = lacks_parts tab b f h in rw (s.first, first_field f t s.others)

-- whether a run of bytes may be a field of a line
unfoldable pub one_field_lem : List ℕ → Bool
one_field_lem f = both (lacks tab f) (lacks newline f)

-- a numeral may
pub numeral_field : (base n : ℕ) (f : List ℕ) (m : ℕ) → base ≤ 16 → number_from base n f ≡ Some m → one_field_lem f ≡ true
unfolding one_field_lem digit_of tab newline
numeral_field base n f m most e = true_both _ _ (numeral_lacks tab refl base n f m most e) (numeral_lacks newline refl base n f m most e)

-- a field of at most w bytes that a line may hold after its verb
pub record Plain (w : ℕ) (f : List ℕ) : Type 0 where
  pub field : one_field_lem f ≡ true
  pub short : length f ≤ w

-- fields that are all so, of at most n bytes with the tabs before them
pub data Plains : ℕ → List (List ℕ) → Type 0 where
  none : Plains 0 []
  more : {w n : ℕ} {f : List ℕ} {fs : List (List ℕ)} → Plain w f → Plains n fs → Plains (1 + w + n) (f ∷ fs)

-- the text of a line with these fields
pub record Written (n : ℕ) (f : List ℕ) (fs : List (List ℕ)) : Type 0 where
  pub text : List ℕ
  pub line : line_of (f ∷ fs) ≡ text ++ newline ∷ []
  pub parts : fields text ≡ f ∷ fs
  pub one_line : lacks newline text ≡ true
  pub size : length text ≤ length f + n

-- every such line has one
pub written : (n : ℕ) (f : List ℕ) (fs : List (List ℕ)) → one_field_lem f ≡ true → Plains n fs → Written n f fs
unfolding one_field_lem line_of lacks tab newline
written _ f [] h none =
    let (no-tab, no_newline) = both_parts (lacks tab f) (lacks newline f) h in
    record { text = f; line = refl; parts = one_field f no-tab; one_line = no_newline; size = omega arith }
written _ f (g ∷ fs) h (more {n = n} p ps) =
    let (no-tab, no_newline) = both_parts (lacks tab f) (lacks newline f) h in
    let w : Written n g fs = written n g fs p.field ps in
    record {
      text = f ++ tab ∷ w.text;
      line = rw (w.line, append_assoc);
      parts = first_field f w.text no-tab ∙ ap (λ (gs : List (List ℕ)). f ∷ gs) w.parts;
      one_line = lacks_append newline f (tab ∷ w.text) no_newline w.one_line;
      size = simp length-append (omega (arith, w.size, p.short));
    }

-- a text has a field
pub some_field : (t : List ℕ) → (f : List ℕ) × (fs : List (List ℕ)) × (fields t ≡ f ∷ fs)
unfolding fields
some_field [] = ([], [], refl)
some_field (b ∷ t) = go (eqb b tab) (some_field t)
  where
    go : (x : Bool) → (f : List ℕ) × (fs : List (List ℕ)) × (fields t ≡ f ∷ fs)
        → (f : List ℕ) × (fs : List (List ℕ)) × (pick x ([] ∷ fields t) (onto b (fields t)) ≡ f ∷ fs)
    go true s = ([], fields t, refl)
    go false (f, fs, e) = (b ∷ f, fs, rw e)

-- a byte before the first field
line_onto : (b : ℕ) (f : List ℕ) (fs : List (List ℕ)) → line_of (onto b (f ∷ fs)) ≡ b ∷ line_of (f ∷ fs)
unfolding line_of
line_onto b f [] = refl
line_onto b f (g ∷ fs) = refl

-- a byte before the text, tab or not
line_more : (b : ℕ) (f : List ℕ) (fs : List (List ℕ)) (l : List ℕ) (x : Bool) → eqb b tab ≡ x → line_of (f ∷ fs) ≡ l
    → line_of (pick x ([] ∷ f ∷ fs) (onto b (f ∷ fs))) ≡ b ∷ l
unfolding line_of
line_more b f fs l true p e = rw (e, eqb-true b tab p)
line_more b f fs l false p e = line_onto b f fs ∙ ap (λ (k : List ℕ). b ∷ k) e

-- a text, closed by a newline, is the line of its fields
pub line_of_fields : (t : List ℕ) → line_of (fields t) ≡ t ++ newline ∷ []
unfolding fields line_of
line_of_fields [] = refl
line_of_fields (b ∷ t) = go (some_field t) (line_of_fields t)
  where
    go : (f : List ℕ) × (fs : List (List ℕ)) × (fields t ≡ f ∷ fs) → line_of (fields t) ≡ t ++ newline ∷ [] → line_of (fields (b ∷ t)) ≡ b ∷ t ++ newline ∷ []
    go (f, fs, e) ih = rw e (line_more b f fs (t ++ newline ∷ []) (eqb b tab) refl (rw e at ih))
