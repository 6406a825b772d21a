-- The fields of a text and those of its first n bytes: the same up to one, of which at least the rest of the n bytes is left. Where that is more
-- than any field of its format has, both break the grammar in the same field. Assumes nothing.
use Rattle.std.specs.Prelude.{Err}
use mathlib.Core.Path.{◌≡◌, refl, ap, sym, ◌∙◌}
use mathlib.Core.Bool.{Bool, true, false}
use mathlib.Core.List.{List, [], ◌∷◌}
use Prim.Native.Nat.{ℕ, zero, suc, ◌+◌, ◌-◌, ◌≤◌, ◌<◌}
use native.Mathlib.Omega.{arith}
use native.Mathlib.Decide.{dec_lt}
use lib.Dec.{eqb}
use lib.ListN.{length, get_or, take, drop, length-drop}
use borrow.Author.Tests.{ne_eqb}
use Rattle.requests.specs.Choice.{pick}
use Rattle.requests.proofs.Tests.{both_false}
use Rattle.grammar.specs.Text.{tab}
use Rattle.grammar.specs.Fields.{onto, fields, field_at}
use Rattle.grammar.specs.Verbs.{is_whole}
use Rattle.grammar.specs.Parsed.{Parsed}

-- ---- the fields of a text, and those of its first n bytes

-- the same fields up to one in which byte n lies, or at whose end; of that one at least n bytes are left
pub data Cut : ℕ → List (List ℕ) → List (List ℕ) → Type 0 where
  inside : {n : ℕ} {f g : List ℕ} {rest : List (List ℕ)} → n ≤ length f → n ≤ length g → Cut n (f ∷ rest) (g ∷ [])
  after : {n m : ℕ} {x : List ℕ} {fs gs : List (List ℕ)} → n ≡ length x + (m + 1) → Cut m fs gs → Cut n (x ∷ fs) (x ∷ gs)

-- one byte more in the first field
cut_onto : (b : ℕ) {n : ℕ} {fs gs : List (List ℕ)} → Cut n fs gs → Cut (suc n) (onto b fs) (onto b gs)
cut_onto b (inside {n = n} {f = f} {g = g} h k) = inside {n = suc n} {f = b ∷ f} {g = b ∷ g} (omega arith) (omega arith)
cut_onto b (after {n = n} {m = m} {x = x} e c) = after {n = suc n} {m = m} {x = b ∷ x} (omega arith) c

-- the first cut
cut_first : (fs : List (List ℕ)) → 0 < length fs → Cut 0 fs ([] ∷ [])
cut_first [] h = let z : ⊥ = omega arith in absurd z
cut_first (f ∷ fs) h = inside {n = 0} {f = f} {g = []} (omega arith) (omega arith)

some_field : (t : List ℕ) → 0 < length (fields t)
unfolding fields
some_field [] = omega arith
some_field (b ∷ bs) = go (eqb b tab) (fields bs) (some_field bs)
  where
    go : (t : Bool) (fs : List (List ℕ)) → 0 < length fs → 0 < length (pick t ([] ∷ fs) (onto b fs))
    go true fs h = omega arith
    go false [] h = h
    go false (f ∷ fs) h = omega arith

cut_fields : (t : List ℕ) (n : ℕ) → n < length t → Cut n (fields t) (fields (take n t))
unfolding fields
cut_fields [] n h = let z : ⊥ = omega arith in absurd z
cut_fields (b ∷ bs) zero h = cut_first (fields (b ∷ bs)) (some_field (b ∷ bs))
cut_fields (b ∷ bs) (suc n) h = go (eqb b tab) (cut_fields bs n (omega arith))
  where
    go : (t : Bool) → Cut n (fields bs) (fields (take n bs)) → Cut (suc n) (pick t ([] ∷ fields bs) (onto b (fields bs))) (pick t ([] ∷ fields (take n bs)) (onto b (fields (take n bs))))
    go true c = after {n = suc n} {m = n} {x = []} (omega arith) c
    go false c = cut_onto b c

-- from field k on they are cut at byte n
pub record CutAt (t p : List ℕ) (k n : ℕ) : Type 0 where
  pub more : List (List ℕ)
  pub kept : List (List ℕ)
  pub more_is : drop k (fields t) ≡ more
  pub kept_is : drop k (fields p) ≡ kept
  pub cut : Cut n more kept

pub cut_at : (t : List ℕ) (n : ℕ) → n < length t → CutAt t (take n t) 0 n
cut_at t n h = record { more = fields t; kept = fields (take n t); more_is = refl; kept_is = refl; cut = cut_fields t n h }

-- ---- the first field at fault of both

pub record SameFault (a b : Parsed) : Type 0 where
  pub at : ℕ
  pub one : a ≡ Err at
  pub other : b ≡ Err at

-- field k and those after it
field_next : {A : Type 0} (l : List A) (k : ℕ) (d x : A) (xs : List A) → drop k l ≡ x ∷ xs → (get_or l k d ≡ x) × (drop (suc k) l ≡ xs)
field_next [] zero d x xs e = let z : ◌≡◌ {A = ℕ} 0 1 = cc in absurd (omega arith)
field_next [] (suc k) d x xs e = let z : ◌≡◌ {A = ℕ} 0 1 = cc in absurd (omega arith)
field_next (y ∷ l) zero d x xs e = ((cc), (cc))
field_next (y ∷ l) (suc k) d x xs e = field_next l k d x xs e

-- how field k is read: one of more than w bytes is at fault, and what has one field at fault after any value has it after the field
pub record Field {A : Type 0} (read : List ℕ → (A → Parsed) → Parsed) (k w : ℕ) : Type 0 where
  pub wide : (x : List ℕ) (next : A → Parsed) → w < length x → read x next ≡ Err k
  pub both : (x : List ℕ) (next next2 : A → Parsed) → ((a : A) → SameFault (next a) (next2 a)) → SameFault (read x next) (read x next2)

module _ {A : Type 0} (read : List ℕ → (A → Parsed) → Parsed) (t p : List ℕ) (k w n : ℕ) (f : Field read k w) (room : w < n) (next next2 : A → Parsed) where
  -- both fields are too wide
  both_wide : (x y : List ℕ) → field_at t k ≡ x → field_at p k ≡ y → w < length x → w < length y → SameFault (read (field_at t k) next) (read (field_at p k) next2)
  both_wide x y tx py h l =
      record {
        at = k;
        one = ap (λ (z : List ℕ). read z next) tx ∙ f.wide x next h;
        other = ap (λ (z : List ℕ). read z next2) py ∙ f.wide y next2 l;
      }

  -- a text and its first bytes, where more than w of them are left at field k
  pub cut_field : CutAt t p k n → ((m : ℕ) → n ≤ m + (w + 1) → CutAt t p (suc k) m → (a : A) → SameFault (next a) (next2 a))
      → SameFault (read (field_at t k) next) (read (field_at p k) next2)
  cut_field c below = go c.more c.kept c.more_is c.kept_is c.cut
    where
      same : (x : List ℕ) → field_at t k ≡ x → field_at p k ≡ x → Dec (w < length x) → (length x ≤ w → (a : A) → SameFault (next a) (next2 a))
          → SameFault (read (field_at t k) next) (read (field_at p k) next2)
      same x tx px (yes h) rest = both_wide x x tx px h h
      same x tx px (no h) rest = rw (tx, px) (f.both x next next2 (rest (omega arith)))

      go : (xs ys : List (List ℕ)) → drop k (fields t) ≡ xs → drop k (fields p) ≡ ys → Cut n xs ys → SameFault (read (field_at t k) next) (read (field_at p k) next2)
      go (x ∷ xs) (y ∷ ys) et ep (inside hx hy) =
          both_wide x y (field_next (fields t) k [] x xs et).0 (field_next (fields p) k [] y ys ep).0 (omega arith) (omega arith)
      go (x ∷ xs) (y ∷ ys) et ep (after {m = m} e d) =
          let (tx, rest) = field_next (fields t) k [] x xs et in
          let (px, rest2) = field_next (fields p) k [] x ys ep in
          same x tx px (dec_lt w (length x)) (λ l. below m (omega arith) (record { more = xs; kept = ys; more_is = rest; kept_is = rest2; cut = d }))
      go [] ys et ep h = elim h [ ]
      go (x ∷ xs) [] et ep h = elim h [ ]

-- a field is left in both
left_over : (t : List ℕ) (closed : Bool) (k : ℕ) (f : List ℕ) (fs : List (List ℕ)) → drop k (fields t) ≡ f ∷ fs → is_whole t closed k ≡ false
left_over t closed k f fs e =
    let size : length (fields t) - k ≡ suc (length fs) = sym (length-drop k (fields t)) ∙ ap length e in
    rw (ne_eqb (length (fields t)) k (λ z. omega arith), both_false closed)

pub cut_ends : (t p : List ℕ) (closed : Bool) (k n : ℕ) → CutAt t p k n → (is_whole t closed k ≡ false) × (is_whole p closed k ≡ false)
cut_ends t p closed k n c = go c.more c.kept c.more_is c.kept_is c.cut
  where
    go : (xs ys : List (List ℕ)) → drop k (fields t) ≡ xs → drop k (fields p) ≡ ys → Cut n xs ys → (is_whole t closed k ≡ false) × (is_whole p closed k ≡ false)
    go (x ∷ xs) (y ∷ ys) et ep d = (left_over t closed k x xs et, left_over p closed k y ys ep)
    go [] ys et ep d = elim d [ ]
    go (x ∷ xs) [] et ep d = elim d [ ]

-- ---- the first field: too long in both, or whole

pub data First (t p : List ℕ) (n : ℕ) : Type 0 where
  endless : n ≤ length (field_at t 0) → n ≤ length (field_at p 0) → First t p n
  whole : field_at p 0 ≡ field_at t 0 → (m : ℕ) → n ≡ length (field_at t 0) + (m + 1) → CutAt t p 1 m → First t p n

pub first_field : (t p : List ℕ) (n : ℕ) → CutAt t p 0 n → First t p n
first_field t p n c = go c.more c.kept c.more_is c.kept_is c.cut
  where
    go : (xs ys : List (List ℕ)) → fields t ≡ xs → fields p ≡ ys → Cut n xs ys → First t p n
    go (x ∷ xs) (y ∷ ys) et ep (inside hx hy) =
        endless (rw (field_next (fields t) 0 [] x xs et).0 hx) (rw (field_next (fields p) 0 [] y ys ep).0 hy)
    go (x ∷ xs) (y ∷ ys) et ep (after {m = m} e d) =
        let (tx, rest) = field_next (fields t) 0 [] x xs et in
        let (px, rest2) = field_next (fields p) 0 [] x ys ep in
        whole (px ∙ sym tx) m (rw tx e) (record { more = xs; kept = ys; more_is = rest; kept_is = rest2; cut = d })
    go [] ys et ep h = elim h [ ]
    go (x ∷ xs) [] et ep h = elim h [ ]
