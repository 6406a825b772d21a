-- Laws of texts that are put into a slice: one after another, a byte at a time from the front, a byte at a time from the back.
-- Assumes nothing.
use mathlib.Core.Path.{◌≡◌, refl, ap, sym, ◌∙◌}
use mathlib.Core.List.{List, [], ◌∷◌, ◌++◌, append_assoc}
use Prim.Native.Nat.{ℕ, suc, ◌+◌, ◌-◌, ◌<◌, ◌≤◌}
use native.Mathlib.Numerals.{add-one}
use native.Mathlib.Nat.{add-zero}
use native.Mathlib.Omega.{arith}
use lib.ListN.{length, get_or, take, drop, set, length-append, length-take}
use lib.Seq.{sets, drop-cons, drop-length, length-sets, set_comm, take_at, get_or_at, get_or-take, take-take, drop-drop}
use borrow.Rule.Slice.PartMut.{put_mid}
use Rattle.std.proofs.lemmas.List.Edits.{sets-eq}
use Rattle.layouts.proofs.ListLaws.{sets_append}
use Rattle.responder.specs.Texts.{Put}

-- the slice keeps its length
pub put_length : {d e b : List ℕ} {at n : ℕ} → Put d at b e n → length e ≡ length d
put_length {d} {e} {b} {at} w = ap length w.contents ∙ length-sets d at b

-- nothing is put
pub put_nothing : (d : List ℕ) (at : ℕ) → Put d at [] d at
put_nothing d at = record { place = sym (add-zero at); contents = refl }

-- two texts, one after the other
pub then : {d e f a b : List ℕ} {at n m : ℕ} → Put d at a e n → Put e n b f m → Put d at (a ++ b) f m
then {d} {e} {f} {a} {b} {at} {n} {m} v w =
    record {
      place = w.place ∙ ap (λ (k : ℕ). k + length b) v.place ∙ omega (arith, length-append a b);
      contents = w.contents ∙ rw (v.contents, v.place, sets_append d at a b);
    }

-- one byte
put_byte : (d : List ℕ) (at x : ℕ) → Put d at (x ∷ []) (set d at x) (at + 1)
put_byte d at x = record { place = refl; contents = refl }

-- a copy
pub copied : (d : List ℕ) (at : ℕ) (b : List ℕ) → at + length b ≤ length d → Put d at b (put_mid at (at + length b - at) d b) (at + length b)
copied d at b h = record { place = refl; contents = let k : at + length b - at ≡ length b = omega arith in rw (k, sets-eq b d at h, drop-drop, append_assoc) }

-- ---- from the back

-- a store in front of a run of stores may come first
set_early : (d : List ℕ) (i k x : ℕ) (a : List ℕ) → i < k → set (sets d k a) i x ≡ sets (set d i x) k a
set_early d i k x [] h = refl
set_early d i k x (y ∷ a) h =
    set_early (set d k y) i (suc k) x a (omega arith)
    ∙ ap (λ (l : List ℕ). sets l (suc k) a) (set_comm d k i y x λ e. omega (arith, e))

-- the text stands in the slice from its byte i on
abbrev pub PutFrom : ℕ → List ℕ → ℕ → List ℕ → List ℕ → Type 0
PutFrom i d at text e = e ≡ sets d (at + i) (drop i text)

-- the slice keeps its length
pub from_length : (i at : ℕ) (d text e : List ℕ) → PutFrom i d at text e → length e ≡ length d
from_length i at d text e p = ap length p ∙ length-sets d (at + i) (drop i text)

-- at first nothing of it does
pub none_put : (d : List ℕ) (at i : ℕ) (text : List ℕ) → i ≡ length text → PutFrom i d at text d
none_put d at i text p = rw (p, drop-length)

-- the byte in front of what stands there
put_before : (d e : List ℕ) (at i : ℕ) (text : List ℕ) → i < length text → PutFrom (i + 1) d at text e → PutFrom i d at text (set e (at + i) (get_or text i 0))
put_before d e at i text h p =
    let m : at + suc i ≡ suc (at + i) = omega arith in
    rw (p, add-one i, m, drop-cons text i 0) (set_early d (at + i) (suc (at + i)) (get_or text i 0) (drop (suc i) text) (omega arith))

-- at last all of it does
pub all_put : (d e : List ℕ) (at n : ℕ) (text : List ℕ) → n ≡ length text → PutFrom 0 d at text e → Put d at text e (at + n)
all_put d e at n text q p = record { place = rw q; contents = rw add-zero at p }

-- the last of its first i bytes is put: those in front of it are left
pub digit_before : (d e text a : List ℕ) (at i k x : ℕ) → i ≡ k + 1 → length a ≡ k → a ++ x ∷ [] ≡ take i text → PutFrom i d at text e
    → (a ≡ take k text) × PutFrom k d at text (set e (at + k) x)
digit_before d e t a at i k x p l s f =
    let u : a ++ x ∷ [] ≡ take (k + 1) t = s ∙ ap (λ (m : ℕ). take m t) p in
    let g : PutFrom (k + 1) d at t e = rw p at f in
    let h : k < length t = omega (arith, simp (length-append, length-take) at (ap length u)) in
    let b : get_or t k 0 ≡ x = sym (get_or-take (k + 1) t k 0 (omega arith)) ∙ ap (λ (y : List ℕ). get_or y k 0) (sym u) ∙ get_or_at a x [] 0 k l in
    (sym (take_at a (x ∷ []) k l) ∙ ap (λ (y : List ℕ). take k y) u ∙ take-take k (k + 1) t (omega arith), rw b at (put_before d e at k t h g))
