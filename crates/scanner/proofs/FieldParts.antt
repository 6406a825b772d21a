-- A field is the part of the text from its start to its end. Assumes nothing.
use Prim.Native.Nat.{ℕ, zero, suc, ◌+◌, ◌-◌, ◌<◌, ◌≤◌, zero-le}
use mathlib.Core.Path.{◌≡◌, refl, ap, sym, ◌∙◌}
use mathlib.Core.Bool.{Bool, true, false}
use mathlib.Core.List.{List, [], ◌∷◌}
use native.Mathlib.Numerals.{add-one}
use native.Mathlib.Nat.{not-suc-le-zero, sub-zero}
use native.Mathlib.Omega.{arith}
use lib.ListN.{length, get_or, take, drop}
use lib.Dec.{eqb}
use Rattle.requests.specs.Choice.{pick}
use Rattle.grammar.specs.Text.{tab}
use Rattle.grammar.specs.Fields.{onto, fields}
use Rattle.scanner.specs.Parts.{end_of, Parted}

-- where field k starts, by the ends
abbrev pub start_by : (ℕ → ℕ) → ℕ → ℕ
start_by ends zero = 0
start_by ends (suc k) = suc (ends k)

-- field k of the list is the part of the text between start and end
pub record Cut (fs : List (List ℕ)) (text : List ℕ) (k start end : ℕ) : Type 0 where
  pub ordered : start ≤ end
  pub within : end ≤ length text
  pub part : take (end - start) (drop start text) ≡ get_or fs k []

-- the ends after one byte more at the front
abbrev later : (t : Bool) → List ℕ → ℕ → ℕ
later t bs k = pick t (elim k [ zero ↦ 0 | suc j ↦ suc (end_of bs j) ]) (suc (end_of bs k))

-- one byte more at the front
shifted : {fs gs : List (List ℕ)} {bs : List ℕ} {b j k start end : ℕ} → get_or gs k [] ≡ get_or fs j [] → Cut fs bs j start end → Cut gs (b ∷ bs) k (suc start) (suc end)
shifted {start = start} {end = end} e c =
    let d : suc end - suc start ≡ end - start = omega arith in
    record { ordered = omega arith; within = omega arith; part = rw d (c.part ∙ sym e) }

-- a byte at the front goes into the first field, and the others stay
onto_first : (b : ℕ) (fs : List (List ℕ)) → 0 < length fs → get_or (onto b fs) 0 [] ≡ b ∷ get_or fs 0 []
onto_first b [] h = absurd (not-suc-le-zero h)
onto_first b (f ∷ fs) h = refl

onto_later : (b k : ℕ) (fs : List (List ℕ)) → get_or (onto b fs) (suc k) [] ≡ get_or fs (suc k) []
onto_later b k [] = refl
onto_later b k (f ∷ fs) = refl

-- the number of fields stays
pub length_onto : (b : ℕ) (fs : List (List ℕ)) → length (onto b fs) ≡ length fs
length_onto b [] = refl
length_onto b (f ∷ fs) = refl

-- every field that is there lies between its start and its end
cut_step : (t : Bool) (b : ℕ) (bs : List ℕ) → ((k : ℕ) → k < length (fields bs) → Cut (fields bs) bs k (start_by (end_of bs) k) (end_of bs k))
    → (k : ℕ) → k < length (pick t ([] ∷ fields bs) (onto b (fields bs)))
    → Cut (pick t ([] ∷ fields bs) (onto b (fields bs))) (b ∷ bs) k (start_by (later t bs) k) (later t bs k)
cut_step true b bs ih zero h = record { ordered = zero-le; within = zero-le; part = refl }
cut_step true b bs ih (suc zero) h = shifted refl (ih 0 (omega arith))
cut_step true b bs ih (suc (suc k)) h = shifted refl (ih (suc k) (omega arith))
cut_step false b bs ih zero h =
    let l = length_onto b (fields bs) in
    let c = ih 0 (omega arith) in
    record { ordered = zero-le; within = omega arith; part = rw sub-zero (ap (◌∷◌ b) (rw sub-zero at c.part) ∙ sym (onto_first b (fields bs) (omega arith))) }
cut_step false b bs ih (suc k) h =
    let l = length_onto b (fields bs) in
    shifted (onto_later b k (fields bs)) (ih (suc k) (omega arith))

pub cut : (text : List ℕ) (k : ℕ) → k < length (fields text) → Cut (fields text) text k (start_by (end_of text) k) (end_of text k)
unfolding fields end_of
cut [] zero h = record { ordered = zero-le; within = zero-le; part = refl }
cut [] (suc k) h = let z : ⊥ = omega arith in absurd z
cut (b ∷ bs) k h = cut_step (eqb b tab) b bs (cut bs) k h

-- where a field after the first starts
start_after : (ends : ℕ → ℕ) (k : ℕ) → (k ≡ 0 → ⊥) → start_by ends k ≡ ends (k - 1) + 1
start_after ends zero n = absurd (n refl)
start_after ends (suc k) n = let d : suc k - 1 ≡ k = omega arith in rw (d, add-one)

-- the text up to its first end is field k
abbrev pub FirstPart : List ℕ → List ℕ → ℕ → Type 0
FirstPart text ends k = (get_or ends k 0 ≤ length text) × (take (get_or ends k 0) text ≡ get_or (fields text) k [])

-- the part after the end before it is field k
abbrev pub NextPart : List ℕ → List ℕ → ℕ → Type 0
NextPart text ends k = Cut (fields text) text k (get_or ends (k - 1) 0 + 1) (get_or ends k 0)

-- the parts that were found are the fields
module _ {text ends : List ℕ} {count : ℕ} (p : Parted text ends count) (k : ℕ) (few : k < 8) (there : k < count) where
  found : Cut (fields text) text k (start_by (end_of text) k) (end_of text k)
  found = cut text k (rw p.counted at there)

  pub first_part : k ≡ 0 → FirstPart text ends k
  first_part z =
      let f = rw z at found in
      rw (p.placed k few, z) (f.within, rw sub-zero at f.part)

  pub next_part : (k ≡ 0 → ⊥) → NextPart text ends k
  next_part n = rw (p.placed k few, p.placed (k - 1) (omega arith), ← start_after (end_of text) k n) found
