-- Laws of the lines of a reply: where numbers end, one request or one write more, and a `take` line in its parts.
-- Assumes nothing.
use Rattle.std.specs.Prelude.{Option, None, Some}
use mathlib.Core.Path.{◌≡◌, refl}
use mathlib.Core.List.{List, [], ◌∷◌, ◌++◌, flat_map, append_assoc, append-nil}
use Prim.Native.Nat.{ℕ, zero, suc, ◌+◌, ◌*◌, ◌<◌, ◌≤◌}
use native.Mathlib.Nat.{not-suc-le-zero}
use native.Mathlib.Omega.{arith}
use lib.ListN.{length, get_or, take, length-append, length-take}
use lib.Seq.{length-take-le}
use Rattle.requests.specs.declared.Entry.{Entry}
use Rattle.requests.proofs.Windows.{take_next}
use Rattle.plans.specs.Packed.{place_at_lem}
use Rattle.plans.specs.declared.Place.TheVariants.{Counter, WithRsp, Pair}
use Rattle.plans.specs.Places.{counted_of}
use Rattle.sessions.specs.declared.Assigned.{Assigned}
use Rattle.sessions.specs.Sessions.{vacant}
use Rattle.planner.specs.Selections.{planned}
use Rattle.planner.proofs.Assigning.{planned_next, planned_length}
use Rattle.grammar.specs.Text.{bytes, tab, newline, hex_text, decimal_digits, decimal_text, line_of}
use Rattle.grammar.proofs.Hexes.{hex_length}
use Rattle.answers.specs.Replies.{register_text, take_lines, set_lines}
use Rattle.responder.specs.Texts.{Put, take_start}
use Rattle.answers.proofs.Lengths.{decimal_length, joined_length, take_lines_length, set_lines_length}

-- where a number ends
pub number_end : (number : ℕ) {d e : List ℕ} {at n : ℕ} → Put d at (decimal_text number) e n → n ≤ at + 20
number_end number p = omega (arith, p.place, decimal_length number)

-- where hex of a width ends
pub hex_end : (width number : ℕ) {d e : List ℕ} {at n : ℕ} → Put d at (hex_text width number) e n → n ≡ at + width
hex_end width number p = omega (arith, p.place, hex_length width number)

-- where a field ends
pub field_end : (number : ℕ) {d e : List ℕ} {at n : ℕ} → Put d at (tab ∷ decimal_text number) e n → n ≤ at + 21
field_end number p = omega (arith, p.place, decimal_length number)

-- ---- `take` lines

-- where a line's start ends
pub start_end : (id counter : ℕ) {d e : List ℕ} {at n : ℕ} → Put d at (take_start id counter) e n → n ≤ at + 47
unfolding take_start bytes
start_end id counter {d} {e} {at} {n} p = omega (arith, simp length-append at p.place, decimal_length id, decimal_length counter)

-- a line is its start, its register and the newline
take_line : (id counter : ℕ) (r : Option ℕ) → line_of (bytes "take" ∷ decimal_text id ∷ decimal_text counter ∷ register_text r ∷ []) ≡ take_start id counter ++ (register_text r ++ newline ∷ [])
unfolding take_start line_of bytes
take_line id counter r = simp append_assoc

module _ (a : Assigned) where
  -- one line, with no register
  pub take_counter_lem : (k : ℕ) → a.place ≡ Counter k → take_lines a ≡ take_start a.id k ++ (bytes "-" ++ newline ∷ [])
  unfolding take_lines counted_of register_text flat_map
  take_counter_lem k e = rw (e, append-nil) (take_line a.id k None)

  -- one line, with the register
  pub take_rsp : (k i : ℕ) → a.place ≡ WithRsp k i → take_lines a ≡ take_start a.id k ++ (decimal_text i ++ newline ∷ [])
  unfolding take_lines counted_of register_text flat_map
  take_rsp k i e = rw (e, append-nil) (take_line a.id k (Some i))

  -- two lines, the first with RSP0 and the second with RSP1
  pub take_pair : (j k : ℕ) → a.place ≡ Pair j k → take_lines a ≡ take_start a.id j ++ ((bytes "0" ++ newline ∷ []) ++ (take_start a.id k ++ (bytes "1" ++ newline ∷ [])))
  unfolding take_lines counted_of register_text flat_map bytes decimal_text decimal_digits
  take_pair j k e = rw (e, append-nil, take_line a.id j (Some 0), take_line a.id k (Some 1), append_assoc (take_start a.id j))

-- texts one after another, and one more
joined_last : {A : Type 0} (f : A → List ℕ) (l : List A) (a : A) → flat_map f (l ++ a ∷ []) ≡ flat_map f l ++ f a
unfolding flat_map
joined_last f [] a = append-nil (f a)
joined_last f (b ∷ l) a = rw (joined_last f l a, append_assoc)

module _ (code : ℕ) (es : List Entry) where
  -- the lines of one entry more
  pub takes_next : (i : ℕ) → i < length es → flat_map take_lines (planned code (take (i + 1) es))
      ≡ flat_map take_lines (planned code (take i es)) ++ take_lines (record { id = (get_or es i vacant).id; place = place_at_lem code i (get_or es i vacant).request })
  takes_next i h =
      rw (take_next es i vacant h, planned_next code i (take i es) (get_or es i vacant) (length-take-le i es (omega arith)))
      (joined_last take_lines (planned code (take i es)) _)

  -- the lines of the first n entries
  pub takes_length : (n : ℕ) → length (flat_map take_lines (planned code (take n es))) ≤ 136 * n
  takes_length n = omega (arith, joined_length take_lines 136 take_lines_length (planned code (take n es)), planned_length code (take n es), length-take n es)

-- ---- `set` lines

-- the lines of the first n writes
pub sets_length : (list : List ℕ) (n : ℕ) → length (set_lines (take (2 * n) list)) ≤ 26 * n
sets_length list n = omega (arith, set_lines_length (take (2 * n) list), length-take (2 * n) list)

-- one write more
pub sets_next : (i : ℕ) (w : List ℕ) → 2 * i + 1 < length w
    → set_lines (take (2 * (i + 1)) w) ≡ set_lines (take (2 * i) w) ++ set_lines (get_or w (2 * i) 0 ∷ get_or w (2 * i + 1) 0 ∷ [])
unfolding set_lines
sets_next zero [] h = absurd (not-suc-le-zero h)
sets_next zero (a ∷ []) h = let z : ⊥ = omega arith in absurd z
sets_next zero (a ∷ v ∷ rest) h = refl
sets_next (suc i) [] h = let z : ⊥ = omega arith in absurd z
sets_next (suc i) (a ∷ []) h = let z : ⊥ = omega arith in absurd z
sets_next (suc i) (a ∷ v ∷ rest) h =
    let e : 2 * (suc i + 1) ≡ suc (suc (2 * (i + 1))) = omega arith in
    let f : 2 * suc i ≡ suc (suc (2 * i)) = omega arith in
    let g : suc (suc (2 * i)) + 1 ≡ suc (suc (2 * i + 1)) = omega arith in
    rw (e, f, g, sets_next i rest (omega arith), append_assoc)
