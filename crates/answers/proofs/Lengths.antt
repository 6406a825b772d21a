-- How long the texts of numbers and of lines are, by their definitions. Assumes nothing.
--     decimal-length                  numbers
--     take-lines-length, set-lines-length, answer-length    the lines of a reply
--     joined-length                   texts one after another
use Rattle.std.specs.Prelude.{Option, None, Some, Ok, Err}
use mathlib.Core.Bool.{Bool, true, false}
use mathlib.Core.List.{List, [], ◌∷◌, flat_map}
use Prim.Native.Nat.{ℕ, zero, suc, ◌*◌, ◌/◌, ◌+◌, ◌≤◌}
use native.Mathlib.Omega.{arith}
use lib.Dec.{ltb}
use lib.ListN.{length, length-append}
use Rattle.requests.specs.Answers.{Answer}
use Rattle.requests.specs.Choice.{pick}
use Rattle.requests.specs.Refusals.{number_of}
use Rattle.plans.specs.declared.Place.{Place}
use Rattle.plans.specs.declared.Place.TheVariants.{Counter, WithRsp, Pair}
use Rattle.plans.specs.Places.{Counted, counted_of}
use Rattle.sessions.specs.declared.Assigned.{Assigned}
use Rattle.grammar.specs.Text.{bytes, decimal_digits, decimal_text, line_of}
use Rattle.grammar.proofs.Hexes.{hex_length}
use Rattle.answers.specs.Replies.{answer_text, register_text, take_lines, set_lines}

-- ---- numbers

digits_length : (f n : ℕ) → length (decimal_digits f n) ≤ f
unfolding decimal_digits
digits_length zero n = omega arith
digits_length (suc f) n = simp length-append (go (ltb n 10) (digits_length f (n / 10)))
  where
    go : (b : Bool) → length (decimal_digits f (n / 10)) ≤ f → length (pick b [] (decimal_digits f (n / 10))) + 1 ≤ suc f
    go true l = omega arith
    go false l = omega arith

pub decimal_length : (n : ℕ) → length (decimal_text n) ≤ 20
unfolding decimal_text
decimal_length n = digits_length 20 n

-- ---- lines

register_length : (r : Option ℕ) → length (register_text r) ≤ 20
unfolding register_text bytes
register_length None = omega arith
register_length (Some i) = decimal_length i

-- a `take` line
take_length : (id : ℕ) (c : Counted) → length (line_of (bytes "take" ∷ decimal_text id ∷ decimal_text c.0 ∷ register_text c.1 ∷ [])) ≤ 68
unfolding line_of bytes
take_length id c = simp length-append (omega (arith, decimal_length id, decimal_length c.0, register_length c.1))

-- texts one after another, each of at most n bytes
pub joined_length : {A : Type 0} (f : A → List ℕ) (n : ℕ) → ((a : A) → length (f a) ≤ n) → (l : List A) → length (flat_map f l) ≤ n * length l
unfolding flat_map
joined_length f n h [] = omega arith
joined_length f n h (a ∷ l) = simp length-append (omega (arith, h a, joined_length f n h l))

counted_length : (p : Place) → length (counted_of p) ≤ 2
unfolding counted_of
counted_length (Counter k) = omega arith
counted_length (WithRsp k i) = omega arith
counted_length (Pair j k) = omega arith

pub take_lines_length : (a : Assigned) → length (take_lines a) ≤ 136
unfolding take_lines
take_lines_length a =
    omega (arith, joined_length (λ (c : Counted). line_of (bytes "take" ∷ decimal_text a.id ∷ decimal_text c.0 ∷ register_text c.1 ∷ [])) 68 (take_length a.id) (counted_of a.place), counted_length a.place)

-- a `set` line has 26 bytes, for two numbers
pub set_lines_length : (xs : List ℕ) → length (set_lines xs) ≤ 13 * length xs
unfolding set_lines line_of bytes
set_lines_length [] = omega arith
set_lines_length (a ∷ []) = omega arith
set_lines_length (a ∷ v ∷ rest) = simp (length-append, hex_length) (omega (arith, set_lines_length rest))

pub answer_length : (a : Answer) (k : ℕ) → length (answer_text a k) ≤ 45
unfolding answer_text line_of bytes
answer_length (Ok tt) k = omega arith
answer_length (Err x) k = simp length-append (omega (arith, decimal_length (number_of x), decimal_length k))
