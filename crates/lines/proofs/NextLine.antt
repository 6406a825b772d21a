-- The rest of a block from a place on, by the place of its first newline: the piece before it, the newline, and what follows.
use mathlib.Core.List.{List, [], ◌∷◌, ◌++◌}
use mathlib.Core.Path.{◌≡◌, sym}
use Prim.Native.Nat.{ℕ, suc, ◌+◌, ◌-◌, ◌<◌}
use native.Mathlib.Omega.{arith}
use lib.ListN.{length, take, drop, take-append-drop, length-drop}
use lib.Seq.{take_all, take-add, take-suc, drop-cons, drop-drop, length-take-le}
use Rattle.grammar.specs.Text.{newline}
use Rattle.streams.specs.Stream.{NewlineFree}
use Rattle.lines.specs.Pieces.{NewlineAt}

-- all that is left
pub all_left : (l : List ℕ) (from : ℕ) → take (length l - from) (drop from l) ≡ drop from l
all_left l from = take_all (length l - from) (drop from l) (omega (arith, length-drop from l))

-- the n bytes from a place on, as the code cuts them out
abbrev pub piece : List ℕ → ℕ → ℕ → List ℕ
piece block from n = take (from + n - from) (drop from block)

module _ (block : List ℕ) (from : ℕ) {n : ℕ} (first : NewlineAt (take (length block - from) (drop from block)) n) where
  left : NewlineAt (drop from block) n
  left = rw (all_left block from) at first

  pub left_within : n < length block - from
  left_within = omega (arith, left.within, length-drop from block)

  -- the piece before it
  piece_is : piece block from n ≡ take n (drop from block)
  piece_is = let e : from + n - from ≡ n = omega arith in rw e

  pub piece_free : NewlineFree (piece block from n)
  piece_free = rw piece_is left.before

  pub piece_length : length (piece block from n) ≡ n
  piece_length = rw piece_is (length-take-le n (drop from block) (omega (arith, left.within)))

  -- the newline after it
  pub with_newline : take (from + n + 1) block ≡ take from block ++ (piece block from n ++ newline ∷ [])
  with_newline =
      let e : from + n + 1 ≡ from + suc n = omega arith in
      rw (e, piece_is, take-add from (suc n) block, take-suc (drop from block) n 0 left.within, left.found)

  pub from_newline : drop from block ≡ piece block from n ++ newline ∷ drop (from + n + 1) block
  from_newline =
      let e : from + n + 1 ≡ from + suc n = omega arith in
      rw (e, piece_is, ← left.found, ← drop-drop (suc n) from block, ← drop-cons (drop from block) n 0 left.within)
      (sym (take-append-drop n (drop from block)))
