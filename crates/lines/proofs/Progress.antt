-- A block and a lent output: with room for one reply a byte is taken, and what is written fits, by the law on the length of a reply.
use mathlib.Core.Path.{◌≡◌, refl}
use mathlib.Core.Bool.{Bool, true, false}
use mathlib.Core.List.{List, [], ◌∷◌}
use Prim.Native.Nat.{ℕ, suc, ◌-◌, ◌≤◌, ◌<◌}
use native.Mathlib.Omega.{arith}
use lib.Dec.{ltb, eqb}
use lib.ListN.{length, take, length-append}
use borrow.Author.Tests.{ltb-false, le-ltb}
use Rattle.parser.specs.ParseWith.{parse_text_with}
use Rattle.answers.specs.ReplyLength.{reply_room}
use Rattle.answers.proofs.ReplyLength.{reply_length}
use Rattle.grammar.specs.Text.{newline}
use Rattle.names.specs.Lists.{NameLists}
use Rattle.streams.specs.Stream.{line_reply_lem, byte_state, byte_text, feed_text}
use Rattle.lines.specs.Blocks.{taken_of, taken_from}
use Rattle.lines.specs.Progress.{Progress}
use Rattle.streams.specs.declared.Feed.{Feed}

module _ (n : NameLists) where
  pub line_reply_length : (f : Feed) → length (line_reply_lem n f).text ≤ reply_room
  unfolding line_reply_lem
  line_reply_length f = reply_length f.session (parse_text_with n f.session.setup.device (take f.used f.kept) true f.long)

  -- the text that a byte gives
  pub byte_text_length : (f : Feed) (b : ℕ) → length (byte_text n f b) ≤ reply_room
  unfolding byte_text
  byte_text_length f b = go (eqb b newline)
    where
      go : (t : Bool) → length {A = ℕ} (elim t [ true ↦ (line_reply_lem n f).text | false ↦ [] ]) ≤ reply_room
      go true = line_reply_length f
      go false = omega arith

  module _ (room : ℕ) (f : Feed) (b : ℕ) (bs : List ℕ) where
    -- the number taken of the rest
    abbrev pub further : ℕ
    further = taken_of n (room - length (byte_text n f b)) (byte_state n f b) bs

    pub taken_none : ltb room reply_room ≡ true → taken_of n room f (b ∷ bs) ≡ 0
    unfolding taken_of
    taken_none h = rw (h, taken_of)

    pub taken_one : ltb room reply_room ≡ false → taken_of n room f (b ∷ bs) ≡ suc further
    unfolding taken_of
    taken_one h = rw (h, taken_of)

  some : (f : Feed) (b : ℕ) (bs : List ℕ) (room : ℕ) → reply_room ≤ room → 0 < taken_of n room f (b ∷ bs)
  some f b bs room h = rw (taken_one room f b bs (le-ltb room reply_room h)) (omega arith)

  no_more : (room : ℕ) (f : Feed) (block : List ℕ) → taken_of n room f block ≤ length block
  unfolding taken_of
  no_more room f [] = omega arith
  no_more room f (b ∷ bs) = go (ltb room reply_room) refl (no_more (room - length (byte_text n f b)) (byte_state n f b) bs)
    where
      go : (t : Bool) → ltb room reply_room ≡ t → further room f b bs ≤ length bs → taken_of n room f (b ∷ bs) ≤ suc (length bs)
      go true h below = rw (taken_none room f b bs h) (omega arith)
      go false h below = rw (taken_one room f b bs h) (omega arith)

  held : (room : ℕ) (f : Feed) (block : List ℕ) → length (feed_text n f (take (taken_of n room f block) block)) ≤ room
  unfolding taken_of feed_text
  held room f [] = omega arith
  held room f (b ∷ bs) = go (ltb room reply_room) refl (held (room - length (byte_text n f b)) (byte_state n f b) bs)
    where
      go : (t : Bool) → ltb room reply_room ≡ t
          → length (feed_text n (byte_state n f b) (take (further room f b bs) bs)) ≤ room - length (byte_text n f b)
          → length (feed_text n f (take (taken_of n room f (b ∷ bs)) (b ∷ bs))) ≤ room
      go true h below = rw (taken_none room f b bs h) (omega arith)
      go false h below =
          rw (taken_one room f b bs h, length-append (byte_text n f b) (feed_text n (byte_state n f b) (take (further room f b bs) bs)))
          (omega (arith, byte_text_length f b, ltb-false room reply_room h))

pub progress : Progress
unfolding taken_from
progress = record { some = some; no_more = λ n f block room. no_more n room f block; held = λ n f block room. held n room f block }
