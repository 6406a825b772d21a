-- How many bytes of a block are taken: all of a run without a newline where there is room for a reply, then the newline, then of the rest.
use mathlib.Core.List.{List, [], ◌∷◌, ◌++◌}
use mathlib.Core.Path.{◌≡◌, refl, sym, ◌∙◌}
use Prim.Native.Nat.{ℕ, suc, ◌+◌, ◌-◌, ◌≤◌, ◌<◌}
use native.Mathlib.Nat.{zero-add, sub-zero}
use native.Mathlib.Omega.{arith}
use borrow.Author.Tests.{lt-ltb, le-ltb}
use lib.ListN.{length}
use Rattle.grammar.specs.Text.{newline}
use Rattle.answers.specs.ReplyLength.{reply_room}
use Rattle.names.specs.Lists.{NameLists}
use Rattle.lines.specs.Blocks.{taken_of}
use Rattle.streams.specs.Stream.{NewlineFree, line_start, line_reply_lem, byte_state, byte_text, feed_state}
use Rattle.streams.specs.declared.Feed.{Feed}
use Rattle.streams.proofs.Kept.{head_free, tail_free, no_text}
use Rattle.lines.proofs.Progress.{taken_none, taken_one}

module _ (n : NameLists) where
  -- a run without a newline
  pub taken_run : (room : ℕ) (f : Feed) (bs rest : List ℕ) → reply_room ≤ room → NewlineFree bs
      → taken_of n room f (bs ++ rest) ≡ length bs + taken_of n room (feed_state n f bs) rest
  unfolding feed_state
  taken_run room f [] rest h free = sym (zero-add (taken_of n room f rest))
  taken_run room f (b ∷ bs) rest h free =
      taken_one n room f b (bs ++ rest) (le-ltb room reply_room h)
      ∙ rw (no_text n f b (head_free b bs free), sub-zero, taken_run room (byte_state n f b) bs rest h (tail_free b bs free)) (omega arith)

  -- a newline
  pub taken_newline : (room : ℕ) (f : Feed) (rest : List ℕ) → reply_room ≤ room
      → taken_of n room f (newline ∷ rest) ≡ suc (taken_of n (room - length (line_reply_lem n f).text) (line_start (line_reply_lem n f).session) rest)
  unfolding newline byte_text byte_state
  taken_newline room f rest h = taken_one n room f newline rest (le-ltb room reply_room h)

  -- nothing without room
  pub taken_full : (room : ℕ) (f : Feed) (bs : List ℕ) → room < reply_room → taken_of n room f bs ≡ 0
  unfolding taken_of
  taken_full room f [] h = refl
  taken_full room f (b ∷ bs) h = taken_none n room f b bs (lt-ltb room reply_room h)
