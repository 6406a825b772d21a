-- An output with room for one reply takes at least one byte of a block, and never more than the block has or the output holds.
use Rattle.std.specs.Prelude.{List, ◌∷◌, ℕ, ◌<◌, ◌≤◌, length}
use Rattle.names.specs.Lists.{NameLists}
use Rattle.answers.specs.ReplyLength.{reply_room}
use Rattle.streams.specs.Stream.{feed_text}
use Rattle.lines.specs.Blocks.{taken_of, taken_from}
use Rattle.streams.specs.declared.Feed.{Feed}

pub record Progress : Type 0 where
  pub some : (n : NameLists) (f : Feed) (b : ℕ) (bs : List ℕ) (room : ℕ) → reply_room ≤ room → 0 < taken_of n room f (b ∷ bs)
  pub no_more : (n : NameLists) (f : Feed) (block : List ℕ) (room : ℕ) → taken_of n room f block ≤ length block
  pub held : (n : NameLists) (f : Feed) (block : List ℕ) (room : ℕ) → length (feed_text n f (taken_from n f block room)) ≤ room
