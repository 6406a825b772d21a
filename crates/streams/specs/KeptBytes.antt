-- Document 02, order 13: "keeping of it at most 80 bytes of the unfinished line".
use Rattle.std.specs.Prelude.{true, false, ◌≡◌, ℕ, ◌-◌, ◌≤◌, ◌<◌, length, take, replicate, Ok}
use mathlib.Core.List.{List, [], ◌++◌, flat_map}
use Rattle.plans.specs.Lists.{All}
use Rattle.names.specs.Lists.{NameLists}
use Rattle.streams.specs.Stream.{NewlineFree, feed_start, feed_state}
use Rattle.streams.specs.Transcript.{closed}
use Rattle.streams.specs.Feeds.{new_feed, piece_of, end_of}
use Rattle.streams.specs.FeedCutting.{Lent, state_after, text_of}
use Rattle.streams.specs.declared.Feed.{Feed}
use Rattle.streams.specs.declared.PieceFeed.{PieceFeed}

-- at most 80 bytes, in an array of 80
abbrev pub Keeps80 : Feed → Type 0
Keeps80 f = (length f.kept ≡ 80) × (f.used ≤ 80)

-- the state holds an unfinished line: its first 80 bytes with zeros behind them, how many they are, and whether it has more
pub record Holds (line : List ℕ) (f : Feed) : Type 0 where
  pub bytes : f.kept ≡ take 80 line ++ replicate (80 - length line) 0
  pub number : f.used ≡ length (take 80 line)
  pub more : 80 < length line → f.long ≡ true
  pub all : length line ≤ 80 → f.long ≡ false

pub record KeptBytes : Type 0 where
  -- before the first piece, and after every piece and end
  pub new_feed_lem : Keeps80 new_feed.feed
  pub piece : (n : NameLists) (s : PieceFeed) (text : List ℕ) (room : ℕ) → Keeps80 s.feed → Keeps80 (piece_of n s text room).state.feed
  pub end : (s : PieceFeed) (room : ℕ) → Keeps80 s.feed → Keeps80 (end_of s room).state.feed
  -- after the end nothing is
  pub after_end : (s : PieceFeed) (room : ℕ) → (end_of s room).answer ≡ (Ok tt) → Holds [] (end_of s room).state.feed
  -- after lines and the beginning of another, what is held is that beginning
  pub holds : (n : NameLists) (texts : List (List ℕ)) (rest : List ℕ) → All NewlineFree texts → NewlineFree rest
      → Holds rest (feed_state n feed_start (flat_map closed texts ++ rest))
  -- so after accepted pieces, however the text is cut
  pub pieces : (n : NameLists) (ls : List Lent) (texts : List (List ℕ)) (rest : List ℕ) → All NewlineFree texts → NewlineFree rest
      → text_of n new_feed ls ≡ flat_map closed texts ++ rest → Holds rest (state_after n new_feed ls).feed
