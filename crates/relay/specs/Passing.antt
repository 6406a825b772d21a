-- What is known of a block whose replies are written as they come.
use Rattle.std.specs.Prelude.{◌≡◌, ℕ, ◌%◌, ◌^◌, List, length, take}
use Rattle.names.specs.Lists.{NameLists}
use Rattle.streams.specs.Stream.{feed_state, feed_text}
use Rattle.streams.specs.declared.Feed.{Feed}
use Rattle.descriptors.specs.declared.Next.TheVariants.{Complete}
use Rattle.relay.specs.declared.Passed.{Passed}

pub record Passing (n : NameLists) (f : Feed) (block : List ℕ) (r : Passed) : Type 0 where
  -- the state is that after the bytes answered
  pub state : r.feed ≡ feed_state n f (take r.taken block)
  -- where the writing is complete, these are all
  pub all : r.next ≡ Complete → r.taken ≡ length block
  -- and as many bytes are reported written as their replies have (counted in 64 bits)
  pub replies : r.next ≡ Complete → r.sent ≡ length (feed_text n f block) % 2 ^ 64
