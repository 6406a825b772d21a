-- A run is that of one text, in whatever blocks it came. What the C library read into the block is not known, so there is a text, and
-- the contract does not say which: that it has as many bytes as the reads reported is all that can be said of it.
use Rattle.std.specs.Prelude.{◌≡◌, ℕ, ◌%◌, ◌^◌, List, length}
use Rattle.names.specs.Lists.{NameLists}
use Rattle.streams.specs.Stream.{feed_start, feed_state, feed_text, transcript}
use Rattle.descriptors.specs.declared.Reading.TheVariants.{End}
use Rattle.descriptors.specs.declared.Next.TheVariants.{Complete}
use Rattle.relay.specs.declared.Run.{Run}
use Rattle.relay.specs.declared.Answered.{Answered}

-- a run over blocks, before the end of the input is answered
pub record Relaying (n : NameLists) (r : Run) : Type 0 where
  -- the bytes answered, those of each block after those of the blocks before
  pub input : List ℕ
  -- the state is that after them
  pub state : r.feed ≡ feed_state n feed_start input
  -- where the writing is complete, they are as many as reads reported (counted in 64 bits)
  pub received : r.next ≡ Complete → r.received ≡ length input % 2 ^ 64
  -- and as many bytes are reported written as their replies have
  pub replies : r.next ≡ Complete → r.sent ≡ length (feed_text n feed_start input) % 2 ^ 64

-- a run to its end
pub record Relayed (n : NameLists) (r : Run) : Type 0 where
  -- the bytes answered
  pub input : List ℕ
  -- the state is that after them
  pub state : r.feed ≡ feed_state n feed_start input
  -- where the run is complete, the last read met the end of the input
  pub ended : r.next ≡ Complete → r.last ≡ End
  -- the bytes are as many as reads reported (counted in 64 bits)
  pub received : r.next ≡ Complete → r.received ≡ length input % 2 ^ 64
  -- and as many bytes are reported written as the whole output of this input has
  pub replies : r.next ≡ Complete → r.sent ≡ length (transcript n input) % 2 ^ 64

-- what a caller is told of an input that was answered to its end
pub record Transcribed (n : NameLists) (r : Answered) : Type 0 where
  -- the input
  pub input : List ℕ
  -- its bytes are as many as reads reported (counted in 64 bits)
  pub received : r.received ≡ length input % 2 ^ 64
  -- and as many are reported written as its whole output has
  pub replies : r.sent ≡ length (transcript n input) % 2 ^ 64
