-- What a caller reads: the first bytes, as many as are told, are the answers, and what a lent output holds behind them stays.
use Rattle.std.specs.Prelude.{◌≡◌, List, ℕ, length, take, drop}
use Rattle.names.specs.Lists.{NameLists}
use Rattle.answers.specs.Replies.{Reply}
use Rattle.responder.specs.Written.{in_array}
use Rattle.streams.specs.Stream.{feed_state, feed_text}
use Rattle.streams.specs.declared.Feed.{Feed}
use Rattle.lines.specs.Blocks.{fed_of, fed_out}

pub record OutputRead : Type 0 where
  -- the reply to a line, or to the end of the input, in an array of its own
  pub text : (x : Reply) → take (in_array x).length (in_array x).text ≡ x.text
  pub session : (x : Reply) → (in_array x).session ≡ x.session
  -- a block: the state is that after the bytes taken, and the output has what they give
  pub state : (n : NameLists) (f : Feed) (block : List ℕ) (room : ℕ) → (fed_of n f block room).feed ≡ feed_state n f (take (fed_of n f block room).taken block)
  pub output : (n : NameLists) (f : Feed) (block out : List ℕ)
      → take (fed_of n f block (length out)).written (fed_out n f block out) ≡ feed_text n f (take (fed_of n f block (length out)).taken block)
  pub past : (n : NameLists) (f : Feed) (block out : List ℕ)
      → drop (fed_of n f block (length out)).written (fed_out n f block out) ≡ drop (fed_of n f block (length out)).written out
