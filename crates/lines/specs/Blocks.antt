-- A block of input and a lent output: bytes are taken while there is room for any reply.
use Rattle.std.specs.Prelude.{true, false, List, [], ◌∷◌, ℕ, suc, ◌-◌, ltb, length, take}
use Rattle.names.specs.Lists.{NameLists}
use Rattle.answers.specs.ReplyLength.{reply_room}
use Rattle.responder.specs.Written.{at_start}
use Rattle.streams.specs.Stream.{byte_state, byte_text, feed_state, feed_text}
use Rattle.streams.specs.declared.Feed.{Feed}
use Rattle.lines.specs.declared.Fed.{Fed}

-- the number of bytes taken, given the room in the output
unfoldable pub taken_of : NameLists → ℕ → Feed → List ℕ → ℕ
taken_of n room f [] = 0
taken_of n room f (b ∷ bs) = elim (ltb room reply_room) [ true ↦ 0 | false ↦ suc (taken_of n (room - length (byte_text n f b)) (byte_state n f b) bs) ]

-- the bytes taken
unfoldable pub taken_from : NameLists → Feed → List ℕ → ℕ → List ℕ
taken_from n f block room = take (taken_of n room f block) block

-- the state after them, and the numbers
unfoldable pub fed_of : NameLists → Feed → List ℕ → ℕ → Fed
fed_of n f block room =
    record {
      feed = feed_state n f (taken_from n f block room);
      taken = taken_of n room f block;
      written = length (feed_text n f (taken_from n f block room));
    }

-- what the output holds afterwards
unfoldable pub fed_out : NameLists → Feed → List ℕ → List ℕ → List ℕ
fed_out n f block out = at_start (feed_text n f (taken_from n f block (length out))) out
