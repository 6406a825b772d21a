-- What is asked of the slices that are lent to the relay.
use Rattle.std.specs.Prelude.{◌≡◌, ℕ, ◌<◌, ◌⊎◌, List, length}
use Rattle.answers.specs.ReplyLength.{reply_room}

-- the block holds no byte, or the output has no room for a reply
abbrev pub Unfit : List ℕ → List ℕ → Type 0
Unfit block out = (length block ≡ 0) ⊎ (length out < reply_room)
