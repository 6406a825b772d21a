-- Document 02, order 13: a text in pieces of any size, and its declared end, each with a lent output.
use Rattle.std.specs.Prelude.{true, false, List, [], ◌∷◌, ◌++◌, ℕ, ltb, length, drop, Option, None, Some, Ok, Err}
use Rattle.requests.specs.Choice.{Row, first_holding}
use Rattle.requests.specs.declared.Refusal.{Refusal}
use Rattle.requests.specs.declared.Refusal.TheVariants.{CallOrder, SliceTooShort}
use Rattle.names.specs.Lists.{NameLists}
use Rattle.streams.specs.Stream.{line_start, feed_start, feed_state, feed_text, end_text}
use Rattle.streams.specs.declared.PieceFeed.{PieceFeed}
use Rattle.streams.specs.declared.PieceAnswered.{PieceAnswered}

-- before the first piece
unfoldable pub new_feed : PieceFeed
new_feed = record { feed = feed_start; ended = false }

-- what refuses a piece or end that gives these answers to lines, given the output's length: "Pieces and a second end after the end are refused with
-- 2"; one "whose answers don't fit the lent output is refused with 14, after 2"
unfoldable pub feed_table : PieceFeed → List ℕ → ℕ → List (Row Refusal)
feed_table s answers room = (s.ended, CallOrder) ∷ (ltb room (length answers), SliceTooShort) ∷ []

unfoldable pub feed_refusal : PieceFeed → List ℕ → ℕ → Option Refusal
feed_refusal s answers room = first_holding (feed_table s answers room)

-- a refusal changes nothing
unfoldable pub refused_feed : PieceFeed → Refusal → PieceAnswered
refused_feed s x = record { answer = Err x; state = s; written = 0 }

-- what is answered, where an accepted call leaves the next state
unfoldable pub feed_answer : PieceFeed → List ℕ → PieceFeed → ℕ → PieceAnswered
feed_answer s answers next room =
    elim (feed_refusal s answers room) [
      | None ↦ record { answer = Ok tt; state = next; written = length answers }
      | Some x ↦ refused_feed s x
    ]

-- what the output holds afterwards: "Output past the answers stays"
unfoldable pub feed_out : PieceFeed → List ℕ → List ℕ → List ℕ
feed_out s answers out = elim (feed_refusal s answers (length out)) [ None ↦ answers ++ drop (length answers) out | Some x ↦ out ]

-- a piece, with two lists of names
unfoldable pub piece_state : NameLists → PieceFeed → List ℕ → PieceFeed
piece_state n s text = record { feed = feed_state n s.feed text; ended = false }

unfoldable pub piece_of : NameLists → PieceFeed → List ℕ → ℕ → PieceAnswered
piece_of n s text room = feed_answer s (feed_text n s.feed text) (piece_state n s text) room

unfoldable pub piece_out : NameLists → PieceFeed → List ℕ → List ℕ → List ℕ
piece_out n s text out = feed_out s (feed_text n s.feed text) out

-- the end: nothing is kept after it
unfoldable pub end_state : PieceFeed → PieceFeed
end_state s = record { feed = line_start s.feed.session; ended = true }

unfoldable pub end_of : PieceFeed → ℕ → PieceAnswered
end_of s room = feed_answer s (end_text s.feed) (end_state s) room

unfoldable pub end_out : PieceFeed → List ℕ → List ℕ
end_out s out = feed_out s (end_text s.feed) out
