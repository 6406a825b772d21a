-- Document 02, order 13: what a piece and the end are refused with and when, what they write, and what they leave.
use Rattle.std.specs.Prelude.{true, false, List, ◌++◌, ◌≢◌, ◌≡◌, ℕ, ◌≤◌, ◌<◌, length, drop, Some, Ok}
use Rattle.requests.specs.Refusals.{answer_number}
use Rattle.requests.specs.Faults.{answer_field, no_fields}
use Rattle.names.specs.Lists.{NameLists}
use Rattle.streams.specs.Stream.{feed_text, end_text}
use Rattle.streams.specs.Feeds.{new_feed, piece_of, piece_out, end_of, end_out}
use Rattle.streams.specs.declared.PieceFeed.{PieceFeed}
use Rattle.streams.specs.declared.PieceAnswered.{PieceAnswered}

-- a call that gives these answers to lines, with its output before and after
pub record Ruled (s : PieceFeed) (answers before : List ℕ) (r : PieceAnswered) (after : List ℕ) : Type 0 where
  -- "Pieces and a second end after the end are refused with 2."
  pub ended : s.ended ≡ true → answer_number r.answer ≡ Some 2
  -- "A piece or end whose answers don't fit the lent output is refused with 14, after 2"
  pub short : s.ended ≡ false → length before < length answers → answer_number r.answer ≡ Some 14
  -- no other is refused
  pub accepted : s.ended ≡ false → length answers ≤ length before → r.answer ≡ Ok tt
  -- the field of both is 0
  pub field : answer_field r.answer no_fields ≡ 0
  -- "and changes nothing"
  pub unchanged : r.answer ≢ (Ok tt) → (r.state ≡ s) × (r.written ≡ 0) × (after ≡ before)
  -- "Output past the answers stays."
  pub output : r.answer ≡ (Ok tt) → (r.written ≡ length answers) × (after ≡ answers ++ drop (length answers) before)

pub record FeedRules : Type 0 where
  pub piece : (n : NameLists) (s : PieceFeed) (text out : List ℕ) → Ruled s (feed_text n s.feed text) out (piece_of n s text (length out)) (piece_out n s text out)
  pub end : (s : PieceFeed) (out : List ℕ) → Ruled s (end_text s.feed) out (end_of s (length out)) (end_out s out)
  -- the end is declared by an accepted end, and by nothing else
  pub open_first : new_feed.ended ≡ false
  pub still_open : (n : NameLists) (s : PieceFeed) (text : List ℕ) (room : ℕ) → (piece_of n s text room).state.ended ≡ s.ended
  pub declared : (s : PieceFeed) (room : ℕ) → (end_of s room).answer ≡ (Ok tt) → (end_of s room).state.ended ≡ true
