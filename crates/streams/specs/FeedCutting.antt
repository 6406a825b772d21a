-- Document 02, order 13: "However the text is cut, where each call gets the state that the last one left and the same two lists, the output and the
-- final session are those of the whole text given at once"; "the cutting rule speaks of accepted pieces".
use Rattle.std.specs.Prelude.{false, List, [], ◌∷◌, ◌++◌, ◌≡◌, ℕ, ◌≤◌, length, take, drop, Ok, Err}
use Rattle.names.specs.Lists.{NameLists}
use Rattle.streams.specs.Stream.{feed_start, feed_state, transcript}
use Rattle.streams.specs.Feeds.{new_feed, piece_of, piece_out, end_of, end_out}
use Rattle.streams.specs.declared.PieceFeed.{PieceFeed}
use Rattle.streams.specs.declared.PieceAnswered.{PieceAnswered}

-- a piece, and the output that is lent for it
pub record Lent : Type 0 where
  pub text : List ℕ
  pub out : List ℕ

-- what the call answers
unfoldable pub answered : NameLists → PieceFeed → Lent → PieceAnswered
answered n s l = piece_of n s l.text (length l.out)

-- the answers to lines that it leaves in the output
unfoldable pub written : NameLists → PieceFeed → Lent → List ℕ
written n s l = take (answered n s l).written (piece_out n s l.text l.out)

-- the text that it takes: a refused piece takes none
unfoldable pub taken_text : NameLists → PieceFeed → Lent → List ℕ
taken_text n s l = elim (answered n s l).answer [ (Ok tt) ↦ l.text | Err x ↦ [] ]

-- pieces, each given the state that the last one left and the same two lists: the state that they leave, ..
unfoldable pub state_after : NameLists → PieceFeed → List Lent → PieceFeed
state_after n s [] = s
state_after n s (l ∷ rest) = state_after n (answered n s l).state rest

-- .. their outputs joined, ..
unfoldable pub output_of : NameLists → PieceFeed → List Lent → List ℕ
output_of n s [] = []
output_of n s (l ∷ rest) = written n s l ++ output_of n (answered n s l).state rest

-- .. and the texts of the accepted ones joined
unfoldable pub text_of : NameLists → PieceFeed → List Lent → List ℕ
text_of n s [] = []
text_of n s (l ∷ rest) = taken_text n s l ++ text_of n (answered n s l).state rest

pub record FeedCutting : Type 0 where
  -- one piece of the joined text leaves the same state and output, wherever that output fits
  pub at_once : (n : NameLists) (s : PieceFeed) (ls : List Lent) (out : List ℕ) → s.ended ≡ false → length (output_of n s ls) ≤ length out
      → (piece_of n s (text_of n s ls) (length out) ≡ record { answer = Ok tt; state = state_after n s ls; written = length (output_of n s ls) })
      × (piece_out n s (text_of n s ls) out ≡ output_of n s ls ++ drop (length (output_of n s ls)) out)
  -- so equal texts give equal states and outputs, however they are cut and whatever is lent for the pieces
  pub same : (n : NameLists) (s : PieceFeed) (ls ms : List Lent) → s.ended ≡ false → text_of n s ls ≡ text_of n s ms
      → (state_after n s ls ≡ state_after n s ms) × (output_of n s ls ≡ output_of n s ms)
  -- with the end after them, the output is the whole transcript of the text ..
  pub output : (n : NameLists) (ls : List Lent) (out : List ℕ) → (end_of (state_after n new_feed ls) (length out)).answer ≡ Ok tt
      → output_of n new_feed ls ++ take (end_of (state_after n new_feed ls) (length out)).written (end_out (state_after n new_feed ls) out)
      ≡ transcript n (text_of n new_feed ls)
  -- .. and the session is that after the text
  pub session : (n : NameLists) (ls : List Lent) (room : ℕ) → (end_of (state_after n new_feed ls) room).state.feed.session ≡ (feed_state n feed_start (text_of n new_feed ls)).session
