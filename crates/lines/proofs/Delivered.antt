-- Answers that are made in an array of our own, and then delivered with those to the rest of the text: of a piece without a newline, of any other, and
-- of the end. Assumes nothing.
use Rattle.std.specs.Prelude.{Ok}
use mathlib.Core.Bool.{Bool, true, false}
use mathlib.Core.List.{List, [], ◌++◌, append-nil}
use mathlib.Core.Path.{◌≡◌, refl, sym, ap, ◌∙◌}
use Prim.Native.Nat.{ℕ, ◌-◌, ◌≤◌, ◌<◌}
use native.Mathlib.Nat.{zero-add}
use native.Mathlib.Omega.{arith}
use borrow.Author.Tests.{ltb-true, ltb-false, lt-ltb, le-ltb}
use lib.Dec.{ltb}
use lib.ListN.{length, take, drop, replicate, take-append-drop, length-append}
use lib.Seq.{take_at, sets-eq}
use Rattle.names.specs.Lists.{NameLists}
use Rattle.responder.specs.Texts.{Put}
use Rattle.answers.specs.ReplyLength.{reply_room}
use Rattle.responder.specs.Written.{at_start, in_array}
use Rattle.responder.specs.declared.LineReply.{LineReply}
use Rattle.streams.specs.Stream.{NewlineFree, line_start, feed_state, feed_text, end_text, end_reply}
use Rattle.streams.specs.Feeds.{feed_answer, feed_out, piece_state, piece_of, piece_out, end_state, end_of, end_out}
use Rattle.streams.specs.declared.Feed.{Feed}
use Rattle.streams.specs.declared.PieceFeed.{PieceFeed}
use Rattle.streams.specs.declared.PieceAnswered.{PieceAnswered}
use Rattle.streams.proofs.Cut.{state_append, text_append}
use Rattle.streams.proofs.Kept.{run_silent}
use Rattle.streams.proofs.FeedAnswers.{with_room}
use Rattle.lines.specs.Blocks.{taken_of, taken_from, fed_of, fed_out}
use Rattle.lines.specs.declared.Fed.{Fed}
use Rattle.lines.proofs.NextLine.{all_left}
use Rattle.lines.proofs.Progress.{progress}

-- ---- the room for two texts

module _ (first rest : List ℕ) (room : ℕ) where
  pub first_long : room < length first → ltb room (length (first ++ rest)) ≡ true
  first_long h = lt-ltb room (length (first ++ rest)) (omega (arith, h, length-append first rest))

  -- by the test whether the rest is longer than what is left of the room
  module _ {longer : Bool} (fits : length first ≤ room) (is : longer ≡ ltb (room - length first) (length rest)) where
    pub rest_long : longer ≡ true → ltb room (length (first ++ rest)) ≡ true
    rest_long h = lt-ltb room (length (first ++ rest)) (omega (arith, fits, ltb-true (room - length first) (length rest) (sym is ∙ h), length-append first rest))

    pub both_fit : longer ≡ false → length (first ++ rest) ≤ room
    both_fit h = omega (arith, fits, ltb-false (room - length first) (length rest) (sym is ∙ h), length-append first rest)

-- a text that is put at the start
pub put_at_start : {before text after : List ℕ} {n : ℕ} → Put before 0 text after n → length text ≤ length before
    → (n ≡ length text) × (after ≡ text ++ drop (length text) before)
put_at_start {before} {text} put fits =
    (omega (arith, put.place), put.contents ∙ sets-eq text before 0 (omega arith) ∙ rw (zero-add (length text)))

-- ---- a piece without a newline

pub unfinished_piece : (n : NameLists) (s : PieceFeed) (text out : List ℕ) {next : Feed} → s.ended ≡ false → NewlineFree text → next ≡ feed_state n s.feed text
    → (◌≡◌ {A = PieceAnswered} (record { answer = Ok tt; state = record { feed = next; ended = false }; written = 0 }) (piece_of n s text (length out)))
    × (out ≡ piece_out n s text out)
unfolding piece_of piece_out piece_state
unfinished_piece n s text out going free is =
    rw (run_silent n s.feed text free)
    (with_room s [] (piece_state n s text) out going (le-ltb (length out) 0 (omega arith)) refl (rw is) refl)

-- ---- another: what a block of our own takes of it, and the rest

module _ (n : NameLists) (f : Feed) (text lent : List ℕ) {fed : Fed} {output : List ℕ} (answer : fed ≡ fed_of n f text (length lent)) (is : output ≡ fed_out n f text lent) where
  pub block_held : fed.written ≤ length lent
  unfolding fed_of
  block_held = rw answer (progress.held n f text (length lent))

  pub block_taken : fed.taken ≤ length text
  unfolding fed_of
  block_taken = rw answer (progress.no_more n f text (length lent))

  block_state : fed.feed ≡ feed_state n f (take fed.taken text)
  unfolding fed_of taken_from
  block_state = rw answer

  block_text : take fed.written output ≡ feed_text n f (take fed.taken text)
  unfolding fed_of fed_out at_start taken_from
  block_text =
      let t = feed_text n f (take (taken_of n (length lent) f text) text) in
      rw (answer, is) (take_at t (drop (length t) lent) (length t) refl)

  -- all that is left of the text
  abbrev rest : List ℕ
  rest = take (length text - fed.taken) (drop fed.taken text)

  whole_text : take fed.written output ++ feed_text n fed.feed rest ≡ feed_text n f text
  whole_text =
      rw (block_text, block_state, all_left text fed.taken, ← text_append n f (take fed.taken text) (drop fed.taken text), take-append-drop fed.taken text)

  whole_state : feed_state n fed.feed rest ≡ feed_state n f text
  whole_state =
      rw (block_state, all_left text fed.taken, ← state_append n f (take fed.taken text) (drop fed.taken text), take-append-drop fed.taken text)

pub piece_delivered : (n : NameLists) (s : PieceFeed) (text lent out : List ℕ) {fed : Fed} {output after : List ℕ} {answered : PieceAnswered}
    → fed ≡ fed_of n s.feed text (length lent) → output ≡ fed_out n s.feed text lent
    → answered
    ≡ feed_answer s (take fed.written output ++ feed_text n fed.feed (take (length text - fed.taken) (drop fed.taken text)))
    (record { feed = feed_state n fed.feed (take (length text - fed.taken) (drop fed.taken text)); ended = false }) (length out)
    → after ≡ feed_out s (take fed.written output ++ feed_text n fed.feed (take (length text - fed.taken) (drop fed.taken text))) out
    → (answered ≡ piece_of n s text (length out)) × (after ≡ piece_out n s text out)
unfolding piece_of piece_out piece_state
piece_delivered n s text lent out answer is given left =
    let t = whole_text n s.feed text lent answer is in
    (given ∙ rw (t, whole_state n s.feed text lent answer is), left ∙ rw t)

-- ---- the end

module _ (s : PieceFeed) (r : LineReply) (is : r ≡ in_array (end_reply s.feed)) where
  last_text : take r.length r.text ≡ end_text s.feed
  unfolding in_array end_reply
  last_text = rw is (take_at (end_text s.feed) (replicate (reply_room - length (end_text s.feed)) 0) (length (end_text s.feed)) refl)

  last_session_lem : r.session ≡ s.feed.session
  unfolding in_array end_reply
  last_session_lem = ap (λ (x : LineReply). x.session) is

  -- the reply lies within its array
  pub last_within : r.length ≤ length r.text
  unfolding in_array end_reply
  last_within = rw (is, length-append) (omega arith)

  pub end_delivered : (n : NameLists) (out : List ℕ) {answered : PieceAnswered} {next : Feed} {after : List ℕ} → next ≡ line_start r.session
      → answered ≡ feed_answer s (take r.length r.text ++ feed_text n next []) (record { feed = feed_state n next []; ended = true }) (length out)
      → after ≡ feed_out s (take r.length r.text ++ feed_text n next []) out
      → (answered ≡ end_of s (length out)) × (after ≡ end_out s out)
  unfolding end_of end_out end_state feed_text feed_state
  end_delivered n out begins answer text =
      (answer ∙ rw (last_text, append-nil (end_text s.feed), begins, last_session_lem), text ∙ rw (last_text, append-nil (end_text s.feed)))
