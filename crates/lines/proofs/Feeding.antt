-- The loop over a block: what has been taken so far, and what a line, the rest of a block and the end add to it.
use mathlib.Core.List.{List, [], ◌∷◌, ◌++◌, append_assoc, append-nil}
use mathlib.Core.Path.{◌≡◌, refl, sym, ap, ◌∙◌}
use Prim.Native.Nat.{ℕ, suc, ◌+◌, ◌-◌, ◌≤◌, ◌<◌}
use native.Mathlib.Nat.{zero-add, add-zero, sub-zero, sub-add-eq}
use native.Mathlib.Omega.{arith}
use borrow.Author.Tests.{le-ltb}
use lib.ListN.{length, take, drop, drop_of_length-le, take-append-drop, length-append, length-drop}
use lib.Seq.{take-length, drop-length, drop-drop, take_at, drop_at}
use Rattle.grammar.specs.Text.{newline}
use Rattle.sessions.specs.declared.Session.{Session}
use Rattle.grammar.specs.Parsed.{Parsed}
use Rattle.answers.specs.Replies.{parsed_reply}
use Rattle.answers.specs.ReplyLength.{reply_room}
use Rattle.responder.specs.Written.{at_start, Left, replied_in, replied_out}
use Rattle.names.specs.Lists.{NameLists}
use Rattle.lines.specs.Blocks.{taken_of, taken_from, fed_of, fed_out}
use Rattle.lines.specs.Pieces.{NewlineAt, kept_line}
use Rattle.streams.specs.Stream.{NewlineFree, line_start, line_reply_lem, feed_state, feed_text}
use Rattle.streams.specs.declared.Feed.{Feed}
use Rattle.lines.specs.declared.Fed.{Fed}
use Rattle.streams.proofs.Cut.{state_append, text_append}
use Rattle.streams.proofs.Kept.{run_silent}
use Rattle.streams.proofs.LineByLine.{newline_state, newline_text}
use Rattle.lines.proofs.NextLine.{all_left, left_within, piece, piece_free, piece_length, with_newline, from_newline}
use Rattle.lines.proofs.Progress.{line_reply_length}
use Rattle.lines.proofs.Runs.{ended_reply}
use Rattle.lines.proofs.Taking.{taken_run, taken_newline, taken_full}

-- what has been taken and written when so many bytes of a block are taken, and how many will be
pub record FedSoFar (n : NameLists) (f : Feed) (block out : List ℕ) (next : Feed) (taken written : ℕ) (output : List ℕ) : Type 0 where
  pub within : taken ≤ length block
  pub room : written ≤ length out
  pub state : next ≡ feed_state n f (take taken block)
  pub count : written ≡ length (feed_text n f (take taken block))
  pub text : output ≡ at_start (feed_text n f (take taken block)) out
  pub rest : taken + taken_of n (length out - written) next (drop taken block) ≡ taken_of n (length out) f block

-- at the beginning of the block
pub fed_none : (n : NameLists) (f : Feed) (block out : List ℕ) → FedSoFar n f block out f 0 0 out
unfolding feed_state feed_text at_start
fed_none n f block out =
    record {
      within = omega arith;
      room = omega arith;
      state = refl;
      count = refl;
      text = refl;
      rest = zero-add (taken_of n (length out - 0) f block) ∙ rw sub-zero;
    }

-- a text behind another
start_more : (a b out : List ℕ) → take (length a) (at_start a out) ++ at_start b (drop (length a) (at_start a out)) ≡ at_start (a ++ b) out
unfolding at_start
start_more a b out =
    rw (
      take_at a (drop (length a) out) (length a) refl,
      drop_at a (drop (length a) out) (length a) refl,
      drop-drop (length b) (length a) out,
      length-append a b,
      append_assoc a b (drop (length a + length b) out),
    )

-- a reply where there is room for it
replied_in_lem : (s : Session) (p : Parsed) (room : ℕ) → reply_room ≤ room
    → replied_in s p room ≡ record { session = (parsed_reply s p).session; written = length (parsed_reply s p).text }
unfolding replied_in
replied_in_lem s p room h = rw (le-ltb room reply_room h, replied_in)

replied_out_lem : (s : Session) (p : Parsed) (out : List ℕ) → reply_room ≤ length out → replied_out s p out ≡ at_start (parsed_reply s p).text out
unfolding replied_out
replied_out_lem s p out h = rw (le-ltb (length out) reply_room h, replied_out)

-- what is added to it
module _ {n : NameLists} {f : Feed} {block out : List ℕ} {next : Feed} {taken written : ℕ} {output : List ℕ} (so : FedSoFar n f block out next taken written output) where
  -- the output keeps its length
  pub fed_length : length output ≡ length out
  unfolding at_start
  fed_length = ap length so.text ∙ simp (length-append, length-drop) (omega (arith, so.count, so.room))

  -- where no more is taken
  fed_all : taken ≡ taken_of n (length out) f block
      → (◌≡◌ {A = Fed} (record { feed = next; taken = taken; written = written }) (fed_of n f block (length out))) × (output ≡ fed_out n f block out)
  unfolding fed_of fed_out taken_from
  fed_all e = (rw (so.state, so.count, ← e), rw (← e) so.text)

  -- a line that ends within the block
  module _ {m : ℕ} (first : NewlineAt (take (length block - taken) (drop taken block)) m) (h : reply_room ≤ length out - written) where
    -- the state at the newline, and the reply to the line
    abbrev pub ended : Feed
    ended = feed_state n next (piece block taken m)

    line_state : line_start (line_reply_lem n ended).session ≡ feed_state n f (take (taken + m + 1) block)
    line_state =
        sym
        (rw (
          with_newline block taken first,
          state_append n f (take taken block) (piece block taken m ++ newline ∷ []),
          ← so.state,
          state_append n next (piece block taken m) (newline ∷ []),
        )
        (newline_state n ended))

    line_text : feed_text n f (take (taken + m + 1) block) ≡ feed_text n f (take taken block) ++ (line_reply_lem n ended).text
    line_text =
        rw (
          with_newline block taken first,
          text_append n f (take taken block) (piece block taken m ++ newline ∷ []),
          ← so.state,
          text_append n next (piece block taken m) (newline ∷ []),
          run_silent n next (piece block taken m) (piece_free block taken first),
          newline_text n ended,
        )

    line_taken : taken_of n (length out - written) next (drop taken block)
        ≡ m + suc (taken_of n (length out - (written + length (line_reply_lem n ended).text)) (line_start (line_reply_lem n ended).session) (drop (taken + m + 1) block))
    line_taken =
        ap (taken_of n (length out - written) next) (from_newline block taken first)
        ∙ taken_run n (length out - written) next (piece block taken m) (newline ∷ drop (taken + m + 1) block) h (piece_free block taken first)
        ∙ rw (
          piece_length block taken first,
          taken_newline n (length out - written) ended (drop (taken + m + 1) block) h,
          sub-add-eq (length out) written (length (line_reply_lem n ended).text),
        )

    pub fed_line : length (line_reply_lem n ended).text ≤ reply_room
        → FedSoFar n f block out (line_start (line_reply_lem n ended).session) (taken + m + 1) (written + length (line_reply_lem n ended).text)
        (take written output ++ at_start (line_reply_lem n ended).text (drop written output))
    fed_line short =
        record {
          within = omega (arith, left_within block taken first, so.within);
          room = omega arith;
          state = line_state;
          count = rw (line_text, length-append, ← so.count);
          text = rw (line_text, so.text, so.count) (start_more (feed_text n f (take taken block)) (line_reply_lem n ended).text out);
          rest = omega (arith, so.rest, line_taken);
        }

    -- the same of what the reply to the line leaves in the lent part of the output
    module _ {parsed : Parsed} {r : Left} {part : List ℕ}
        (is : parsed ≡ kept_line n ended)
        (answer : r ≡ replied_in next.session parsed (length (take (length output - written) (drop written output))))
        (text : part ≡ replied_out next.session parsed (take (length output - written) (drop written output)))
      where
        roomy : reply_room ≤ length (drop written output)
        roomy = omega (arith, length-drop written output, fed_length)

        reply_is : parsed_reply next.session parsed ≡ line_reply_lem n ended
        reply_is = rw is (sym (ended_reply n next (piece block taken m) (piece_free block taken first)))

        answer_is : r ≡ record { session = (line_reply_lem n ended).session; written = length (line_reply_lem n ended).text }
        answer_is = answer ∙ rw (all_left output written, replied_in_lem next.session parsed (length (drop written output)) roomy, reply_is)

        text_is : part ++ drop (length output - written) (drop written output) ≡ at_start (line_reply_lem n ended).text (drop written output)
        text_is =
            rw (drop_of_length-le (drop written output) {i = length output - written} (omega (arith, length-drop written output)), append-nil)
            (text ∙ rw (all_left output written, replied_out_lem next.session parsed (drop written output) roomy, reply_is))

        pub fed_reply : FedSoFar n f block out (line_start r.session) (taken + m + 1) (written + r.written)
            (take written output ++ (part ++ drop (length output - written) (drop written output)))
        fed_reply = rw (answer_is, text_is) (fed_line (line_reply_length n ended))

  -- the rest of a block without a newline
  module _ (free : NewlineFree (take (length block - taken) (drop taken block))) (h : reply_room ≤ length out - written) where
    rest_is_free : NewlineFree (drop taken block)
    rest_is_free = rw (all_left block taken) at free

    whole : take (length block) block ≡ take taken block ++ drop taken block
    whole = take-length block ∙ sym (take-append-drop taken block)

    rest_text : feed_text n f (take (length block) block) ≡ feed_text n f (take taken block)
    rest_text =
        rw (whole, text_append n f (take taken block) (drop taken block), ← so.state, run_silent n next (drop taken block) rest_is_free, append-nil)

    rest_taken : taken_of n (length out - written) next (drop taken block) ≡ length (drop taken block)
    unfolding taken_of
    rest_taken =
        ap (taken_of n (length out - written) next) (sym (append-nil (drop taken block)))
        ∙ taken_run n (length out - written) next (drop taken block) [] h rest_is_free
        ∙ add-zero (length (drop taken block))

    pub fed_rest : FedSoFar n f block out (feed_state n next (take (length block - taken) (drop taken block))) (length block) written output
    unfolding taken_of
    fed_rest =
        rw (all_left block taken)
        (record {
          within = omega arith;
          room = so.room;
          state = sym (rw (whole, state_append n f (take taken block) (drop taken block), ← so.state));
          count = rw rest_text so.count;
          text = rw rest_text so.text;
          rest = rw drop-length (omega (arith, so.rest, rest_taken, length-drop taken block, so.within));
        })

  -- an output without room
  pub fed_full : length out - written < reply_room
      → (◌≡◌ {A = Fed} (record { feed = next; taken = taken; written = written }) (fed_of n f block (length out))) × (output ≡ fed_out n f block out)
  fed_full h = fed_all (omega (arith, so.rest, taken_full n (length out - written) next (drop taken block) h))

  -- a block that is used up
  pub fed_end : taken ≡ length block
      → (◌≡◌ {A = Fed} (record { feed = next; taken = taken; written = written }) (fed_of n f block (length out))) × (output ≡ fed_out n f block out)
  unfolding taken_of
  fed_end e = fed_all (omega (arith, rw (drop_of_length-le block {i = taken} (omega arith)) at so.rest))
