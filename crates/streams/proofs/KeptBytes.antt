-- What is kept of an unfinished line: at most 80 bytes, byte by byte; and after lines the beginning of the next, by `LineByLine` at each line and the
-- state that a run leaves. Assumes nothing.
use mathlib.Core.Bool.{Bool, true, false}
use mathlib.Core.List.{List, [], ◌∷◌, ◌++◌, append_assoc, flat_map}
use mathlib.Core.Path.{◌≡◌, refl, ap, sym, subst, ◌∙◌}
use Prim.Native.Nat.{ℕ, ◌-◌, ◌≤◌}
use native.Mathlib.Omega.{arith}
use native.Mathlib.Nat.{zero-add}
use borrow.Author.Tests.{ltb-true, lt-ltb, le-ltb}
use lib.Dec.{ltb, eqb}
use lib.ListN.{length, take, replicate, length-set, length-take, length-replicate}
use lib.Seq.{sets-eq}
use Rattle.plans.specs.Lists.{All, nil, cons}
use Rattle.requests.specs.Choice.{either}
use Rattle.sessions.specs.declared.Session.{Session}
use Rattle.sessions.specs.Sessions.{new_session}
use Rattle.grammar.specs.Parse.{longest}
use Rattle.grammar.specs.Text.{newline}
use Rattle.names.specs.Lists.{NameLists}
use Rattle.answers.specs.Replies.{answer_line}
use Rattle.answers.proofs.Zeros.{drop_zeros}
use Rattle.streams.specs.Stream.{NewlineFree, line_start, feed_start, line_reply_lem, keep_byte, byte_state, feed_state, feed_text, end_text}
use Rattle.streams.specs.Transcript.{closed}
use Rattle.streams.specs.Feeds.{new_feed, piece_state, piece_of, end_state, end_of}
use Rattle.streams.specs.FeedCutting.{Lent, state_after, text_of}
use Rattle.streams.specs.KeptBytes.{Keeps80, Holds, KeptBytes}
use Rattle.streams.specs.declared.Feed.{Feed}
use Rattle.streams.specs.declared.PieceFeed.{PieceFeed}
use Rattle.streams.proofs.FeedRules.{either_state, accepted_state}
use Rattle.streams.proofs.FeedCut.{all_state}
use Rattle.streams.proofs.Kept.{after_run, kept_run}
use Rattle.streams.proofs.TranscriptHolds.{state_first}

-- ---- at most 80 bytes

start_keeps : (s : Session) → Keeps80 (line_start s)
unfolding line_start longest
start_keeps s = (length-replicate {A = ℕ} 80 0, omega arith)

byte_keeps : (n : NameLists) (f : Feed) (b : ℕ) → Keeps80 f → Keeps80 (byte_state n f b)
unfolding byte_state keep_byte longest
byte_keeps n f b k = go (eqb b newline) (ltb f.used 80) refl
  where
    go : (e t : Bool) → ltb f.used 80 ≡ t → Keeps80 (elim e [ true ↦ line_start (line_reply_lem n f).session | false ↦ keep_byte f b ])
    go true t h = start_keeps (line_reply_lem n f).session
    go false true h = rw (h, keep_byte) (rw length-set k.0, omega (arith, ltb-true f.used 80 h))
    go false false h = rw (h, keep_byte) k

text_keeps : (n : NameLists) (f : Feed) (text : List ℕ) → Keeps80 f → Keeps80 (feed_state n f text)
unfolding feed_state
text_keeps n f [] k = k
text_keeps n f (b ∷ bs) k = text_keeps n (byte_state n f b) bs (byte_keeps n f b k)

-- ---- the beginning of a line

run_holds : (s : Session) (rest : List ℕ) → Holds rest (after_run (line_start s) rest)
unfolding after_run line_start longest either
run_holds s rest =
    let short : length (take 80 rest) ≤ 80 = omega (arith, length-take 80 rest) in
    let left : 80 - length (take 80 rest) ≡ 80 - length rest = omega (arith, length-take 80 rest) in
    record {
      bytes =
          rw (sets-eq (take 80 rest) (replicate 80 0) 0 (omega (arith, short, length-replicate {A = ℕ} 80 0)), zero-add (length (take 80 rest)), drop_zeros (length (take 80 rest)) 80 short, left);
      number = zero-add (length (take 80 rest));
      more = λ h. lt-ltb 80 (length rest) h;
      all = λ h. le-ltb 80 (length rest) h;
    }

-- of none nothing
none_holds : (s : Session) → Holds [] (line_start s)
unfolding line_start longest
none_holds s = record { bytes = refl; number = refl; more = λ h. absurd (omega (arith, h)); all = λ h. refl }

after_lines : (n : NameLists) (s : Session) (texts : List (List ℕ)) (rest : List ℕ) → All NewlineFree texts → NewlineFree rest
    → Holds rest (feed_state n (line_start s) (flat_map closed texts ++ rest))
unfolding flat_map
after_lines n s [] rest nil free = rw (kept_run n (line_start s) rest free) (run_holds s rest)
after_lines n s (text ∷ texts) rest (cons f fs) free =
    rw (append_assoc (closed text) (flat_map closed texts) rest, state_first n s text f (flat_map closed texts ++ rest))
    (after_lines n (answer_line n s (closed text)).session texts rest fs free)

after_pieces : (n : NameLists) (ls : List Lent) (texts : List (List ℕ)) (rest : List ℕ) → All NewlineFree texts → NewlineFree rest
    → text_of n new_feed ls ≡ flat_map closed texts ++ rest → Holds rest (state_after n new_feed ls).feed
unfolding piece_state new_feed feed_start
after_pieces n ls texts rest f g is =
    subst (λ (t : PieceFeed). Holds rest t.feed) (sym (all_state n new_feed ls refl ∙ ap (piece_state n new_feed) is)) (after_lines n new_session texts rest f g)

pub kept_bytes : KeptBytes
unfolding piece_of piece_state end_of end_state new_feed feed_start
kept_bytes =
    record {
      new_feed_lem = start_keeps new_session;
      piece =
          λ n s text room k. either_state s (feed_text n s.feed text) (piece_state n s text) (λ (t : PieceFeed). Keeps80 t.feed) room k (λ e. text_keeps n s.feed text k);
      end = λ s room k. either_state s (end_text s.feed) (end_state s) (λ (t : PieceFeed). Keeps80 t.feed) room k (λ e. start_keeps s.feed.session);
      after_end = λ s room given. rw (accepted_state s (end_text s.feed) (end_state s) room given) (none_holds s.feed.session);
      holds = λ n. after_lines n new_session;
      pieces = after_pieces;
    }
