-- Pieces give together what one piece of the accepted texts joined gives: by induction on the pieces, with the laws of the stream on two. Assumes
-- nothing.
use Rattle.std.specs.Prelude.{Ok}
use mathlib.Core.Bool.{Bool, true, false}
use mathlib.Core.List.{List, [], ◌∷◌, ◌++◌}
use mathlib.Core.Path.{◌≡◌, refl, sym, ap, ◌∙◌}
use Prim.Native.Nat.{ℕ, ◌≤◌}
use native.Mathlib.Omega.{arith}
use borrow.Author.Tests.{le-ltb}
use lib.Dec.{ltb}
use lib.ListN.{length, take, drop}
use lib.Seq.{take_at}
use Rattle.requests.specs.declared.Refusal.TheVariants.{SliceTooShort}
use Rattle.names.specs.Lists.{NameLists}
use Rattle.streams.specs.Stream.{line_start, feed_start, feed_state, feed_text, end_text, transcript}
use Rattle.streams.specs.Feeds.{new_feed, refused_feed, piece_state, piece_of, piece_out, end_state, end_of, end_out}
use Rattle.streams.specs.FeedCutting.{Lent, answered, written, taken_text, state_after, output_of, text_of, FeedCutting}
use Rattle.streams.specs.declared.PieceFeed.{PieceFeed}
use Rattle.streams.proofs.Cut.{state_append, text_append}
use Rattle.streams.proofs.FeedAnswers.{answer_short, answer_fits, accepted_fits, out_fits}
use Rattle.streams.proofs.FeedRules.{either_state}

-- a text at the start of a slice is found there
start_found : (text out : List ℕ) → take (length text) (text ++ drop (length text) out) ≡ text
start_found text out = take_at text (drop (length text) out) (length text) refl

-- ---- one piece

module _ (n : NameLists) where
  -- no text leaves the state
  state_none : (s : PieceFeed) → s.ended ≡ false → s ≡ piece_state n s []
  unfolding piece_state feed_state
  state_none s e = rw (← e)

  module _ (s : PieceFeed) (l : Lent) (e : s.ended ≡ false) where
    -- whether its answers do not fit
    abbrev unfit : Bool
    unfit = ltb (length l.out) (length (feed_text n s.feed l.text))

    answer_taken : unfit ≡ false → answered n s l ≡ record { answer = Ok tt; state = piece_state n s l.text; written = length (feed_text n s.feed l.text) }
    unfolding answered piece_of
    answer_taken h = answer_fits s (feed_text n s.feed l.text) (piece_state n s l.text) (length l.out) e h

    answer_not : unfit ≡ true → answered n s l ≡ refused_feed s SliceTooShort
    unfolding answered piece_of
    answer_not h = answer_short s (feed_text n s.feed l.text) (piece_state n s l.text) (length l.out) e h

    out_taken : unfit ≡ false → piece_out n s l.text l.out ≡ feed_text n s.feed l.text ++ drop (length (feed_text n s.feed l.text)) l.out
    unfolding piece_out
    out_taken h = out_fits s (feed_text n s.feed l.text) l.out e h

    text_taken : unfit ≡ false → taken_text n s l ≡ l.text
    unfolding taken_text
    text_taken h = rw (answer_taken h, taken_text)

    text_not : unfit ≡ true → taken_text n s l ≡ []
    unfolding taken_text refused_feed
    text_not h = rw (answer_not h, taken_text)

    one_state : (answered n s l).state ≡ piece_state n s (taken_text n s l)
    unfolding refused_feed
    one_state = go unfit refl
      where
        go : (t : Bool) → unfit ≡ t → (answered n s l).state ≡ piece_state n s (taken_text n s l)
        go true h = rw (text_not h, answer_not h) (state_none s e)
        go false h = rw (text_taken h, answer_taken h)

    one_written : written n s l ≡ feed_text n s.feed (taken_text n s l)
    unfolding written refused_feed feed_text
    one_written = go unfit refl
      where
        go : (t : Bool) → unfit ≡ t → written n s l ≡ feed_text n s.feed (taken_text n s l)
        go true h = rw (text_not h, answer_not h)
        go false h = rw (text_taken h, answer_taken h, out_taken h) (start_found (feed_text n s.feed l.text) l.out)

  -- ---- all of them

  still_open : (s : PieceFeed) (l : Lent) → s.ended ≡ false → (answered n s l).state.ended ≡ false
  unfolding piece_state
  still_open s l e = ap (λ (t : PieceFeed). t.ended) (one_state s l e)

  pub all_state : (s : PieceFeed) (ls : List Lent) → s.ended ≡ false → state_after n s ls ≡ piece_state n s (text_of n s ls)
  unfolding state_after text_of piece_state
  all_state s [] e = state_none s e
  all_state s (l ∷ rest) e =
      all_state (answered n s l).state rest (still_open s l e)
      ∙ ap (λ (t : PieceFeed). piece_state n t (text_of n (answered n s l).state rest)) (one_state s l e)
      ∙ rw (state_append n s.feed (taken_text n s l) (text_of n (answered n s l).state rest))

  all_output : (s : PieceFeed) (ls : List Lent) → s.ended ≡ false → output_of n s ls ≡ feed_text n s.feed (text_of n s ls)
  unfolding output_of text_of piece_state feed_text
  all_output s [] e = refl
  all_output s (l ∷ rest) e =
      rw (
        text_append n s.feed (taken_text n s l) (text_of n (answered n s l).state rest),
        one_written s l e,
        all_output (answered n s l).state rest (still_open s l e),
      )
      (ap (λ (t : PieceFeed). feed_text n s.feed (taken_text n s l) ++ feed_text n t.feed (text_of n (answered n s l).state rest)) (one_state s l e))

  at_once : (s : PieceFeed) (ls : List Lent) (out : List ℕ) → s.ended ≡ false → length (output_of n s ls) ≤ length out
      → (piece_of n s (text_of n s ls) (length out) ≡ record { answer = Ok tt; state = state_after n s ls; written = length (output_of n s ls) })
      × (piece_out n s (text_of n s ls) out ≡ output_of n s ls ++ drop (length (output_of n s ls)) out)
  unfolding piece_of piece_out
  at_once s ls out e fits =
      let text = feed_text n s.feed (text_of n s ls) in
      let o = all_output s ls e in
      let h = le-ltb (length out) (length text) (omega (arith, fits, ap length o)) in (
        rw (all_state s ls e, o) (answer_fits s text (piece_state n s (text_of n s ls)) (length out) e h),
        rw o (out_fits s text out e h),
      )

  same : (s : PieceFeed) (ls ms : List Lent) → s.ended ≡ false → text_of n s ls ≡ text_of n s ms
      → (state_after n s ls ≡ state_after n s ms) × (output_of n s ls ≡ output_of n s ms)
  same s ls ms e alike =
      (all_state s ls e ∙ rw alike (sym (all_state s ms e)), all_output s ls e ∙ rw alike (sym (all_output s ms e)))

-- ---- with the end

-- what an accepted end gives
end_text_lem : (s : PieceFeed) (out : List ℕ) → (end_of s (length out)).answer ≡ (Ok tt) → take (end_of s (length out)).written (end_out s out) ≡ end_text s.feed
unfolding end_of end_out
end_text_lem s out given =
    let f = accepted_fits s (end_text s.feed) (end_state s) (length out) given in
    rw (answer_fits s (end_text s.feed) (end_state s) (length out) f.0 f.1, out_fits s (end_text s.feed) out f.0 f.1)
    (start_found (end_text s.feed) out)

-- the end leaves the session
end_session : (s : PieceFeed) (room : ℕ) → (end_of s room).state.feed.session ≡ s.feed.session
unfolding end_of end_state line_start
end_session s room = either_state s (end_text s.feed) (end_state s) (λ (t : PieceFeed). t.feed.session ≡ s.feed.session) room refl (λ e. refl)

module _ (n : NameLists) where
  output : (ls : List Lent) (out : List ℕ) → (end_of (state_after n new_feed ls) (length out)).answer ≡ Ok tt
      → output_of n new_feed ls ++ take (end_of (state_after n new_feed ls) (length out)).written (end_out (state_after n new_feed ls) out)
      ≡ transcript n (text_of n new_feed ls)
  unfolding transcript new_feed piece_state
  output ls out given =
      rw (end_text_lem (state_after n new_feed ls) out given, all_output n new_feed ls refl, all_state n new_feed ls refl)

  session : (ls : List Lent) (room : ℕ) → (end_of (state_after n new_feed ls) room).state.feed.session ≡ (feed_state n feed_start (text_of n new_feed ls)).session
  unfolding new_feed piece_state
  session ls room = end_session (state_after n new_feed ls) room ∙ rw (all_state n new_feed ls refl)

pub feed_cutting : FeedCutting
feed_cutting = record { at_once = at_once; same = same; output = output; session = session }
