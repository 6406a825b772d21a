-- What a piece and the end are refused with, write and leave, by the cases of their answer. Assumes nothing.
use Rattle.std.specs.Prelude.{Ok}
use mathlib.Core.Bool.{Bool, true, false}
use mathlib.Core.List.{List}
use mathlib.Core.Path.{◌≡◌, refl, sym, ap}
use Prim.Native.Nat.{ℕ}
use borrow.Author.Tests.{lt-ltb, le-ltb}
use lib.Dec.{ltb}
use lib.ListN.{length}
use Rattle.requests.specs.Refusals.{number_of, answer_number}
use Rattle.requests.specs.Faults.{field_of, answer_field, no_fields}
use Rattle.streams.specs.Stream.{feed_text, end_text}
use Rattle.streams.specs.Feeds.{new_feed, refused_feed, feed_answer, feed_out, piece_state, piece_of, piece_out, end_state, end_of, end_out}
use Rattle.streams.specs.FeedRules.{Ruled, FeedRules}
use Rattle.streams.specs.declared.PieceFeed.{PieceFeed}
use Rattle.streams.specs.declared.PieceAnswered.{PieceAnswered}
use Rattle.streams.proofs.FeedAnswers.{answer_ended, answer_short, answer_fits, accepted_fits, out_ended, out_short, out_fits}

module _ (s : PieceFeed) (answers : List ℕ) (next : PieceFeed) where
  -- what holds of the three answers holds of the one that is given
  pub any_answer : (P : PieceAnswered → Type 0) (room : ℕ) → (s.ended ≡ true → P (feed_answer s answers next room))
      → (s.ended ≡ false → ltb room (length answers) ≡ true → P (feed_answer s answers next room))
      → (s.ended ≡ false → ltb room (length answers) ≡ false → P (feed_answer s answers next room))
      → P (feed_answer s answers next room)
  any_answer P room a b c = go s.ended refl (ltb room (length answers)) refl
    where
      go : (e : Bool) → s.ended ≡ e → (t : Bool) → ltb room (length answers) ≡ t → P (feed_answer s answers next room)
      go true e t h = a e
      go false e true h = b e h
      go false e false h = c e h

  -- what holds of the state before and of the next one holds of the state afterwards
  pub either_state : (P : PieceFeed → Type 0) (room : ℕ) → P s → (s.ended ≡ false → P next) → P (feed_answer s answers next room).state
  unfolding refused_feed
  either_state P room p q =
      any_answer
      (λ (r : PieceAnswered). P r.state)
      room
      (λ e. rw (answer_ended s answers next room e) p)
      (λ e h. rw (answer_short s answers next room e h) p)
      (λ e h. rw (answer_fits s answers next room e h) (q e))

  pub accepted_state : (room : ℕ) → (feed_answer s answers next room).answer ≡ (Ok tt) → (feed_answer s answers next room).state ≡ next
  accepted_state room given = let f = accepted_fits s answers next room given in rw (answer_fits s answers next room f.0 f.1)

  at_field_0 : (room : ℕ) → answer_field (feed_answer s answers next room).answer no_fields ≡ 0
  unfolding refused_feed answer_field field_of
  at_field_0 room =
      any_answer
      (λ (r : PieceAnswered). answer_field r.answer no_fields ≡ 0)
      room
      (λ e. rw (answer_ended s answers next room e))
      (λ e h. rw (answer_short s answers next room e h))
      (λ e h. rw (answer_fits s answers next room e h))

  ruled : (out : List ℕ) → Ruled s answers out (feed_answer s answers next (length out)) (feed_out s answers out)
  unfolding refused_feed answer_number number_of
  ruled out =
      record {
        ended = λ e. rw (answer_ended s answers next (length out) e);
        short = λ e h. rw (answer_short s answers next (length out) e (lt-ltb (length out) (length answers) h));
        accepted = λ e h. rw (answer_fits s answers next (length out) e (le-ltb (length out) (length answers) h));
        field = at_field_0 (length out);
        unchanged = λ other. go other s.ended refl (ltb (length out) (length answers)) refl;
        output =
            λ given. let f = accepted_fits s answers next (length out) given in
            (rw (answer_fits s answers next (length out) f.0 f.1), out_fits s answers out f.0 f.1);
      }
    where
      go : ((feed_answer s answers next (length out)).answer ≡ (Ok tt) → ⊥) → (e : Bool) → s.ended ≡ e → (t : Bool) → ltb (length out) (length answers) ≡ t
          → ((feed_answer s answers next (length out)).state ≡ s) × ((feed_answer s answers next (length out)).written ≡ 0) × (feed_out s answers out ≡ out)
      go other true e t h = rw (answer_ended s answers next (length out) e, out_ended s answers out e) (refl, refl, refl)
      go other false e true h = rw (answer_short s answers next (length out) e h, out_short s answers out e h) (refl, refl, refl)
      go other false e false h = absurd (other (rw (answer_fits s answers next (length out) e h)))

pub feed_rules : FeedRules
unfolding piece_of piece_out piece_state end_of end_out end_state new_feed
feed_rules =
    record {
      piece = λ n s text. ruled s (feed_text n s.feed text) (piece_state n s text);
      end = λ s. ruled s (end_text s.feed) (end_state s);
      open_first = refl;
      still_open =
          λ n s text room. either_state s (feed_text n s.feed text) (piece_state n s text) (λ (t : PieceFeed). t.ended ≡ s.ended) room refl (λ e. sym e);
      declared = λ s room given. ap (λ (t : PieceFeed). t.ended) (accepted_state s (end_text s.feed) (end_state s) room given);
    }
