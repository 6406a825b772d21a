-- The answer and the output of a piece or end, by the rows of its table: after the end, without room, with room. Assumes nothing.
use Rattle.std.specs.Prelude.{None, Some, Ok}
use mathlib.Core.Bool.{Bool, true, false}
use mathlib.Core.List.{List, ◌++◌}
use mathlib.Core.Path.{◌≡◌, refl, sym, ◌∙◌}
use Prim.Native.Nat.{ℕ}
use native.Mathlib.Omega.{arith}
use lib.Dec.{ltb}
use lib.ListN.{length, drop}
use Rattle.requests.specs.declared.Refusal.{Refusal}
use Rattle.requests.specs.declared.Refusal.TheVariants.{CallOrder, SliceTooShort}
use Rattle.requests.proofs.FirstHolding.{holds, skips, ends}
use Rattle.streams.specs.Feeds.{feed_table, feed_refusal, refused_feed, feed_answer, feed_out}
use Rattle.streams.specs.declared.PieceFeed.{PieceFeed}
use Rattle.streams.specs.declared.PieceAnswered.{PieceAnswered}

-- ---- the refusal

module _ (s : PieceFeed) (answers : List ℕ) (room : ℕ) where
  refusal_ended : s.ended ≡ true → feed_refusal s answers room ≡ Some CallOrder
  unfolding feed_refusal feed_table
  refusal_ended e = holds _ _ e

  refusal_short : s.ended ≡ false → ltb room (length answers) ≡ true → feed_refusal s answers room ≡ Some SliceTooShort
  unfolding feed_refusal feed_table
  refusal_short e h = skips _ _ e ∙ holds _ _ h

  refusal_none : s.ended ≡ false → ltb room (length answers) ≡ false → feed_refusal s answers room ≡ None
  unfolding feed_refusal feed_table
  refusal_none e h = skips _ _ e ∙ skips _ _ h ∙ ends

-- ---- the answer

module _ (s : PieceFeed) (answers : List ℕ) (next : PieceFeed) (room : ℕ) where
  answer_refused : (x : Refusal) → feed_refusal s answers room ≡ Some x → feed_answer s answers next room ≡ refused_feed s x
  unfolding feed_answer
  answer_refused x e = rw (e, feed_answer)

  answer_none : feed_refusal s answers room ≡ None → feed_answer s answers next room ≡ record { answer = Ok tt; state = next; written = length answers }
  unfolding feed_answer
  answer_none e = rw (e, feed_answer)

  -- after the end
  pub answer_ended : s.ended ≡ true → feed_answer s answers next room ≡ refused_feed s CallOrder
  answer_ended e = answer_refused CallOrder (refusal_ended s answers room e)

  -- without room
  pub answer_short : s.ended ≡ false → ltb room (length answers) ≡ true → feed_answer s answers next room ≡ refused_feed s SliceTooShort
  answer_short e h = answer_refused SliceTooShort (refusal_short s answers room e h)

  -- with room
  pub answer_fits : s.ended ≡ false → ltb room (length answers) ≡ false
      → feed_answer s answers next room ≡ record { answer = Ok tt; state = next; written = length answers }
  answer_fits e h = answer_none (refusal_none s answers room e h)

  -- only with room
  pub accepted_fits : (feed_answer s answers next room).answer ≡ (Ok tt) → (s.ended ≡ false) × (ltb room (length answers) ≡ false)
  unfolding refused_feed
  accepted_fits given = go s.ended refl (ltb room (length answers)) refl
    where
      go : (e : Bool) → s.ended ≡ e → (t : Bool) → ltb room (length answers) ≡ t → (s.ended ≡ false) × (ltb room (length answers) ≡ false)
      go true e t h = let r : (refused_feed s CallOrder).answer ≡ (Ok tt) = rw (answer_ended e) at given in let z : ◌≡◌ {A = ℕ} 0 1 = cc in absurd (omega arith)
      go false e true h = let r : (refused_feed s SliceTooShort).answer ≡ (Ok tt) = rw (answer_short e h) at given in let z : ◌≡◌ {A = ℕ} 0 1 = cc in absurd (omega arith)
      go false e false h = (e, h)

-- ---- the output

module _ (s : PieceFeed) (answers out : List ℕ) where
  pub out_ended : s.ended ≡ true → feed_out s answers out ≡ out
  unfolding feed_out
  out_ended e = rw (refusal_ended s answers (length out) e, feed_out)

  pub out_short : s.ended ≡ false → ltb (length out) (length answers) ≡ true → feed_out s answers out ≡ out
  unfolding feed_out
  out_short e h = rw (refusal_short s answers (length out) e h, feed_out)

  pub out_fits : s.ended ≡ false → ltb (length out) (length answers) ≡ false → feed_out s answers out ≡ answers ++ drop (length answers) out
  unfolding feed_out
  out_fits e h = rw (refusal_none s answers (length out) e h, feed_out)

-- ---- both, as the code meets them

module _ (s : PieceFeed) (answers : List ℕ) (next : PieceFeed) (out : List ℕ) where
  pub after_end : {r : PieceAnswered} → s.ended ≡ true → r ≡ refused_feed s CallOrder
      → (r ≡ feed_answer s answers next (length out)) × (out ≡ feed_out s answers out)
  after_end e is = (is ∙ sym (answer_ended s answers next (length out) e), sym (out_ended s answers out e))

  pub without_room : {r : PieceAnswered} → s.ended ≡ false → ltb (length out) (length answers) ≡ true → r ≡ refused_feed s SliceTooShort
      → (r ≡ feed_answer s answers next (length out)) × (out ≡ feed_out s answers out)
  without_room e h is = (is ∙ sym (answer_short s answers next (length out) e h), sym (out_short s answers out e h))

  pub with_room : {n : ℕ} {state : PieceFeed} {after : List ℕ} → s.ended ≡ false → ltb (length out) (length answers) ≡ false
      → n ≡ length answers → state ≡ next → after ≡ answers ++ drop (length answers) out
      → (◌≡◌ {A = PieceAnswered} (record { answer = Ok tt; state = state; written = n }) (feed_answer s answers next (length out))) × (after ≡ feed_out s answers out)
  with_room e h count is text = (rw (count, is) (sym (answer_fits s answers next (length out) e h)), text ∙ sym (out_fits s answers out e h))
