-- Block after block: what was answered before and what a block adds are one text, whose replies are counted; its end adds the last.
-- Assumes nothing.
use Rattle.std.proofs.Common.{◌≡◌, ℕ, ◌+◌, ◌%◌, ◌^◌, List, [], ◌++◌, length, take, sym, refl, ap, ◌∙◌, subst, arith, length-append, take_all}
use native.Mathlib.Nat.{mod-add-mod}
use Rattle.responder.specs.Written.{in_array}
use Rattle.responder.specs.declared.LineReply.{LineReply}
use Rattle.names.specs.Lists.{NameLists}
use Rattle.streams.specs.Stream.{feed_start, feed_state, feed_text, end_text, end_reply, transcript}
use Rattle.streams.specs.declared.Feed.{Feed}
use Rattle.streams.proofs.Cut.{state_append, text_append}
use Rattle.descriptors.specs.Writes.{Reached}
use Rattle.descriptors.specs.declared.Reading.{Reading}
use Rattle.descriptors.specs.declared.Reading.TheVariants.{End}
use Rattle.descriptors.specs.declared.Writing.{Writing}
use Rattle.descriptors.specs.declared.Next.{Next}
use Rattle.descriptors.specs.declared.Next.TheVariants.{Complete}
use Rattle.descriptors.proofs.Reported.{known}
use Rattle.relay.specs.Endings.{last_of, ending_of}
use Rattle.relay.specs.Passing.{Passing}
use Rattle.relay.specs.Relayed.{Relaying, Relayed, Transcribed}
use Rattle.relay.specs.declared.Passed.{Passed}
use Rattle.relay.specs.declared.Run.{Run}
use Rattle.relay.specs.declared.Ending.{Ending}
use Rattle.relay.proofs.Completed.{completed, written}

-- two counts in 64 bits, added
both_counted : (a b s t : ℕ) → s ≡ a % 2 ^ 64 → t ≡ b % 2 ^ 64 → (s + t) % 2 ^ 64 ≡ (a + b) % 2 ^ 64
both_counted a b s t e f =
    ap (λ (x : ℕ). (x + t) % 2 ^ 64) e
    ∙ mod-add-mod a (2 ^ 64) t
    ∙ ap (λ (x : ℕ). x % 2 ^ 64) (commuted a t)
    ∙ ap (λ (x : ℕ). (x + a) % 2 ^ 64) f
    ∙ mod-add-mod b (2 ^ 64) a
    ∙ ap (λ (x : ℕ). x % 2 ^ 64) (commuted b a)
  where
    commuted : (x y : ℕ) → x + y ≡ y + x
    commuted x y = omega arith

-- what is known after so many blocks, each answered whole
pub record RelayedSoFar (n : NameLists) (feed : Feed) (received sent : ℕ) : Type 0 where
  pub input : List ℕ
  pub state : feed ≡ feed_state n feed_start input
  pub bytes : received ≡ length input % 2 ^ 64
  pub replies : sent ≡ length (feed_text n feed_start input) % 2 ^ 64

-- before any is
pub relayed_none : (n : NameLists) (feed : Feed) → feed ≡ feed_start → RelayedSoFar n feed 0 0
unfolding feed_state feed_text
relayed_none n feed e = record { input = []; state = e; bytes = refl; replies = refl }

-- where no more is read
pub relaying : {n : NameLists} {feed : Feed} {received sent : ℕ} → RelayedSoFar n feed received sent → (last : Reading)
    → Relaying n (record { feed = feed; received = received; sent = sent; last = last; next = Complete })
relaying so last = record { input = so.input; state = so.state; received = λ e. so.bytes; replies = λ e. so.replies }

module _ {n : NameLists} {feed : Feed} {received sent : ℕ} (so : RelayedSoFar n feed received sent) {block : List ℕ} {passed : Passed} (p : Passing n feed block passed) where
  after : passed.feed ≡ feed_state n feed_start (so.input ++ take passed.taken block)
  after =
      p.state
      ∙ ap (λ (f : Feed). feed_state n f (take passed.taken block)) so.state
      ∙ sym (state_append n feed_start so.input (take passed.taken block))

  -- a block whose replies are not all written
  pub broken_off : (passed.next ≡ Complete → ⊥) → (received sent : ℕ) (last : Reading)
      → Relaying n (record { feed = passed.feed; received = received; sent = sent; last = last; next = passed.next })
  broken_off short received sent last =
      record {
        input = so.input ++ take passed.taken block;
        state = after;
        received = λ e. absurd (short e);
        replies = λ e. absurd (short e);
      }

  -- one whose replies are
  longer : length (feed_text n feed_start (so.input ++ block)) ≡ length (feed_text n feed_start so.input) + length (feed_text n feed block)
  longer = rw (text_append n feed_start so.input block, so.state) (length-append (feed_text n feed_start so.input) (feed_text n (feed_state n feed_start so.input) block))

  pub one_more : passed.next ≡ Complete → (total written : ℕ) → total ≡ (received + length block) % 2 ^ 64 → written ≡ (sent + passed.sent) % 2 ^ 64
      → RelayedSoFar n passed.feed total written
  one_more full total written e f =
      record {
        input = so.input ++ block;
        state = subst (λ (t : List ℕ). passed.feed ≡ feed_state n feed_start (so.input ++ t)) (take_all passed.taken block (omega (arith, p.all full))) after;
        bytes =
            e
            ∙ ap (λ (x : ℕ). (x + length block) % 2 ^ 64) so.bytes
            ∙ mod-add-mod (length so.input) (2 ^ 64) (length block)
            ∙ ap (λ (x : ℕ). x % 2 ^ 64) (sym (length-append so.input block));
        replies =
            f
            ∙ both_counted (length (feed_text n feed_start so.input)) (length (feed_text n feed block)) sent passed.sent so.replies (p.replies full)
            ∙ ap (λ (x : ℕ). x % 2 ^ 64) (sym longer);
      }

-- calls of write on the reply to the end of the input
end_reached : (feed : Feed) (reply : LineReply) (w : Writing) → reply ≡ in_array (end_reply feed) → Reached reply.length w → Reached (length (end_text feed)) w
unfolding in_array end_reply
end_reached feed reply w e reached = subst (λ (x : LineReply). Reached x.length w) e reached

module _ {n : NameLists} {run : Run} (so : Relaying n run) where
  -- a run that a write broke off
  pub relayed_part : (run.next ≡ Complete → ⊥) → Relayed n run
  relayed_part short =
      record {
        input = so.input;
        state = so.state;
        ended = λ e. absurd (short e);
        received = λ e. absurd (short e);
        replies = λ e. absurd (short e);
      }

  whole : length (transcript n so.input) ≡ length (feed_text n feed_start so.input) + length (end_text run.feed)
  unfolding transcript
  whole = rw so.state (length-append (feed_text n feed_start so.input) (end_text (feed_state n feed_start so.input)))

  -- one whose end is answered
  pub relayed : run.next ≡ Complete → (reply : LineReply) (w : Writing) (total : ℕ) (next : Next) → reply ≡ in_array (end_reply run.feed) → Reached reply.length w
      → total ≡ (run.sent + w.done) % 2 ^ 64 → next ≡ last_of run.last w.next
      → Relayed n (record { feed = run.feed; received = run.received; sent = total; last = run.last; next = next })
  relayed full reply w total next answer reached e f =
      let both : next ≡ Complete → (run.last ≡ End) × (w.next ≡ Complete) = λ c. completed.only run.last w.next (ap ending_of (sym f ∙ c)) in
      record {
        input = so.input;
        state = so.state;
        ended = λ c. (both c).0;
        received = λ c. so.received full;
        replies =
            λ c. e
            ∙ ap (λ (d : ℕ). (run.sent + d) % 2 ^ 64) ((known (end_reached run.feed reply w answer reached)).complete (both c).1)
            ∙ ap (λ (x : ℕ). (x + length (end_text run.feed)) % 2 ^ 64) (so.replies full)
            ∙ mod-add-mod (length (feed_text n feed_start so.input)) (2 ^ 64) (length (end_text run.feed))
            ∙ ap (λ (x : ℕ). x % 2 ^ 64) (sym whole);
      }

-- what is told of it
pub transcribed : {n : NameLists} {run : Run} → Relayed n run → (ending : Ending) → ending ≡ ending_of run.next → ending ≡ Ending.Complete
    → Transcribed n (record { ending = ending; received = run.received; sent = run.sent })
transcribed {run = run} so ending e c =
    let full = written run.next (sym e ∙ c) in
    record { input = so.input; received = so.received full; replies = so.replies full }
