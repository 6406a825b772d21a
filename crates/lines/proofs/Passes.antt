-- A text is taken part by part, each with an output of its own: what is known of the parts so far, and what one more adds. Assumes nothing.
use mathlib.Core.Bool.{true, false}
use mathlib.Core.List.{List, ◌++◌}
use mathlib.Core.Path.{◌≡◌, refl, sym, ap, ◌∙◌}
use Prim.Native.Nat.{ℕ, suc, ◌+◌, ◌-◌, ◌≤◌, ◌<◌}
use native.Mathlib.Omega.{arith}
use borrow.Author.Tests.{lt-ltb, le-ltb}
use lib.Dec.{ltb}
use lib.ListN.{length, get_or, take, drop, take-append-drop, length-append, length-drop}
use lib.Seq.{take-add, take_at, take-length, drop-cons}
use Rattle.names.specs.Lists.{NameLists}
use Rattle.responder.specs.Texts.{Put}
use Rattle.answers.specs.ReplyLength.{reply_room}
use Rattle.responder.specs.Written.{at_start}
use Rattle.streams.specs.Stream.{feed_state, feed_text}
use Rattle.streams.specs.declared.Feed.{Feed}
use Rattle.streams.proofs.Cut.{state_append, text_append}
use Rattle.lines.specs.Blocks.{taken_of, taken_from, fed_of, fed_out}
use Rattle.lines.specs.Passing.{Passed}
use Rattle.lines.specs.declared.Fed.{Fed}
use Rattle.lines.proofs.NextLine.{all_left}
use Rattle.lines.proofs.Progress.{progress}

-- what is known when so many bytes of a text are taken
pub record PassedSoFar (n : NameLists) (f : Feed) (text : List ℕ) (next : Feed) (taken : ℕ) : Type 0 where
  pub within : taken ≤ length text
  pub state : next ≡ feed_state n f (take taken text)

-- before any is
pub passed_none : (n : NameLists) (f : Feed) (text : List ℕ) → PassedSoFar n f text f 0
unfolding feed_state
passed_none n f text = record { within = omega arith; state = refl }

-- what a part adds that gives these answers, with an output of some room
pub record PartPassed (n : NameLists) (f : Feed) (text : List ℕ) (taken room : ℕ) (answers : List ℕ) (fed : Fed) : Type 0 where
  pub some : 0 < fed.taken
  pub count : fed.written ≡ length answers
  pub held : fed.written ≤ room
  pub more : PassedSoFar n f text fed.feed (taken + fed.taken)
  pub given : feed_text n f (take (taken + fed.taken) text) ≡ feed_text n f (take taken text) ++ answers

-- the answers to a part of the text are not longer than those to all of it
pub part_length : (n : NameLists) (f : Feed) (text : List ℕ) (k : ℕ) → length (feed_text n f (take k text)) ≤ length (feed_text n f text)
part_length n f text k =
    let e = ap (feed_text n f) (sym (take-append-drop k text)) ∙ text_append n f (take k text) (drop k text) in
    omega (arith, ap length e, length-append (feed_text n f (take k text)) (feed_text n (feed_state n f (take k text)) (drop k text)))

module _ {n : NameLists} {f : Feed} {text : List ℕ} {next : Feed} {taken : ℕ} (room : ℕ) (so : PassedSoFar n f text next taken) where
  -- the answers to the part that an output of some room takes
  abbrev pub answers : List ℕ
  answers = feed_text n next (taken_from n next (drop taken text) room)

  part_passed_by : taken < length text → reply_room ≤ room → PartPassed n f text taken room answers (fed_of n next (drop taken text) room)
  unfolding fed_of taken_from
  part_passed_by left roomy =
      let k = taken_of n room next (drop taken text) in
      record {
        some = rw (drop-cons text taken 0 left) (progress.some n next (get_or text taken 0) (drop (suc taken) text) room roomy);
        count = refl;
        held = progress.held n next (drop taken text) room;
        more =
            record {
              within = omega (arith, progress.no_more n next (drop taken text) room, length-drop taken text);
              state =
                  rw (take-add taken k text)
                  (ap (λ (g : Feed). feed_state n g (take k (drop taken text))) so.state
                  ∙ sym (state_append n f (take taken text) (take k (drop taken text))));
            };
        given = rw (take-add taken k text, text_append n f (take taken text) (take k (drop taken text)), ← so.state);
      }

  pub part_passed : {fed : Fed} → taken < length text → reply_room ≤ room → fed ≡ fed_of n next (take (length text - taken) (drop taken text)) room
      → PartPassed n f text taken room answers fed
  part_passed left roomy answer = rw (answer, all_left text taken) (part_passed_by left roomy)

  -- they stand at the start of the output
  pub part_output : {fed : Fed} {output : List ℕ} (lent : List ℕ) → room ≡ length lent
      → fed ≡ fed_of n next (take (length text - taken) (drop taken text)) room
      → output ≡ fed_out n next (take (length text - taken) (drop taken text)) lent
      → take fed.written output ≡ answers
  unfolding fed_of fed_out at_start
  part_output lent e answer output =
      rw (answer, output, all_left text taken, ← e) (take_at answers (drop (length answers) lent) (length answers) refl)

  -- the lengths of what is given so far and more
  pub part_count : {fed : Fed} → PartPassed n f text taken room answers fed
      → length (feed_text n f (take (taken + fed.taken) text)) ≡ length (feed_text n f (take taken text)) + fed.written
  part_count p = ap length p.given ∙ rw (length-append (feed_text n f (take taken text)) answers, p.count)

  -- the part does not fit what is left of some room
  pub part_long : {fed : Fed} (all left : ℕ) → PartPassed n f text taken room answers fed → left + length (feed_text n f (take taken text)) ≡ all
      → left < fed.written → ltb all (length (feed_text n f text)) ≡ true
  part_long {fed} all left p e h =
      lt-ltb all (length (feed_text n f text)) (omega (arith, part_count p, part_length n f text (taken + fed.taken)))

-- the whole text fits
pub whole_fits : (n : NameLists) (f : Feed) (text : List ℕ) (taken all left : ℕ) → taken ≡ length text → left + length (feed_text n f (take taken text)) ≡ all
    → ltb all (length (feed_text n f text)) ≡ false
whole_fits n f text taken all left e sum =
    le-ltb all (length (feed_text n f text)) (omega (arith, rw (e, take-length text) at sum))

-- the whole text is taken and its answers are put
pub whole_passed : {n : NameLists} {f : Feed} {text before after : List ℕ} {at : ℕ} {next : Feed} {taken written : ℕ} → taken ≡ length text
    → PassedSoFar n f text next taken → Put before at (feed_text n f (take taken text)) after written
    → Passed n f text before at after (record { feed = next; taken = taken; written = written })
whole_passed {text = text} {taken = taken} e so put =
    let t : take taken text ≡ text = rw e (take-length text) in
    record { state = rw t at so.state; output = rw t at put }
