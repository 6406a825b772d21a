-- A part of a block is answered, by the laws of a text that is taken part by part; and what is reported written counts the bytes of the replies.
-- Assumes nothing.
use Rattle.std.proofs.Common.{◌≡◌, ℕ, ◌+◌, ◌-◌, ◌%◌, ◌^◌, ◌<◌, ◌≤◌, List, length, take, drop, sym, refl, ap, ◌∙◌, arith, length-append}
use native.Mathlib.Nat.{mod-add-mod}
use Rattle.answers.specs.ReplyLength.{reply_room}
use Rattle.responder.specs.Written.{in_array}
use Rattle.answers.specs.Replies.{Reply}
use Rattle.names.specs.Lists.{NameLists}
use Rattle.lines.specs.Blocks.{fed_of}
use Rattle.streams.specs.Stream.{feed_state, feed_text}
use Rattle.streams.specs.declared.Feed.{Feed}
use Rattle.lines.specs.declared.Fed.{Fed}
use Rattle.lines.proofs.Passes as lines

-- what is known when so many bytes of a block are answered, and their replies are reported written
pub record PassedSoFar (n : NameLists) (f : Feed) (block : List ℕ) (next : Feed) (taken sent : ℕ) : Type 0 where
  pub within : taken ≤ length block
  pub state : next ≡ feed_state n f (take taken block)
  pub count : sent ≡ length (feed_text n f (take taken block)) % 2 ^ 64

-- before any is
pub passed_none : (n : NameLists) (f : Feed) (block : List ℕ) → PassedSoFar n f block f 0 0
unfolding feed_state feed_text
passed_none n f block = record { within = omega arith; state = refl; count = refl }

-- what feeding the rest of it adds, with an output of some room
pub record PartPassed (n : NameLists) (f : Feed) (block : List ℕ) (taken sent room : ℕ) (fed : Fed) : Type 0 where
  pub some : 0 < fed.taken
  pub held : fed.written ≤ room
  pub within : taken + fed.taken ≤ length block
  pub state : fed.feed ≡ feed_state n f (take (taken + fed.taken) block)
  pub count : (total : ℕ) → total ≡ (sent + fed.written) % 2 ^ 64 → total ≡ length (feed_text n f (take (taken + fed.taken) block)) % 2 ^ 64

pub part_passed : {n : NameLists} {f : Feed} {block : List ℕ} {next : Feed} {taken sent : ℕ} (room : ℕ) → PassedSoFar n f block next taken sent → {fed : Fed}
    → taken < length block → reply_room ≤ room → fed ≡ fed_of n next (take (length block - taken) (drop taken block)) room → PartPassed n f block taken sent room fed
part_passed {n} {f} {block} {next} {taken} {sent} room so {fed} left roomy answer =
    let before : lines.PassedSoFar n f block next taken = record { within = so.within; state = so.state } in
    let p = lines.part_passed room before left roomy answer in
    record {
      some = p.some;
      held = p.held;
      within = p.more.within;
      state = p.more.state;
      count =
          λ total e. e
          ∙ ap (λ (s : ℕ). (s + fed.written) % 2 ^ 64) so.count
          ∙ mod-add-mod (length (feed_text n f (take taken block))) (2 ^ 64) fed.written
          ∙ ap (λ (s : ℕ). s % 2 ^ 64) (sym (lines.part_count room before p));
    }

-- a reply in an array of its own lies within it
pub array_holds : (x : Reply) → (in_array x).length ≤ length (in_array x).text
unfolding in_array
array_holds x = rw length-append (omega arith)
