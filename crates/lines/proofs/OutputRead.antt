-- The bytes that are told stand at the start. Assumes nothing.
use mathlib.Core.Path.{refl}
use Prim.Native.Nat.{◌-◌}
use lib.ListN.{length, drop, replicate}
use lib.Seq.{take_at, drop_at}
use Rattle.answers.specs.ReplyLength.{reply_room}
use Rattle.responder.specs.Written.{in_array, at_start}
use Rattle.streams.specs.Stream.{feed_text}
use Rattle.lines.specs.Blocks.{taken_from, fed_of, fed_out}
use Rattle.lines.specs.OutputRead.{OutputRead}

pub output_read : OutputRead
unfolding in_array at_start taken_from fed_of fed_out
output_read =
    record {
      text = λ x. take_at x.text (replicate (reply_room - length x.text) 0) (length x.text) refl;
      session = λ x. refl;
      state = λ n f block room. refl;
      output = λ n f block out. take_at (feed_text n f (taken_from n f block (length out))) (drop (length (feed_text n f (taken_from n f block (length out)))) out) _ refl;
      past = λ n f block out. drop_at (feed_text n f (taken_from n f block (length out))) (drop (length (feed_text n f (taken_from n f block (length out)))) out) _ refl;
    }
