-- The bytes of answers, by computation. Assumes nothing.
use mathlib.Core.Path.{refl}
use mathlib.Core.List.{flat_map}
use Rattle.requests.specs.Refusals.{number_of}
use Rattle.plans.specs.Places.{counted_of}
use Rattle.grammar.specs.Text.{bytes, tab, newline, hex_digit, hex_text, decimal_digits, decimal_text, line_of}
use Rattle.answers.specs.Replies.{answer_text, register_text, take_lines, set_lines}
use Rattle.answers.specs.ReplyBytes.{ReplyBytes}

pub reply_bytes : ReplyBytes
unfolding flat_map number_of counted_of bytes tab newline hex_digit hex_text decimal_digits decimal_text line_of answer_text register_text take_lines set_lines
reply_bytes = record { accepted = λ k. refl; refused = refl; counter = refl; offcore = refl; latency = refl; written = refl }
