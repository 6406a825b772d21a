-- The examples, by computation: every definition that they reach is unfolded.
use mathlib.Core.Path.{refl}
use mathlib.Core.List.{flat_map}
use Rattle.requests.specs.Askings.{unasked}
use Rattle.requests.specs.Choice.{both}
use Rattle.requests.specs.Devices.{capacity}
use Rattle.requests.specs.Refusals.{number_of}
use Rattle.plans.specs.Places.{counted_of}
use Rattle.grammar.specs.Examples.{tabbed, typed}
use Rattle.grammar.specs.Fields.{fields, same_bytes_lem}
use Rattle.grammar.specs.Numbers.{digit_of, number_from, decimal_of, hex_of}
use Rattle.grammar.specs.Text.{bytes, tab, newline, hex_digit, hex_text, decimal_digits, decimal_text, line_of}
use Rattle.sessions.specs.Sessions.{queue_limit, vacant, padded, new_session, unassigned, turn_answer, plan_of}
use Rattle.answers.specs.Examples.{taken, Examples, Readings}
use Rattle.answers.specs.Reader.{take_says, set_says, no_says, fields_say, lines_of, lines_say, reply_says}
use Rattle.answers.specs.Replies.{answer_text, register_text, take_lines, set_lines, turn_reply}

pub examples_hold : Examples
unfolding flat_map unasked capacity number_of counted_of tabbed typed bytes tab newline hex_digit hex_text decimal_digits decimal_text line_of queue_limit vacant padded new_session unassigned turn_answer plan_of taken answer_text register_text take_lines set_lines turn_reply
examples_hold = refl

pub readings_hold : Readings
unfolding flat_map both tabbed typed fields same_bytes_lem digit_of number_from decimal_of hex_of bytes tab newline take_says set_says no_says fields_say lines_of lines_say reply_says
readings_hold = refl
