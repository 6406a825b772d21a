-- The examples, by computation: every definition that they reach is unfolded.
use mathlib.Core.Path.{refl}
use Rattle.requests.specs.Choice.{both, first_holding}
use Rattle.requests.specs.Devices.{letter_of, devices, named, device_of}
use Rattle.grammar.specs.Examples.{tabbed, Examples}
use Rattle.grammar.specs.Fields.{fields, same_bytes_lem}
use Rattle.grammar.specs.Letters.{lettered}
use Rattle.grammar.specs.Numbers.{digit_of, number_from, decimal_of, hex_of, core_number_of, core_of}
use Rattle.grammar.specs.Parse.{longest, too_long_lem, parse_text, is_closed, text_length, parse_line}
use Rattle.grammar.specs.Text.{bytes, tab, newline}
use Rattle.grammar.specs.Verbs.{line_from, open_formats, open_as, open_with, open_on, open_line, event_line, packet_line, offcore_line, latency_line, drop_line, turn_line, has_verb, verbs, record_of}

pub examples_hold : Examples
unfolding both first_holding letter_of devices named device_of tabbed fields same_bytes_lem lettered digit_of number_from decimal_of hex_of core_number_of core_of longest too_long_lem parse_text is_closed text_length parse_line bytes tab newline line_from open_formats open_as open_with open_on open_line event_line packet_line offcore_line latency_line drop_line turn_line has_verb verbs record_of
examples_hold = refl
