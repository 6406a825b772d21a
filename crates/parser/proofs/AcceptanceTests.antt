-- The examples, by computation: every definition that they reach is unfolded.
use mathlib.Core.Path.{refl}
use mathlib.Core.List.{flat_map}
use Rattle.requests.specs.Choice.{both, first_holding}
use Rattle.requests.specs.Devices.{letter_of, devices, named, device_of, packets_on}
use Rattle.grammar.specs.Examples.{tabbed, typed}
use Rattle.grammar.specs.Fields.{fields, same_bytes_lem}
use Rattle.grammar.specs.Letters.{lettered}
use Rattle.grammar.specs.Numbers.{digit_of, number_from, decimal_of, hex_of, core_number_of, core_of}
use Rattle.grammar.specs.Parse.{longest, too_long_lem, is_closed, text_length}
use Rattle.grammar.specs.Text.{bytes, tab, newline}
use Rattle.grammar.specs.Verbs.{line_from, open_formats, open_as, open_with, open_on, open_line, event_line, packet_line, offcore_line, latency_line, drop_line, turn_line, has_verb, verbs, record_of}
use Rattle.names.specs.EventNames.{name_byte, name_bytes, longest_name, is_name}
use Rattle.names.specs.Lists.{row_texts, is_ended, all_formed, well_formed, lists_formed}
use Rattle.names.specs.LookUp.{top_row, row_named}
use Rattle.names.specs.Named.{unlisted, foreign, request_for, request_named}
use Rattle.names.specs.Rows.{numbers_on, row_of, has_name}
use Rattle.parser.specs.ParseWith.{add_named, named_line, record_with, parse_text_with, parse_line_with}
use Rattle.parser.specs.Examples.{Examples}

pub examples_hold : Examples
unfolding flat_map both first_holding letter_of devices named device_of packets_on tabbed typed fields same_bytes_lem lettered digit_of number_from decimal_of hex_of core_number_of core_of longest too_long_lem is_closed text_length bytes tab newline line_from open_formats open_as open_with open_on open_line event_line packet_line offcore_line latency_line drop_line turn_line has_verb verbs record_of name_byte name_bytes longest_name is_name row_texts is_ended all_formed well_formed lists_formed top_row row_named unlisted foreign request_for request_named numbers_on row_of has_name add_named named_line record_with parse_text_with parse_line_with
examples_hold = refl
